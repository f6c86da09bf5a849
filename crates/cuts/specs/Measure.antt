-- Counts that the laws of cuttings speak of. Definitions only.
use Rattle.std.specs.Prelude.{ℕ, zero, suc, ◌+◌, List, [], ◌∷◌, eqb, ltb}
use Rattle.refusal.specs.Said.{pick}
use Rattle.cuts.specs.Cut.{Piece}
use Rattle.cuts.specs.Greedy.{room}

-- the image's bytes in area k
unfoldable pub size_in : ℕ → List Piece → ℕ
size_in k [] = 0
size_in k (p ∷ ps) = pick (eqb p.area k) p.size 0 + size_in k ps

-- the image's bytes in the areas after area i
unfoldable pub size_after : ℕ → List Piece → ℕ
size_after i [] = 0
size_after i (p ∷ ps) = pick (ltb i p.area) p.size 0 + size_after i ps

-- the payload that the d areas after area i have room for
unfoldable pub cap : (ℕ → ℕ) → ℕ → ℕ → ℕ
cap free i zero = 0
cap free i (suc d) = room free (suc i) + cap free (suc i) d
