-- The greedy plan: areas in order, each taking as much as it has room for (RULES, spreading: one push as by `push_pdu_slice_rest`). Definitions only.
use Rattle.std.specs.Prelude.{ℕ, zero, suc, ◌+◌, ◌-◌, min, List, [], ◌∷◌}
use Rattle.pdu.specs.Pdu.{pdu_overhead}
use Rattle.cuts.specs.Cut.{Piece}

-- a piece in front, unless it is empty
abbrev pub piece : ℕ → ℕ → ℕ → List Piece → List Piece
piece a o zero ps = ps
piece a o (suc t) ps = record { area = a; offset = o; size = suc t } ∷ ps

module _ (free : ℕ → ℕ) where
  -- the payload that area k has room for: its free bytes less 12, never below 0
  abbrev pub room : ℕ → ℕ
  room k = free k - pdu_overhead

  -- the pieces that the d areas after area i take of the `left` bytes from offset o on
  unfoldable pub greedy_from : ℕ → ℕ → ℕ → ℕ → List Piece
  greedy_from zero i o left = []
  greedy_from (suc d) i o left =
      let t = min left (room (suc i)) in
      piece (suc i) o t (greedy_from d (suc i) (o + t) (left - t))

  -- the bytes that they leave over
  unfoldable pub over_from : ℕ → ℕ → ℕ → ℕ
  over_from zero i left = left
  over_from (suc d) i left = over_from d (suc i) (left - min left (room (suc i)))

  -- the greedy plan of n bytes over the areas 1 to m, and the bytes that it leaves over
  abbrev pub greedy : ℕ → ℕ → List Piece
  greedy m n = greedy_from m 0 0 n

  abbrev pub over : ℕ → ℕ → ℕ
  over m n = over_from m 0 n
