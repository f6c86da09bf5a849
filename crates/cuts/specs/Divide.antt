-- A permitted cutting (RULES, spreading) divides the whole image into pieces of at least 1 byte, every byte in exactly one: said byte by byte. Definitions only.
use Rattle.std.specs.Prelude.{◌≡◌, ℕ, ◌+◌, ◌≤◌, ◌<◌, Bool, ◌&&◌, List, [], ◌∷◌, leb, ltb}
use Rattle.refusal.specs.Said.{pick}
use Rattle.cuts.specs.Cut.{Piece}

-- byte i lies in the piece
abbrev pub holds : Piece → ℕ → Bool
holds p i = leb p.offset i && ltb i (p.offset + p.size)

-- how many of the pieces byte i lies in
unfoldable pub holders : ℕ → List Piece → ℕ
holders i [] = 0
holders i (p ∷ ps) = pick (holds p i) 1 0 + holders i ps

-- each piece has at least 1 byte
unfoldable pub NonEmpty : List Piece → Type 0
NonEmpty [] = Unit {0}
NonEmpty (p ∷ ps) = (1 ≤ p.size) × NonEmpty ps

-- offsets never fall, from lo on
unfoldable pub Ordered : ℕ → List Piece → Type 0
Ordered lo [] = Unit {0}
Ordered lo (p ∷ ps) = (lo ≤ p.offset) × Ordered p.offset ps

-- the pieces divide an image of n bytes: each of its bytes lies in exactly one, and no byte past it in any
pub record Divides (n : ℕ) (ps : List Piece) : Type 0 where
  pub non_empty : NonEmpty ps
  pub ordered : Ordered 0 ps
  pub once : (i : ℕ) → i < n → holders i ps ≡ 1
  pub inside : (i : ℕ) → n ≤ i → holders i ps ≡ 0
