-- What a permitted cutting of an image is: RULES, spreading. Nothing here knows how one is found. Definitions only.
use Rattle.std.specs.Prelude.{◌≡◌, ℕ, ◌+◌, ◌≤◌, List, [], ◌∷◌, eqb}
use Rattle.refusal.specs.Said.{pick}
use Rattle.pdu.specs.Pdu.{pdu_overhead}

-- a piece of the image: `size` bytes from `offset` on, put into area number `area`
pub record Piece : Type 0 where
  pub area : ℕ
  pub offset : ℕ
  pub size : ℕ

-- pieces of at least 1 byte, in image order, with every byte from o up to n in exactly one
unfoldable pub Chain : ℕ → ℕ → List Piece → Type 0
Chain o n [] = o ≡ n
Chain o n (p ∷ ps) = (p.offset ≡ o) × (1 ≤ p.size) × Chain (o + p.size) n ps

-- area numbers that never fall, from lo at least to m at most
unfoldable pub Rising : ℕ → ℕ → List Piece → Type 0
Rising lo m [] = Unit {0}
Rising lo m (p ∷ ps) = (lo ≤ p.area) × (p.area ≤ m) × Rising p.area m ps

-- the bytes that the pieces of area k need: 12 added to each
unfoldable pub load : ℕ → List Piece → ℕ
load k [] = 0
load k (p ∷ ps) = pick (eqb p.area k) (p.size + pdu_overhead) 0 + load k ps

-- a permitted cutting of n bytes over the areas 1 to m, where area k has `free k` bytes free at the start
pub record Permitted (free : ℕ → ℕ) (m n : ℕ) (ps : List Piece) : Type 0 where
  pub chain : Chain 0 n ps
  pub rising : Rising 1 m ps
  pub fits : (k : ℕ) → load k ps ≤ free k

-- the free bytes of a row of areas of size s: f in the first, and after it the whole size
abbrev pub free_of : ℕ → ℕ → ℕ → ℕ
free_of f s k = pick (eqb k 1) f s

-- the last piece's area, or l where there is no piece
unfoldable pub last_area : ℕ → List Piece → ℕ
last_area l [] = l
last_area l (p ∷ ps) = last_area p.area ps

-- k is the earliest area that a permitted cutting ends in; 0 where it has no piece
pub record Earliest (free : ℕ → ℕ) (m n k : ℕ) : Type 0 where
  pub cutting : List Piece
  pub permitted : Permitted free m n cutting
  pub last : last_area 0 cutting ≡ k
  pub least : (ps : List Piece) → Permitted free m n ps → k ≤ last_area 0 ps
