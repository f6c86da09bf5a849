-- The same division a byte at a time, as a loop does it from a table of 256. Definitions only.
use Rattle.std.specs.Prelude.{ℕ, zero, suc, ◌*◌, ◌%◌, List, [], ◌∷◌, ltb}
use Rattle.std.specs.Int.Bits.{bit_xor}
use Rattle.refusal.specs.Said.{pick}
use Rattle.crc.specs.Crc.{polynomial, byte_bits}

-- what a byte's highest bit weighs
abbrev pub top_bit : ℕ
top_bit = 128

-- a place to the left, and the polynomial taken off where a one leaves at the top
unfoldable pub shifted : ℕ → ℕ
shifted c = pick (ltb c top_bit) (c * 2) (bit_xor (c % top_bit * 2) polynomial)

-- k places
unfoldable pub shifted_by : ℕ → ℕ → ℕ
shifted_by zero c = c
shifted_by (suc k) c = shifted_by k (shifted c)

-- n entries of the table, from that of c on: what eight places make of each
unfoldable pub entries_from : ℕ → ℕ → List ℕ
entries_from zero c = []
entries_from (suc n) c = shifted_by byte_bits c ∷ entries_from n (suc c)

-- the table: an entry for each byte
abbrev pub byte_count : ℕ
byte_count = 256

abbrev pub entries : List ℕ
entries = entries_from byte_count 0

-- the next byte added, and eight places
abbrev pub with_byte : ℕ → ℕ → ℕ
with_byte c b = shifted_by byte_bits (bit_xor c b)

-- byte by byte from c on
unfoldable pub stepped : ℕ → List ℕ → ℕ
stepped c [] = c
stepped c (b ∷ bs) = stepped (with_byte c b) bs
