-- The CRC-8 as a division of polynomials over the bits 0 and 1: RULES, read-out. Definitions only.
-- A polynomial is the list of its coefficients, the highest first; to add or to take away is the exclusive or.
use Rattle.std.specs.Prelude.{ℕ, zero, suc, ◌+◌, ◌*◌, ◌/◌, ◌%◌, List, [], ◌∷◌, ◌++◌, ltb}
use Rattle.std.specs.Int.Bits.{bit_xor}
use Rattle.refusal.specs.Said.{pick}

-- the polynomial x^8 + x^2 + x + 1, without its highest term
abbrev pub polynomial : ℕ
polynomial = 0x07

-- the start value
abbrev pub start : ℕ
start = 0xFF

-- the bits of a byte, and what the polynomial's highest term, x^8, weighs
abbrev pub byte_bits : ℕ
byte_bits = 8

abbrev pub highest_term : ℕ
highest_term = 256

-- the lowest n bits of b, the highest of them first
unfoldable pub bits : ℕ → ℕ → List ℕ
bits zero b = []
bits (suc n) b = bits n (b / 2) ++ (b % 2 ∷ [])

-- the bits of bytes: no reflection
unfoldable pub bits_of : List ℕ → List ℕ
bits_of [] = []
bits_of (b ∷ bs) = bits byte_bits b ++ bits_of bs

-- one step of long division: the next bit is brought down, and the divisor taken off where its x^8 stands
unfoldable pub brought_down : ℕ → ℕ → ℕ
brought_down r t = pick (ltb (r * 2 + t) highest_term) (r * 2 + t) (bit_xor (r * 2 + t) (highest_term + polynomial))

-- what is left of the bits, r being left so far
unfoldable pub remainder : ℕ → List ℕ → ℕ
remainder r [] = r
remainder r (t ∷ ts) = remainder (brought_down r t) ts

-- the start value added to the first byte
unfoldable pub started : List ℕ → List ℕ
started [] = []
started (b ∷ bs) = bit_xor start b ∷ bs

-- the remainder of the bytes and a byte of zeros, started: no final xor
unfoldable pub crc_of : List ℕ → ℕ
crc_of bs = remainder 0 (bits_of (started (bs ++ (0 ∷ []))))
