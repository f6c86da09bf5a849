-- The CRC byte by byte, as a loop cites it: the next byte, and the end.
use mathlib.Core.Path.{◌≡◌}
use mathlib.Core.List.{List}
use Prim.Native.Nat.{ℕ, ◌+◌, ◌<◌, ◌≤◌}
use native.Mathlib.Numerals.{add-one}
use lib.ListN.{length, get_or, drop, drop_of_length-le}
use lib.Seq.{drop-cons}
use Rattle.crc.specs.Steps.{with_byte, stepped}

-- a byte more
pub stepped-next : (c : ℕ) (s : List ℕ) (i : ℕ) → i < length s → stepped c (drop i s) ≡ stepped (with_byte c (get_or s i 0)) (drop (i + 1) s)
unfolding stepped
stepped-next c s i h = rw (add-one, drop-cons s i 0)

-- no more bytes
pub stepped_end : (c : ℕ) (s : List ℕ) (i : ℕ) → length s ≤ i → stepped c (drop i s) ≡ c
unfolding stepped
stepped_end c s i h = rw (drop_of_length-le s {i = i} h)
