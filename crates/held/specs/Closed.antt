-- A closed range, which a refused `new` hands out: every later call on it is 14, and leaves range, buffer and image as they are (RULES, range and refusals). Definitions only.
use Rattle.std.specs.Prelude.{ℕ, ◌≡◌, List, []}
use Rattle.refusal.specs.Said.{Said, refuses}
use Rattle.held.specs.Range.{alone, after, skip_of, byte_of, read_of, read_into, exact_of, after_exact, exact_into, write_of, written}
use Rattle.held.specs.declared.EepromRange.{EepromRange}
use Rattle.held.specs.declared.EepromRangeMut.{EepromRangeMut}

-- what a call outside the bounds says
abbrev pub bad : Said
bad = refuses 14 []

-- of a range that is read: for each call what it says, the range after it, and the buffer
pub record Closed (r : EepromRange) : Type 0 where
  pub skip_ahead_bytes_lem : (skip : ℕ) → (alone (skip_of r skip) ≡ bad) × (after r (skip_of r skip) ≡ r)
  pub read_byte : (alone (byte_of r) ≡ bad) × (after r (byte_of r) ≡ r)
  pub read : (buf : List ℕ) → (alone (read_of r buf) ≡ bad) × ((after r (read_of r buf) ≡ r) × (read_into r buf ≡ buf))
  pub read_exact_lem : (buf : List ℕ) → (exact_of r buf ≡ bad) × ((after_exact r buf ≡ r) × (exact_into r buf ≡ buf))

-- of a range that is written: what a write says, and the range after it with the image in it
pub record ClosedMut (r : EepromRangeMut) : Type 0 where
  pub write : (bytes : List ℕ) → (write_of r bytes ≡ bad) × (written r bytes ≡ r)
