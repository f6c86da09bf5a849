-- Where `new` is refused, the range that it hands out is closed: its end is odd, and an odd end is outside the bounds of every call.
use Prim.Native.Nat.{ℕ}
use mathlib.Core.Path.{◌≡◌, refl, ap}
use mathlib.Core.List.{List, []}
use mathlib.Core.Bool.{false}
use denote.Ref.{Bor, MutBor, at_last}
use Rattle.refusal.specs.Said.{Said, refuses}
use Rattle.eeprom.specs.Image.{fine}
use Rattle.eeprom.specs.Range.{new_said}
use Rattle.eeprom.proofs.Laws.{bounds_odd, fine_odd, skip_bad, byte-bad, read-bad, exact_bad, write-bad}
use Rattle.held.specs.Range.{alone, stands, ends, closed_end, range_on, range_mut_on, after, moved_to, skip_of, byte_of, read_of}
use Rattle.held.specs.Closed.{bad, Closed, ClosedMut}
use Rattle.held.specs.declared.EepromRange.{EepromRange}
use Rattle.held.specs.declared.EepromRangeMut.{EepromRangeMut}

-- a call of which the core says 14, and what that leaves of the range
bad_apart : (r : EepromRange) (s : Said) → s ≡ bad → (alone s ≡ bad) × (after r s ≡ r)
unfolding alone stands
bad_apart r s e = (ap alone e, ap (after r) e)

-- the closed range over an image
abbrev shut : Bor (List ℕ) → EepromRange
shut image = record { image = image; byte_pos = 0; end = closed_end }

abbrev shut_mut : MutBor (List ℕ) → EepromRangeMut
shut_mut image = record { image = image; byte_pos = 0; end = closed_end }

shut_closed : (image : Bor (List ℕ)) → Closed (shut image)
shut_closed image =
    let f : fine image.now 0 closed_end ≡ false = fine_odd image.now 0 closed_end refl in
    record {
      skip_ahead_bytes_lem = λ n. bad_apart (shut image) (skip_of (shut image) n) (skip_bad 0 closed_end n (bounds_odd 0 closed_end refl));
      read_byte = bad_apart (shut image) (byte_of (shut image)) (byte-bad image.now 0 closed_end f);
      read =
          λ buf.
          let b = read-bad image.now 0 closed_end buf f in
          let a = bad_apart (shut image) (read_of (shut image) buf) b.0 in
          (a.0, (a.1, b.1));
      read_exact_lem =
          λ buf.
          let b = exact_bad image.now 0 closed_end buf f in
          (b.0, (ap (moved_to (shut image)) b.1.0, b.1.1));
    }

shut_closed_mut : (image : MutBor (List ℕ)) → ClosedMut (shut_mut image)
shut_closed_mut image =
    record {
      write =
          λ bytes.
          let b = write-bad image.now 0 closed_end bytes (fine_odd image.now 0 closed_end refl) in
          (b.0, λ i. record { image = at_last image (b.1.1 i); byte_pos = b.1.0 i; end = closed_end });
    }

-- THEOREM: every later call on the range that a refused `new` hands out is 14 and leaves it as it is
pub refused_closed : (image : Bor (List ℕ)) (lent : MutBor (List ℕ)) (word words : ℕ) → new_said word words ≡ refuses 1 [] → Closed (range_on image (new_said word words)) × ClosedMut (range_mut_on lent (new_said word words))
unfolding stands ends
refused_closed image lent word words e = rw e (shut_closed image, shut_closed_mut lent)
