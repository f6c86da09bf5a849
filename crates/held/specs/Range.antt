-- A range with its image inside it, over the rules of `eeprom`: RULES, range and forms. Definitions only.
-- What the core says of a range made, a skip, a byte and a read ends in the range after it, as position and end: here the answer is said alone, and the range is where it says.
-- Of an exact read and a write the core says the answer alone, and has the range beside it.
use Rattle.std.specs.Prelude.{ℕ, ◌-◌, List, length, take, get_or}
use denote.Ref.{Bor, MutBor, at_last}
use Rattle.refusal.specs.Said.{Said, gives, absent, refuses}
use Rattle.eeprom.specs.Range.{byte_said, skip_said, read_said, read_buf, exact_said, exact_pos, exact_buf, write_said, write_pos, write_image}
use Rattle.held.specs.declared.EepromRange.{EepromRange}
use Rattle.held.specs.declared.EepromRangeMut.{EepromRangeMut}

-- ---- what the core says, taken apart

-- the answer alone
unfoldable pub alone : Said → Said
alone (gives l) = gives (take (length l - 2) l)
alone absent = absent
alone (refuses n l) = refuses n l

-- the position after it; where it says none, the position stays
unfoldable pub stands : ℕ → Said → ℕ
stands pos (gives l) = get_or l (length l - 2) pos
stands pos absent = pos
stands pos (refuses n l) = pos

-- the end of the range that a refused `new` hands out: an odd one, so that every later call on it is 14
abbrev pub closed_end : ℕ
closed_end = 1

-- the end of the range that it gives; else that one
unfoldable pub ends : Said → ℕ
ends (gives l) = get_or l (length l - 1) closed_end
ends absent = closed_end
ends (refuses n l) = closed_end

-- ---- the range

-- the range over this image that the core gives; where it refuses, a closed one at 0
abbrev pub range_on : Bor (List ℕ) → Said → EepromRange
range_on image s = record { image = image; byte_pos = stands 0 s; end = ends s }

-- the same over an image that is lent to be written
abbrev pub range_mut_on : MutBor (List ℕ) → Said → EepromRangeMut
range_mut_on image s = record { image = image; byte_pos = stands 0 s; end = ends s }

-- the range, at another position
abbrev pub moved_to : EepromRange → ℕ → EepromRange
moved_to r pos = record { image = r.image; byte_pos = pos; end = r.end }

-- the range after a call of which the core says s: the same image and end, the position where it says
abbrev pub after : EepromRange → Said → EepromRange
after r s = moved_to r (stands r.byte_pos s)

-- ---- what the core says of a range

-- of a skip
abbrev pub skip_of : EepromRange → ℕ → Said
skip_of r skip = skip_said r.byte_pos r.end skip

-- of a byte read
abbrev pub byte_of : EepromRange → Said
byte_of r = byte_said r.image.now r.byte_pos r.end

-- of a read into the buffer
abbrev pub read_of : EepromRange → List ℕ → Said
read_of r buf = read_said r.image.now r.byte_pos r.end (length buf)

-- what a read leaves in the buffer
abbrev pub read_into : EepromRange → List ℕ → List ℕ
read_into r buf = read_buf r.image.now r.byte_pos r.end buf

-- of an exact read into the whole buffer
abbrev pub exact_of : EepromRange → List ℕ → Said
exact_of r buf = exact_said r.image.now r.byte_pos r.end (length buf)

-- the range after it: the same image and end, the position where the core stands
abbrev pub after_exact : EepromRange → List ℕ → EepromRange
after_exact r buf = moved_to r (exact_pos r.image.now r.byte_pos r.end (length buf))

-- what an exact read leaves in the buffer
abbrev pub exact_into : EepromRange → List ℕ → List ℕ
exact_into r buf = exact_buf r.image.now r.byte_pos r.end buf

-- ---- what it says of a range that is written

-- of a write of these bytes
abbrev pub write_of : EepromRangeMut → List ℕ → Said
write_of r bytes = write_said r.image.now r.byte_pos r.end bytes

-- the range after a write: the same loan at the image that the core leaves, the position where the core stands
abbrev pub written : EepromRangeMut → List ℕ → EepromRangeMut
written r bytes =
    record {
      image = at_last r.image (write_image r.image.now r.byte_pos r.end bytes);
      byte_pos = write_pos r.image.now r.byte_pos r.end bytes;
      end = r.end;
    }
