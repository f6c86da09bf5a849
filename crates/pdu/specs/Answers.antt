-- What packing a frame's header says and leaves, and the numbers of a PDU's fields (RULES, frames). Definitions only.
use Rattle.std.specs.Prelude.{ℕ, List, [], ◌∷◌, leb, Result, Ok, Err}
use Rattle.refusal.specs.Said.{Said, gives, refuses, said_of, pick}
use Rattle.refusal.specs.declared.Refusal.{Refusal}
use Rattle.wire.specs.Bytes.{bit}
use Rattle.pdu.specs.declared.PduFields.{PduFields}
use Rattle.pdu.specs.Pdu.{area_most, frame_header}

-- the header itself is said by `header_bytes_of`, and this says that it was made
abbrev pub said_header : Result (List ℕ) Refusal → Said
said_header (Ok b) = gives []
said_header (Err x) = said_of x

-- the two bytes of the header, zeros in place of one that is refused
abbrev pub header_bytes_of : Result (List ℕ) Refusal → List ℕ
header_bytes_of (Ok b) = b
header_bytes_of (Err x) = 0 ∷ 0 ∷ []

-- a frame holds at most 2,047 bytes of PDUs, else it is 14
unfoldable pub header_said : ℕ → Said
header_said used = pick (leb used area_most) (gives []) (refuses 14 [])

-- the two bytes
unfoldable pub header_left : ℕ → List ℕ
header_left used = pick (leb used area_most) (frame_header used) (0 ∷ 0 ∷ [])

-- the fields of a PDU as numbers, in the order of the record: a flag is 1 or 0
abbrev pub pdu_values : PduFields → List ℕ
pdu_values p =
    p.command ∷ p.index ∷ p.address ∷ p.len ∷ bit p.circulated ∷ bit p.more_follows ∷ p.irq ∷ p.place ∷ p.counter ∷ []
