-- What is read of a frame's bytes. Definitions only.
use Rattle.std.specs.Prelude.{ℕ, zero, suc, ◌+◌, ◌/◌, ◌%◌, List, [], ◌∷◌, map, Bool, true, ◌&&◌, length, take, drop, ltb, leb, eqb, Option, Some, None}
use Rattle.refusal.specs.Said.{pick}
use Rattle.wire.specs.Bytes.{byte_at, le16, le32}
use Rattle.pdu.specs.declared.PduFields.{PduFields}
use Rattle.pdu.specs.Pdu.{index_at, address_at, flags_at, irq_at, header_bytes, pdu_overhead, frame_header_bytes, length_past, circulated_bit, circulated_in_extra, more_bit, type_bit, Pdu, follows}

-- the length in flags, or in a frame's header
abbrev pub length_of : ℕ → ℕ
length_of w = w % length_past

-- where the PDU at i ends that has these flags
abbrev pub pdu_end : ℕ → ℕ → ℕ
pdu_end i flags = i + (pdu_overhead + length_of flags)

-- the PDU at i fits, and more-follows stands exactly if it does not end at `end`
unfoldable pub rightly : ℕ → ℕ → ℕ → Bool
rightly i end flags = pick (ltb flags more_bit) (eqb (pdu_end i flags) end) (ltb (pdu_end i flags) end)

-- what the bytes of a frame are: no frame, or where its PDUs start, in order
pub data Places : Type 0 where
  bad : Places
  good : List ℕ → Places

abbrev pub before : ℕ → Places → Places
before p bad = bad
before p (good l) = good (p ∷ l)

-- the PDU at i with these flags, and the rest behind it, if it is not the last
unfoldable pub body_at : (ℕ → Places) → ℕ → ℕ → ℕ → Places
body_at rest i end flags =
    pick (rightly i end flags) (before i (pick (eqb (pdu_end i flags) end) (good []) (rest (pdu_end i flags)))) bad

-- the PDUs of s from i to `end`; the first argument bounds their number
unfoldable pub places_at : ℕ → List ℕ → ℕ → ℕ → Places
places_at zero s i end = bad
places_at (suc f) s i end = body_at (λ next. places_at f s next end) i end (le16 s (i + flags_at))

-- the frame's header is there, its type is 1 (bit 11 isn't looked at), and its length lies within the bytes
unfoldable pub headed : List ℕ → Bool
headed s =
    leb frame_header_bytes (length s)
    && eqb (le16 s 0 / type_bit) 1
    && leb (length_of (le16 s 0) + frame_header_bytes) (length s)

-- .. and where its PDUs end then
abbrev pub pdus_end : List ℕ → Option ℕ
pdus_end s = pick (headed s) (Some (length_of (le16 s 0) + frame_header_bytes)) None

-- a whole frame; length 0 is no PDUs
unfoldable pub frame_of : List ℕ → Places
frame_of s =
    let n = length_of (le16 s 0) in
    pick (headed s) (pick (eqb n 0) (good []) (places_at (length s) s frame_header_bytes (n + frame_header_bytes))) bad

-- the fields of the PDU whose header starts at i
unfoldable pub seen_at : List ℕ → ℕ → PduFields
seen_at s i =
    let flags = le16 s (i + flags_at) in
    let n = length_of flags in
    record {
      command = byte_at s i;
      index = byte_at s (i + index_at);
      address = le32 s (i + address_at);
      len = n;
      circulated = eqb (flags / circulated_bit % 2) 1;
      more_follows = leb more_bit flags;
      irq = le16 s (i + irq_at);
      place = i + header_bytes;
      counter = le16 s (i + (header_bytes + n));
    }

-- .. and its payload
unfoldable pub payload_of : List ℕ → PduFields → List ℕ
payload_of s v = take v.len (drop v.place s)

pub data Reading : Type 0 where
  refused : Reading
  read : List PduFields → Reading

abbrev pub seen_all : List ℕ → Places → Reading
seen_all s bad = refused
seen_all s (good l) = read (map (seen_at s) l)

-- the PDUs of a frame, or its refusal
unfoldable pub read_of : List ℕ → Reading
read_of s = seen_all s (frame_of s)

-- what was read; a refusal comes with an empty list
abbrev pub pdus_of : Reading → List PduFields
pdus_of refused = []
pdus_of (read vs) = vs

-- what should be seen of these PDUs, the first of which starts at i; more-follows is m
abbrev pub shown : ℕ → Pdu → ℕ → PduFields
shown i p m =
    record {
      command = p.command;
      index = p.index;
      address = p.address;
      len = length p.payload;
      circulated = eqb (p.extra / circulated_in_extra) 1;
      more_follows = eqb m 1;
      irq = p.irq;
      place = i + header_bytes;
      counter = p.counter;
    }

unfoldable pub shown_all : ℕ → List Pdu → List PduFields
shown_all i [] = []
shown_all i (p ∷ ps) = shown i p (follows ps) ∷ shown_all (i + (pdu_overhead + length p.payload)) ps

-- where these PDUs start, the first of them at i
unfoldable pub starts : ℕ → List Pdu → List ℕ
starts i [] = []
starts i (p ∷ ps) = i ∷ starts (i + (pdu_overhead + length p.payload)) ps

-- more-follows set in the last one
unfoldable pub with_more : List PduFields → List PduFields
with_more [] = []
with_more (v ∷ []) =
    record {
      command = v.command;
      index = v.index;
      address = v.address;
      len = v.len;
      circulated = v.circulated;
      more_follows = true;
      irq = v.irq;
      place = v.place;
      counter = v.counter;
    }
    ∷ []
with_more (v ∷ w ∷ vs) = v ∷ with_more (w ∷ vs)
