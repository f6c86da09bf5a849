-- A well-formed frame (ETG1000.4, 5.3.3 and 5.4.1.2): a header, PDUs with more-follows on all but the last, which end at the length, and whatever comes after. Definitions only.
use Rattle.std.specs.Prelude.{◌≡◌, ℕ, ◌+◌, ◌/◌, ◌%◌, ◌≤◌, List, ◌++◌, length, take, drop}
use Rattle.wire.specs.Bytes.{byte_at, le16, le32}
use Rattle.pdu.specs.Pdu.{index_at, address_at, flags_at, irq_at, header_bytes, frame_header_bytes, length_past, extra_past, type_bit, Pdu, layout, AllFit}
use Rattle.pdu.specs.Read.{length_of}

-- s is a frame of these PDUs; bit 11 of the header isn't looked at
pub record WellFormed (s : List ℕ) (ps : List Pdu) : Type 0 where
  pub after : List ℕ
  pub fit : AllFit ps
  pub header_there : frame_header_bytes ≤ length s
  pub type_one : le16 s 0 / type_bit ≡ 1
  pub length_is : length_of (le16 s 0) ≡ length (layout ps)
  pub pdus : drop frame_header_bytes s ≡ layout ps ++ after

-- the PDU that stands at i, all of it
abbrev pub pdu_from : List ℕ → ℕ → Pdu
pdu_from s i =
    let flags = le16 s (i + flags_at) in
    let n = length_of flags in
    record {
      command = byte_at s i;
      index = byte_at s (i + index_at);
      address = le32 s (i + address_at);
      extra = flags / length_past % extra_past;
      irq = le16 s (i + irq_at);
      payload = take n (drop (i + header_bytes) s);
      counter = le16 s (i + (header_bytes + n));
    }
