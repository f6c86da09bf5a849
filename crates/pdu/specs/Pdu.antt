-- What a PDU is on the wire (ETG1000.4, 5.4.1.2), a row of PDUs, and the frame's header before them (5.3.3). Definitions only.
use Rattle.std.specs.Prelude.{ℕ, ◌+◌, ◌*◌, ◌<◌, List, [], ◌∷◌, ◌++◌, length}
use Rattle.wire.specs.Bytes.{word_past, long_past, bytes16, bytes32}

-- the bytes of a PDU's header; of a PDU over its payload: the header, and the working counter behind the payload; of a frame's header
abbrev pub header_bytes : ℕ
header_bytes = 10

abbrev pub pdu_overhead : ℕ
pdu_overhead = 12

abbrev pub frame_header_bytes : ℕ
frame_header_bytes = 2

-- where the fields of a PDU's header stand: the command first, then index, address, flags and IRQ
abbrev pub index_at : ℕ
index_at = 1

abbrev pub address_at : ℕ
address_at = 2

abbrev pub flags_at : ℕ
flags_at = 6

abbrev pub irq_at : ℕ
irq_at = 8

-- the largest area, and the largest length of a PDU or a frame: what 11 bits hold; so many PDUs lie in it at most
abbrev pub area_most : ℕ
area_most = 2047

abbrev pub pdus_most : ℕ
pdus_most = 170

-- what bits weigh: the first past a length's 11; the flags 'circulating' and 'more follow'; the first of a frame's type
abbrev pub length_past : ℕ
length_past = 2048

abbrev pub circulated_bit : ℕ
circulated_bit = 16384

abbrev pub more_bit : ℕ
more_bit = 32768

abbrev pub type_bit : ℕ
type_bit = 4096

-- where more-follows stands in a header's bytes, and what it weighs there: bit 15 of the flags is bit 7 of their second byte
abbrev pub more_at : ℕ
more_at = 7

abbrev pub more_in_byte : ℕ
more_in_byte = 128

-- the first number past the four bits between the length and more-follows, and what the highest of them weighs, which is 'circulating'
abbrev pub extra_past : ℕ
extra_past = 16

abbrev pub circulated_in_extra : ℕ
circulated_in_extra = 8

pub record Pdu : Type 0 where
  pub command : ℕ
  pub index : ℕ
  pub address : ℕ
  -- flag bits 11 to 14: three reserved ones and 'circulating'
  pub extra : ℕ
  pub irq : ℕ
  pub payload : List ℕ
  -- the working counter
  pub counter : ℕ

-- the fields that are packed lie in the bits that they have
pub record Fits (p : Pdu) : Type 0 where
  pub address_fits : p.address < long_past
  pub extra_fits : p.extra < extra_past
  pub irq_fits : p.irq < word_past
  pub payload_fits : length p.payload < length_past
  pub counter_fits : p.counter < word_past

-- the 16 flag bits: length in 0 to 10, then those of `extra`, and more-follows, 0 or 1, in 15
abbrev pub flags_of : ℕ → ℕ → ℕ → ℕ
flags_of len extra m = len + length_past * extra + more_bit * m

-- a PDU's header: command, index, address, flags, IRQ
abbrev pub header_of : ℕ → ℕ → ℕ → ℕ → ℕ → List ℕ
header_of command index address flags irq = command ∷ index ∷ bytes32 address ++ bytes16 flags ++ bytes16 irq

abbrev pub head : Pdu → ℕ → List ℕ
head p m = header_of p.command p.index p.address (flags_of (length p.payload) p.extra m) p.irq

-- a PDU's bytes
abbrev pub pdu_bytes : Pdu → ℕ → List ℕ
pdu_bytes p m = head p m ++ (p.payload ++ bytes16 p.counter)

-- 1 where PDUs follow
abbrev pub follows : List Pdu → ℕ
follows [] = 0
follows (p ∷ ps) = 1

-- PDUs one after the other; more-follows stands in all but the last
unfoldable pub layout : List Pdu → List ℕ
layout [] = []
layout (p ∷ ps) = pdu_bytes p (follows ps) ++ layout ps

-- .. where it stands in all of them
unfoldable pub chained : List Pdu → List ℕ
chained [] = []
chained (p ∷ ps) = pdu_bytes p 1 ++ chained ps

-- where the last one starts
unfoldable pub last_at : List Pdu → ℕ
last_at [] = 0
last_at (p ∷ []) = 0
last_at (p ∷ q ∷ ps) = pdu_overhead + length p.payload + last_at (q ∷ ps)

unfoldable pub AllFit : List Pdu → Type 0
AllFit [] = Unit {0}
AllFit (p ∷ ps) = Fits p × AllFit ps

-- the frame's header: the length, and type 1 above it
abbrev pub frame_header : ℕ → List ℕ
frame_header used = bytes16 (used + type_bit)
