-- Where the fields of the SII's fixed area and of its category General lie. Nothing else says an offset but
-- src/layout.rt, once and under the same name. Definitions only.
use Rattle.std.specs.Prelude.{ℕ, ◌+◌, ◌*◌, List}
use Rattle.wire.specs.Bytes.{byte_at, le16, le32}

-- ---- a field: its width of 8, 16 or 32 bits, low byte first, and how many bytes it lies behind the first of its record

pub data Field : Type 0 where
  byte : ℕ → Field
  word : ℕ → Field
  long : ℕ → Field

abbrev pub start : Field → ℕ
start (byte k) = k
start (word k) = k
start (long k) = k

-- how many bytes it has, and the first byte behind it
abbrev pub width : Field → ℕ
width (byte k) = 1
width (word k) = 2
width (long k) = 4

abbrev pub past : Field → ℕ
past f = start f + width f

-- what a field of the record at p holds
abbrev pub field : List ℕ → ℕ → Field → ℕ
field image p (byte k) = byte_at image (p + k)
field image p (word k) = le16 image (p + k)
field image p (long k) = le32 image (p + k)

-- under this bound the places that private functions are given, so that no sum of them passes 32 bits; an image ends far before it
abbrev pub place_most : ℕ
place_most = 1000000

-- ---- the fixed area (ETG2010 Table 2, ETG1000.6 Table 16), whose addresses count words of 16 bits

abbrev pub at_word : ℕ → ℕ
at_word w = 2 * w

-- what a field of the fixed area holds
abbrev pub fixed : List ℕ → Field → ℕ
fixed image f = field image 0 f

abbrev pub configured_station_alias : Field
configured_station_alias = word (at_word 0x0004)

abbrev pub checksum : Field
checksum = word (at_word 0x0007)

abbrev pub vendor_id_field : Field
vendor_id_field = long (at_word 0x0008)

abbrev pub product_code : Field
product_code = long (at_word 0x000a)

abbrev pub revision_number : Field
revision_number = long (at_word 0x000c)

abbrev pub serial_number : Field
serial_number = long (at_word 0x000e)

abbrev pub receive_mailbox_offset : Field
receive_mailbox_offset = word (at_word 0x0018)

abbrev pub receive_mailbox_size : Field
receive_mailbox_size = word (at_word 0x0019)

abbrev pub send_mailbox_offset : Field
send_mailbox_offset = word (at_word 0x001a)

abbrev pub send_mailbox_size : Field
send_mailbox_size = word (at_word 0x001b)

-- the protocols' low byte; the high one has no defined bit
abbrev pub mailbox_protocol : Field
mailbox_protocol = byte (at_word 0x001c)

-- the memory's size in units of 1,024 bits, less 1
abbrev pub memory_size : Field
memory_size = word (at_word 0x003e)

-- 1,024 bits
abbrev pub unit_bytes : ℕ
unit_bytes = 128

-- ---- the category General (ETG2010 Table 7, ETG1000.6 Table 21)

-- the bytes that types.rs decodes; ETG2010 has 32
abbrev pub general_bytes : ℕ
general_bytes = 18

-- indices of strings: the device's group, image, order number and name
abbrev pub group_idx : Field
group_idx = byte 0x00

abbrev pub img_idx : Field
img_idx = byte 0x01

abbrev pub order_idx : Field
order_idx = byte 0x02

abbrev pub name_idx : Field
name_idx = byte 0x03

abbrev pub coe_details_field : Field
coe_details_field = byte 0x05

abbrev pub foe_details : Field
foe_details = byte 0x06

abbrev pub eoe_details : Field
eoe_details = byte 0x07

abbrev pub general_flags : Field
general_flags = byte 0x0b

-- a signed number of mA, here by its 16 bits
abbrev pub current_on_e_bus : Field
current_on_e_bus = word 0x0c

-- the ports and the physical memory address where types.rs decodes them, two bytes before their place in ETG2010
abbrev pub ports_of_types : Field
ports_of_types = word 0x0e

abbrev pub address_of_types : Field
address_of_types = word 0x10

-- .. and in ETG2010 Table 7, which has a second group index before them: four bits a port, port 0 in the lowest
abbrev pub physical_port : Field
physical_port = word 0x10

abbrev pub physical_memory_address : Field
physical_memory_address = word 0x12

-- ---- what a type admits: a set of flags has the bits from 0 up to a bound, and no other

-- mailbox protocols (ETG2010 Table 4, ETG1000.6 Table 18): AoE, EoE, CoE, FoE, SoE, VoE
abbrev pub protocols_below : ℕ
protocols_below = 0x40

-- CoE details: SDO, SDO info, PDO assign, PDO configuration, upload at startup, SDO complete access
abbrev pub coe_below : ℕ
coe_below = 0x40

-- General's flags: SafeOp, no LRW, mailbox data link layer, identification by AL status, by physical memory
abbrev pub flags_below : ℕ
flags_below = 0x20

-- the last kind of a port that is listed (types.rs, `PortStatus`): not used, MII, reserved, EBus, fast hot connect
abbrev pub port_status_last : ℕ
port_status_last = 4
