-- Where the fields of the records lie that the SII's lists are made of. Nothing else says an offset but
-- src/layout.rt, once and under the same name. Definitions only.
use Rattle.std.specs.Prelude.{ℕ}
use Rattle.sii.specs.Layout.{Field, byte, word}

-- ---- the category SyncM of ETG2010 (types.rs, `SyncManager`); its byte 5, the status, is not looked at

abbrev pub sm_bytes : ℕ
sm_bytes = 8

abbrev pub physical_start_address : Field
physical_start_address = word 0x00

abbrev pub sm_length : Field
sm_length = word 0x02

-- operation mode in bits 0 and 1, direction in 2 and 3, then flags
abbrev pub control_register : Field
control_register = byte 0x04

-- the mode that is a mailbox; the other is buffered, 0
abbrev pub mailbox_mode : ℕ
mailbox_mode = 2

-- the directions: the MainDevice reads (0) or writes
abbrev pub direction_last : ℕ
direction_last = 1

-- the flags by the values of their bits
abbrev pub ecat_event_field : ℕ
ecat_event_field = 0x10

abbrev pub dls_user_event_field : ℕ
dls_user_event_field = 0x20

abbrev pub watchdog : ℕ
watchdog = 0x40

abbrev pub enable_sync_m : Field
enable_sync_m = byte 0x06

-- its flags: enable, fixed content, virtual, only in Op
abbrev pub enable_below : ℕ
enable_below = 0x10

abbrev pub sync_m_type : Field
sync_m_type = byte 0x07

-- the usages (types.rs, `SyncManagerType`), from unknown, 0, on
abbrev pub mailbox_write : ℕ
mailbox_write = 1

abbrev pub mailbox_read : ℕ
mailbox_read = 2

abbrev pub process_data_write : ℕ
process_data_write = 3

abbrev pub process_data_read : ℕ
process_data_read = 4

abbrev pub sync_m_type_last : ℕ
sync_m_type_last = process_data_read

-- ---- the category FMMU (ETG1000.6 Table 23): a byte for each

abbrev pub fmmu_bytes : ℕ
fmmu_bytes = 1

abbrev pub fmmu_usage : Field
fmmu_usage = byte 0x00

-- the usages: unused (0), outputs, inputs, sync manager status; and unused again
abbrev pub fmmu_usage_last : ℕ
fmmu_usage_last = 3

abbrev pub fmmu_unused : ℕ
fmmu_unused = 0xff

-- ---- the category FMMU_EX of ETG2010 (types.rs, `FmmuEx`)

abbrev pub ex_bytes : ℕ
ex_bytes = 3

abbrev pub ex_sync_m : Field
ex_sync_m = byte 0x01

-- ---- the categories TxPDO and RxPDO (ETG2010 Table 14): a header, then its entries

abbrev pub pdo_bytes : ℕ
pdo_bytes = 8

abbrev pub pdo_index : Field
pdo_index = word 0x00

abbrev pub n_entry : Field
n_entry = byte 0x02

abbrev pub pdo_sync_m : Field
pdo_sync_m = byte 0x03

-- an entry
abbrev pub entry_bytes : ℕ
entry_bytes = 8

abbrev pub bit_length : Field
bit_length = byte 0x05
