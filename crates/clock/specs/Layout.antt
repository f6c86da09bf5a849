-- Where the fields of a record of the SII's category DC lie (ETG2010, category DC). Nothing else says an offset but
-- the head of src/lib.rt, once and under the same name. Definitions only.
use Rattle.std.specs.Prelude.{ℕ}
use Rattle.sii.specs.Layout.{Field, byte, word, long}

-- its last four bytes are reserved, and not looked at
abbrev pub clock_bytes : ℕ
clock_bytes = 24

abbrev pub cycle_time0_field : Field
cycle_time0_field = long 0x00

abbrev pub shift_time0_field : Field
shift_time0_field = long 0x04

abbrev pub shift_time1_field : Field
shift_time1_field = long 0x08

-- a signed number, here by its 16 bits
abbrev pub sync1_cycle_factor_field : Field
sync1_cycle_factor_field = word 0x0c

abbrev pub assign_activate_field : Field
assign_activate_field = word 0x0e

-- a signed number, here by its 16 bits
abbrev pub sync0_cycle_factor_field : Field
sync0_cycle_factor_field = word 0x10

-- indices of strings: the mode's name and its description
abbrev pub mode_name_idx : Field
mode_name_idx = byte 0x12

abbrev pub mode_desc_idx : Field
mode_desc_idx = byte 0x13
