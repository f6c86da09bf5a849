-- Where the fields lie that `setup` reads of the SII's fixed area (ETG2010 Table 2, ETG1000.6 Table 16). Nothing else says an offset but
-- the head of src/lib.rt, once and under the same name. Definitions only.
use Rattle.sii.specs.Layout.{Field, byte, word, at_word, start, checksum}

-- ---- what the registers of the PDI start with, and those of the sync signals

abbrev pub pdi_control_field : Field
pdi_control_field = word (at_word 0x0000)

abbrev pub pdi_configuration_field : Field
pdi_configuration_field = word (at_word 0x0001)

abbrev pub sync_impulse_length_field : Field
sync_impulse_length_field = word (at_word 0x0002)

abbrev pub pdi_configuration2_field : Field
pdi_configuration2_field = word (at_word 0x0003)

-- ---- the checksum: the low byte of its word

abbrev pub stored_checksum : Field
stored_checksum = byte (start checksum)

-- ---- the mailbox of the state Bootstrap

abbrev pub bootstrap_receive_mailbox_offset : Field
bootstrap_receive_mailbox_offset = word (at_word 0x0014)

abbrev pub bootstrap_receive_mailbox_size : Field
bootstrap_receive_mailbox_size = word (at_word 0x0015)

abbrev pub bootstrap_send_mailbox_offset : Field
bootstrap_send_mailbox_offset = word (at_word 0x0016)

abbrev pub bootstrap_send_mailbox_size : Field
bootstrap_send_mailbox_size = word (at_word 0x0017)

-- ---- the version

abbrev pub sii_version : Field
sii_version = word (at_word 0x003f)
