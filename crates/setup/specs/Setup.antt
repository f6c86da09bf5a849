-- What is read out of the words of the SII's fixed area that ethercrab leaves alone. Definitions only.
use Rattle.std.specs.Prelude.{ℕ, List, [], ◌∷◌}
use Rattle.refusal.specs.Said.{Said, gives}
use Rattle.wire.specs.Bytes.{span}
use Rattle.crc.specs.Crc.{crc_of}
use Rattle.sii.specs.Layout.{fixed, start, checksum}
use Rattle.sii.specs.Fixed.{lent}
use Rattle.setup.specs.Layout.{
  pdi_control_field,
  pdi_configuration_field,
  sync_impulse_length_field,
  pdi_configuration2_field,
  stored_checksum,
  bootstrap_receive_mailbox_offset,
  bootstrap_receive_mailbox_size,
  bootstrap_send_mailbox_offset,
  bootstrap_send_mailbox_size,
  sii_version,
}
use Rattle.setup.specs.declared.PdiControl.{PdiControl}
use Rattle.setup.specs.declared.BootstrapMailbox.{BootstrapMailbox}
use Rattle.setup.specs.declared.Checksums.{Checksums}

-- ---- PDI

unfoldable pub pdi_of : List ℕ → PdiControl
pdi_of image = record {
  pdi_control = fixed image pdi_control_field;
  pdi_configuration = fixed image pdi_configuration_field;
  sync_impulse_length = fixed image sync_impulse_length_field;
  pdi_configuration2 = fixed image pdi_configuration2_field;
}

abbrev pub pdi_values : PdiControl → List ℕ
pdi_values p = p.pdi_control ∷ p.pdi_configuration ∷ p.sync_impulse_length ∷ p.pdi_configuration2 ∷ []

unfoldable pub pdi_said : List ℕ → Said
pdi_said image = lent image (gives (pdi_values (pdi_of image)))

-- ---- the bootstrap mailbox

unfoldable pub bootstrap_of : List ℕ → BootstrapMailbox
bootstrap_of image = record {
  subdevice_receive_offset = fixed image bootstrap_receive_mailbox_offset;
  subdevice_receive_size = fixed image bootstrap_receive_mailbox_size;
  subdevice_send_offset = fixed image bootstrap_send_mailbox_offset;
  subdevice_send_size = fixed image bootstrap_send_mailbox_size;
}

abbrev pub bootstrap_values : BootstrapMailbox → List ℕ
bootstrap_values m = m.subdevice_receive_offset ∷ m.subdevice_receive_size ∷ m.subdevice_send_offset ∷ m.subdevice_send_size ∷ []

unfoldable pub bootstrap_said : List ℕ → Said
bootstrap_said image = lent image (gives (bootstrap_values (bootstrap_of image)))

-- ---- the version

unfoldable pub version_said : List ℕ → Said
version_said image = lent image (gives (fixed image sii_version ∷ []))

-- ---- the checksum

-- the bytes that it goes over, words 0 to 6; a byte past the image reads 0xFF here too
unfoldable pub summed : List ℕ → List ℕ
summed image = span image 0 (start checksum)

abbrev pub checksum_values : Checksums → List ℕ
checksum_values c = c.stored ∷ c.computed ∷ []

-- as it is stored, and as it should be
unfoldable pub checksum_said : List ℕ → Said
checksum_said image = lent image (gives (fixed image stored_checksum ∷ crc_of (summed image) ∷ []))
