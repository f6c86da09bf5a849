-- What is read out of the SII's fixed area, and setting the alias: RULES, read-out. Definitions only.
use Rattle.std.specs.Prelude.{ℕ, ◌+◌, ◌*◌, List, [], ◌∷◌, Bool, true, false, length, take, leb, ltb}
use Rattle.refusal.specs.Said.{Said, gives, refuses, pick}
use Rattle.wire.specs.Bytes.{bytes16, overlay}
use Rattle.crc.specs.Crc.{crc_of}
use Rattle.eeprom.specs.Image.{within}
use Rattle.sii.specs.Layout.{
  start,
  past,
  fixed,
  configured_station_alias,
  checksum,
  vendor_id_field,
  product_code,
  revision_number,
  serial_number,
  receive_mailbox_offset,
  receive_mailbox_size,
  send_mailbox_offset,
  send_mailbox_size,
  mailbox_protocol,
  memory_size,
  unit_bytes,
  protocols_below,
}
use Rattle.sii.specs.declared.SubDeviceIdentity.{SubDeviceIdentity}
use Rattle.sii.specs.declared.DefaultMailbox.{DefaultMailbox}

-- an image too long is 14
unfoldable pub lent : List ℕ → Said → Said
lent image said = pick (within image) said (refuses 14 [])

-- ---- the read-outs

unfoldable pub alias_said : List ℕ → Said
alias_said image = lent image (gives (fixed image configured_station_alias ∷ []))

unfoldable pub identity_of : List ℕ → SubDeviceIdentity
identity_of image = record {
  vendor_id = fixed image vendor_id_field;
  product_id = fixed image product_code;
  revision = fixed image revision_number;
  serial = fixed image serial_number;
}

abbrev pub identity_values : SubDeviceIdentity → List ℕ
identity_values i = i.vendor_id ∷ i.product_id ∷ i.revision ∷ i.serial ∷ []

unfoldable pub identity_said : List ℕ → Said
identity_said image = lent image (gives (identity_values (identity_of image)))

unfoldable pub mailbox_of : List ℕ → DefaultMailbox
mailbox_of image = record {
  subdevice_receive_offset = fixed image receive_mailbox_offset;
  subdevice_receive_size = fixed image receive_mailbox_size;
  subdevice_send_offset = fixed image send_mailbox_offset;
  subdevice_send_size = fixed image send_mailbox_size;
  supported_protocols = fixed image mailbox_protocol;
}

abbrev pub mailbox_values : DefaultMailbox → List ℕ
mailbox_values m =
    m.subdevice_receive_offset ∷ m.subdevice_receive_size ∷ m.subdevice_send_offset ∷ m.subdevice_send_size ∷ m.supported_protocols ∷ []

-- no undefined bit stands in the protocols
abbrev pub mailbox_admits : DefaultMailbox → Bool
mailbox_admits m = ltb m.supported_protocols protocols_below

unfoldable pub mailbox_said : List ℕ → Said
mailbox_said image =
    lent image (pick (mailbox_admits (mailbox_of image)) (gives (mailbox_values (mailbox_of image))) (refuses 5 []))

-- whether there is a mailbox (types.rs, `has_mailbox`): a protocol and a receive size, or a send size
unfoldable pub has_mailbox : DefaultMailbox → Bool
has_mailbox m =
    pick (ltb 0 m.subdevice_send_size) true (pick (ltb 0 m.supported_protocols) (ltb 0 m.subdevice_receive_size) false)

-- in bytes, in full
unfoldable pub size_said : List ℕ → Said
size_said image = lent image (gives ((fixed image memory_size + 1) * unit_bytes ∷ []))

-- ---- setting the alias

-- the bytes that an image needs for it: up to the checksum's last
abbrev pub checksum_end : ℕ
checksum_end = past checksum

-- an image with this alias
unfoldable pub with_alias : List ℕ → ℕ → List ℕ
with_alias image alias = overlay image (start configured_station_alias) (bytes16 alias)

-- an image with the checksum of what stands before it, and zero behind that
unfoldable pub with_checksum : List ℕ → List ℕ
with_checksum image = overlay image (start checksum) (crc_of (take (start checksum) image) ∷ 0 ∷ [])

abbrev pub aliased : List ℕ → ℕ → List ℕ
aliased image alias = with_checksum (with_alias image alias)

unfoldable pub set_said : List ℕ → Said
set_said image = lent image (pick (leb checksum_end (length image)) (gives []) (refuses 7 []))

-- what setting the alias leaves: where it is refused, the image as it was
unfoldable pub set_image : List ℕ → ℕ → List ℕ
set_image image alias = pick (within image) (pick (leb checksum_end (length image)) (aliased image alias) image) image
