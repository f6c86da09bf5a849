-- What the read-outs of the fixed area give, said of the calls' own results: the fields of ETG2010 Table 2, of every image that is not too long.
-- RULES, read-out. Definitions only.
use Rattle.std.specs.Prelude.{ℕ, ◌+◌, ◌*◌, ◌≤◌, ◌<◌, ◌≡◌, List, [], ◌∷◌, length, Result, ⊤}
use Rattle.refusal.specs.Said.{gives, refuses}
use Rattle.refusal.specs.declared.Refusal.{Refusal}
use Rattle.eeprom.specs.Image.{image_most}
use Rattle.sii.specs.Layout.{
  fixed,
  configured_station_alias,
  vendor_id_field,
  product_code,
  revision_number,
  serial_number,
  receive_mailbox_offset,
  receive_mailbox_size,
  send_mailbox_offset,
  send_mailbox_size,
  mailbox_protocol,
  protocols_below,
  memory_size,
  unit_bytes,
}
use Rattle.sii.specs.Fixed.{checksum_end}
use Rattle.sii.specs.Answers.{said_alias, said_set, said_size, said_identity, said_mailbox}
use Rattle.sii.specs.declared.SubDeviceIdentity.{SubDeviceIdentity}
use Rattle.sii.specs.declared.DefaultMailbox.{DefaultMailbox}

-- what comes back of an image: the alias, the identity, the mailbox and the size are the fields of the table, and only an undefined protocol is refused
pub record ReadsOut (image : List ℕ) (a : Result ℕ Refusal) (i : Result SubDeviceIdentity Refusal) (m : Result DefaultMailbox Refusal) (s : Result ℕ Refusal) : Type 0 where
  pub alias : said_alias a ≡ gives (fixed image configured_station_alias ∷ [])
  pub identity : said_identity i ≡ gives (fixed image vendor_id_field ∷ fixed image product_code ∷ fixed image revision_number ∷ fixed image serial_number ∷ [])
  pub mailbox : fixed image mailbox_protocol < protocols_below →
      said_mailbox m ≡ gives (fixed image receive_mailbox_offset ∷ fixed image receive_mailbox_size ∷ fixed image send_mailbox_offset ∷ fixed image send_mailbox_size ∷ fixed image mailbox_protocol ∷ [])
  pub undefined : protocols_below ≤ fixed image mailbox_protocol → said_mailbox m ≡ refuses 5 []
  pub size : said_size s ≡ gives ((fixed image memory_size + 1) * unit_bytes ∷ [])

-- what comes back of an image whose alias is set, the image after it, and what is read of that
pub record SetsAlias (image after : List ℕ) (alias : ℕ) (set : Result ⊤ Refusal) (read : Result ℕ Refusal) : Type 0 where
  -- an image that holds a checksum and is not too long takes it, and then it is read back
  pub done : checksum_end ≤ length image → length image ≤ image_most → said_set set ≡ gives []
  pub back : said_set set ≡ gives [] → said_alias read ≡ gives (alias ∷ [])
  -- a shorter one and a longer one are refused, and nothing changes
  pub short : length image < checksum_end → (said_set set ≡ refuses 7 []) × (after ≡ image)
  pub long : image_most < length image → (said_set set ≡ refuses 14 []) × (after ≡ image)
