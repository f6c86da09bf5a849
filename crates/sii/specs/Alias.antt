-- What setting the alias means for the read-outs: the alias is read back, and all else is read as before. Definitions only.
use Rattle.std.specs.Prelude.{ℕ, ◌+◌, ◌≤◌, ◌<◌, ◌≡◌, List, [], ◌∷◌, true, length, take}
use Rattle.refusal.specs.Said.{gives}
use Rattle.wire.specs.Bytes.{byte_at}
use Rattle.crc.specs.Crc.{crc_of}
use Rattle.eeprom.specs.Image.{within}
use Rattle.category.specs.Category.{category_said}
use Rattle.sii.specs.Layout.{start, past, configured_station_alias, checksum}
use Rattle.sii.specs.Fixed.{alias_said, identity_said, mailbox_said, size_said, checksum_end}
use Rattle.sii.specs.General.{general_found, general_said, ports_said, address_said}

-- two images of one length that hold the same bytes from a place on
pub record SameFrom (place : ℕ) (s t : List ℕ) : Type 0 where
  pub size : length s ≡ length t
  pub bytes : (i : ℕ) → place ≤ i → byte_at s i ≡ byte_at t i

-- an image and the same after its alias was set
pub record AliasKept (image after : List ℕ) (alias : ℕ) : Type 0 where
  pub back : alias_said after ≡ gives (alias ∷ [])
  -- the bytes before the alias stay, and those between it and the checksum
  pub before : (i : ℕ) → i < start configured_station_alias → byte_at after i ≡ byte_at image i
  pub between : (i : ℕ) → past configured_station_alias ≤ i → i < start checksum → byte_at after i ≡ byte_at image i
  -- the checksum is that of the bytes before it, and its high byte is zero
  pub sum : byte_at after (start checksum) ≡ crc_of (take (start checksum) after)
  pub high : byte_at after (start checksum + 1) ≡ 0
  -- behind the checksum no byte changes, and so no read-out
  pub behind : SameFrom checksum_end after image
  pub lent : within after ≡ true
  pub room : checksum_end ≤ length after
  pub identity : identity_said after ≡ identity_said image
  pub mailbox : mailbox_said after ≡ mailbox_said image
  pub size : size_said after ≡ size_said image
  pub category : (number : ℕ) → category_said after number ≡ category_said image number
  pub found : general_found after ≡ general_found image
  pub general : general_said after ≡ general_said image
  pub ports : ports_said after ≡ ports_said image
  pub address : address_said after ≡ address_said image
