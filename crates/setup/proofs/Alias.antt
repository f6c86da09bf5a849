-- After the alias is set the checksum is right, by `sii`'s law that it is that of the bytes before it; the other words lie outside what changes.
use Prim.Native.Nat.{ℕ, ◌≤◌, ◌<◌}
use native.Mathlib.Omega.{arith}
use mathlib.Core.Path.{◌≡◌, ap, ◌∙◌}
use mathlib.Core.List.{List, [], ◌∷◌}
use lib.ListN.{length}
use Rattle.refusal.specs.Said.{gives}
use Rattle.wire.specs.Bytes.{byte_at}
use Rattle.crc.specs.Crc.{crc_of}
use Rattle.eeprom.specs.Image.{within}
use Rattle.sii.specs.Layout.{start, fixed, configured_station_alias, checksum}
use Rattle.sii.specs.Fixed.{checksum_end, set_said, set_image}
use Rattle.sii.specs.Alias.{SameFrom}
use Rattle.sii.proofs.Same.{field-same, within_same}
use Rattle.sii.proofs.Lent.{lent-within, lent_same}
use Rattle.sii.proofs.Alias.{alias-kept}
use Rattle.setup.specs.Layout.{bootstrap_receive_mailbox_offset, bootstrap_receive_mailbox_size, bootstrap_send_mailbox_offset, bootstrap_send_mailbox_size, sii_version, stored_checksum}
use Rattle.setup.specs.Setup.{pdi_of, pdi_said, bootstrap_of, bootstrap_said, version_said, summed, checksum_said}
use Rattle.setup.specs.Alias.{Right, SetupKept}
use Rattle.setup.proofs.Laws.{summed_in}

-- ---- the words behind the checksum

module _ (s t : List ℕ) (e : SameFrom checksum_end s t) where
  bootstrap-same : bootstrap_said s ≡ bootstrap_said t
  unfolding bootstrap_said bootstrap_of
  bootstrap-same =
      lent_same s t _ _ (within_same checksum_end s t e)
      (rw (
        field-same checksum_end s t e 0 bootstrap_receive_mailbox_offset (omega arith),
        field-same checksum_end s t e 0 bootstrap_receive_mailbox_size (omega arith),
        field-same checksum_end s t e 0 bootstrap_send_mailbox_offset (omega arith),
        field-same checksum_end s t e 0 bootstrap_send_mailbox_size (omega arith),
      ))

  version-same : version_said s ≡ version_said t
  unfolding version_said
  version-same = lent_same s t _ _ (within_same checksum_end s t e) (rw (field-same checksum_end s t e 0 sii_version (omega arith)))

-- ---- the words before the alias

pdi-same : (s t : List ℕ) → within s ≡ within t → ((i : ℕ) → i < start configured_station_alias → byte_at s i ≡ byte_at t i) → pdi_said s ≡ pdi_said t
unfolding pdi_said pdi_of
pdi-same s t w e =
    lent_same s t _ _ w
    (rw (
      e 0 (omega arith),
      e 1 (omega arith),
      e 2 (omega arith),
      e 3 (omega arith),
      e 4 (omega arith),
      e 5 (omega arith),
      e 6 (omega arith),
      e 7 (omega arith),
    ))

-- ---- the checksum

right : (image : List ℕ) (alias : ℕ) → alias < 65536 → set_said image ≡ gives [] → Right (set_image image alias)
unfolding checksum_said
right image alias f p =
    let k = alias-kept image alias f p in
    let l : start checksum ≤ length (set_image image alias) = omega (arith, k.room) in
    let e : fixed (set_image image alias) stored_checksum ≡ crc_of (summed (set_image image alias)) = rw (k.sum, summed_in (set_image image alias) l) in
    lent-within (set_image image alias) k.lent _ ∙ ap (λ (x : ℕ). gives (x ∷ crc_of (summed (set_image image alias)) ∷ [])) e

pub alias_setup : (image : List ℕ) (alias : ℕ) → alias < 65536 → set_said image ≡ gives [] → SetupKept image (set_image image alias)
alias_setup image alias f p =
    let k = alias-kept image alias f p in
    let b = k.behind in
    record {
      right = right image alias f p;
      pdi = pdi-same _ _ (within_same checksum_end _ _ b) k.before;
      bootstrap = bootstrap-same _ _ b;
      version = version-same _ _ b;
    }
