-- An answer is known from what it says: so each promise on what is said allows one answer. The laws of `refusal` say it of any values that can be got back.
use Prim.Native.Nat.{ℕ}
use mathlib.Core.Path.{◌≡◌, refl}
use mathlib.Core.List.{List}
use lib.ListN.{get_or}
use Rattle.std.specs.Prelude.{Result}
use Rattle.refusal.specs.Said.{Said}
use Rattle.refusal.specs.declared.Refusal.{Refusal}
use Rattle.refusal.proofs.Unique.{said_unique, number_unique}
use Rattle.setup.specs.Setup.{pdi_values, bootstrap_values, checksum_values}
use Rattle.setup.specs.Answers.{said_pdi, said_bootstrap, said_version, said_checksum}
use Rattle.setup.specs.declared.PdiControl.{PdiControl}
use Rattle.setup.specs.declared.BootstrapMailbox.{BootstrapMailbox}
use Rattle.setup.specs.declared.Checksums.{Checksums}

pub pdi_unique : (a b : Result PdiControl Refusal) (s : Said) → said_pdi a ≡ s → said_pdi b ≡ s → a ≡ b
pdi_unique =
    said_unique pdi_values
    (λ (l : List ℕ). record {
      pdi_control = get_or l 0 0;
      pdi_configuration = get_or l 1 0;
      sync_impulse_length = get_or l 2 0;
      pdi_configuration2 = get_or l 3 0;
    })
    (λ (p : PdiControl). refl)

pub bootstrap_unique : (a b : Result BootstrapMailbox Refusal) (s : Said) → said_bootstrap a ≡ s → said_bootstrap b ≡ s → a ≡ b
bootstrap_unique =
    said_unique bootstrap_values
    (λ (l : List ℕ). record {
      subdevice_receive_offset = get_or l 0 0;
      subdevice_receive_size = get_or l 1 0;
      subdevice_send_offset = get_or l 2 0;
      subdevice_send_size = get_or l 3 0;
    })
    (λ (m : BootstrapMailbox). refl)

pub version_unique : (a b : Result ℕ Refusal) (s : Said) → said_version a ≡ s → said_version b ≡ s → a ≡ b
version_unique = number_unique

pub checksum_unique : (a b : Result Checksums Refusal) (s : Said) → said_checksum a ≡ s → said_checksum b ≡ s → a ≡ b
checksum_unique = said_unique checksum_values (λ (l : List ℕ). record { stored = get_or l 0 0; computed = get_or l 1 0 }) (λ (c : Checksums). refl)
