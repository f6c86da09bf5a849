-- An answer is known from what it says: so each promise on what is said allows one answer. The laws of `refusal` say it of any values that can be got back.
use Prim.Native.Nat.{ℕ, ◌+◌}
use mathlib.Core.Path.{◌≡◌, refl}
use mathlib.Core.Bool.{Bool, true, false}
use mathlib.Core.List.{List}
use lib.ListN.{get_or}
use lib.Dec.{eqb}
use Rattle.std.specs.Prelude.{Option, Result, ⊤}
use Rattle.refusal.specs.Said.{Said}
use Rattle.refusal.specs.declared.Refusal.{Refusal}
use Rattle.refusal.proofs.Unique.{said_unique, said_if_any_unique, number_unique, done_unique}
use Rattle.wire.specs.Bytes.{bit}
use Rattle.sii.specs.Fixed.{identity_values, mailbox_values}
use Rattle.sii.specs.General.{general_values, port_values}
use Rattle.sii.specs.Answers.{said_alias, said_set, said_size, said_identity, said_mailbox, said_found, said_general, said_word, said_ports}
use Rattle.sii.specs.declared.SubDeviceIdentity.{SubDeviceIdentity}
use Rattle.sii.specs.declared.DefaultMailbox.{DefaultMailbox}
use Rattle.sii.specs.declared.SiiGeneral.{SiiGeneral}
use Rattle.sii.specs.declared.PhysicalPorts.{PhysicalPorts}

-- ---- the fixed area

pub alias_unique : (a b : Result ℕ Refusal) (s : Said) → said_alias a ≡ s → said_alias b ≡ s → a ≡ b
alias_unique = number_unique

pub set_unique : (a b : Result ⊤ Refusal) (s : Said) → said_set a ≡ s → said_set b ≡ s → a ≡ b
set_unique = done_unique

pub size_unique : (a b : Result ℕ Refusal) (s : Said) → said_size a ≡ s → said_size b ≡ s → a ≡ b
size_unique = number_unique

pub identity_unique : (a b : Result SubDeviceIdentity Refusal) (s : Said) → said_identity a ≡ s → said_identity b ≡ s → a ≡ b
identity_unique =
    said_unique identity_values
    (λ (l : List ℕ). record { vendor_id = get_or l 0 0; product_id = get_or l 1 0; revision = get_or l 2 0; serial = get_or l 3 0 })
    (λ (i : SubDeviceIdentity). refl)

pub mailbox_unique : (a b : Result DefaultMailbox Refusal) (s : Said) → said_mailbox a ≡ s → said_mailbox b ≡ s → a ≡ b
mailbox_unique =
    said_unique mailbox_values
    (λ (l : List ℕ). record {
      subdevice_receive_offset = get_or l 0 0;
      subdevice_receive_size = get_or l 1 0;
      subdevice_send_offset = get_or l 2 0;
      subdevice_send_size = get_or l 3 0;
      supported_protocols = get_or l 4 0;
    })
    (λ (m : DefaultMailbox). refl)

-- ---- General

-- the kinds of four ports, of which the first stands at i
abbrev ports_at : List ℕ → ℕ → PhysicalPorts
ports_at l i = record { port0 = get_or l i 0; port1 = get_or l (i + 1) 0; port2 = get_or l (i + 2) 0; port3 = get_or l (i + 3) 0 }

bit-back : (b : Bool) → eqb (bit b) 1 ≡ b
bit-back true = refl
bit-back false = refl

unfoldable general_from : List ℕ → SiiGeneral
general_from l = record {
  group_string_idx = get_or l 0 0;
  image_string_idx = get_or l 1 0;
  order_string_idx = get_or l 2 0;
  name_string_idx = get_or l 3 0;
  coe_details = get_or l 4 0;
  foe_enabled = eqb (get_or l 5 0) 1;
  eoe_enabled = eqb (get_or l 6 0) 1;
  flags = get_or l 7 0;
  ebus_current = get_or l 8 0;
  ports = ports_at l 9;
  physical_memory_addr = get_or l 13 0;
}

values_back : (g : SiiGeneral) → general_from (general_values g) ≡ g
unfolding general_from
values_back g = rw (bit-back g.foe_enabled, bit-back g.eoe_enabled)

pub found_unique : (a b : Result (Option SiiGeneral) Refusal) (s : Said) → said_found a ≡ s → said_found b ≡ s → a ≡ b
found_unique = said_if_any_unique general_values general_from values_back

pub general_unique : (a b : Result SiiGeneral Refusal) (s : Said) → said_general a ≡ s → said_general b ≡ s → a ≡ b
general_unique = said_unique general_values general_from values_back

-- ---- General's ports and address by ETG2010's places

pub word_unique : (a b : Result ℕ Refusal) (s : Said) → said_word a ≡ s → said_word b ≡ s → a ≡ b
word_unique = number_unique

pub ports_unique : (a b : Result PhysicalPorts Refusal) (s : Said) → said_ports a ≡ s → said_ports b ≡ s → a ≡ b
ports_unique = said_unique port_values (λ (l : List ℕ). ports_at l 0) (λ (p : PhysicalPorts). refl)
