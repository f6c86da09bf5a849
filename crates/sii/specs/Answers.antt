-- What each answer says, in numbers and values (RULES, refusals). Definitions only.
use Rattle.std.specs.Prelude.{ℕ, Option, Result, ⊤}
use Rattle.refusal.specs.Said.{Said, said, said_if_any, number_value, no_values}
use Rattle.refusal.specs.declared.Refusal.{Refusal}
use Rattle.sii.specs.Fixed.{identity_values, mailbox_values}
use Rattle.sii.specs.General.{general_values, port_values}
use Rattle.sii.specs.declared.SubDeviceIdentity.{SubDeviceIdentity}
use Rattle.sii.specs.declared.DefaultMailbox.{DefaultMailbox}
use Rattle.sii.specs.declared.SiiGeneral.{SiiGeneral}
use Rattle.sii.specs.declared.PhysicalPorts.{PhysicalPorts}

abbrev pub said_alias : Result ℕ Refusal → Said
said_alias = said number_value

abbrev pub said_set : Result ⊤ Refusal → Said
said_set = said no_values

-- in bytes
abbrev pub said_size : Result ℕ Refusal → Said
said_size = said number_value

abbrev pub said_identity : Result SubDeviceIdentity Refusal → Said
said_identity = said identity_values

abbrev pub said_mailbox : Result DefaultMailbox Refusal → Said
said_mailbox = said mailbox_values

-- General, where it is found
abbrev pub said_found : Result (Option SiiGeneral) Refusal → Said
said_found = said_if_any general_values

-- .. where it is needed
abbrev pub said_general : Result SiiGeneral Refusal → Said
said_general = said general_values

-- a field of General of 16 bits
abbrev pub said_word : Result ℕ Refusal → Said
said_word = said number_value

abbrev pub said_ports : Result PhysicalPorts Refusal → Said
said_ports = said port_values
