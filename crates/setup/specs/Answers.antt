-- What each answer says, in numbers and values (RULES, refusals). Definitions only.
use Rattle.std.specs.Prelude.{ℕ, Result}
use Rattle.refusal.specs.Said.{Said, said, number_value}
use Rattle.refusal.specs.declared.Refusal.{Refusal}
use Rattle.setup.specs.Setup.{pdi_values, bootstrap_values, checksum_values}
use Rattle.setup.specs.declared.PdiControl.{PdiControl}
use Rattle.setup.specs.declared.BootstrapMailbox.{BootstrapMailbox}
use Rattle.setup.specs.declared.Checksums.{Checksums}

abbrev pub said_pdi : Result PdiControl Refusal → Said
said_pdi = said pdi_values

abbrev pub said_bootstrap : Result BootstrapMailbox Refusal → Said
said_bootstrap = said bootstrap_values

abbrev pub said_version : Result ℕ Refusal → Said
said_version = said number_value

abbrev pub said_checksum : Result Checksums Refusal → Said
said_checksum = said checksum_values
