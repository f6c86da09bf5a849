-- What each answer says, in numbers and values (RULES, refusals). Where the range stands is in the range.
use Rattle.std.specs.Prelude.{ℕ, Result, ⊤}
use Rattle.refusal.specs.declared.Refusal.{Refusal}
use Rattle.refusal.specs.Said.{Said, said, number_value, no_values}

-- done is said with no values
abbrev pub said_outcome : Result ⊤ Refusal → Said
said_outcome = said no_values

-- the byte
abbrev pub said_byte_read : Result ℕ Refusal → Said
said_byte_read = said number_value

-- how many bytes
abbrev pub said_counted : Result ℕ Refusal → Said
said_counted = said number_value
