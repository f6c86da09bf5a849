-- What each answer says, in numbers and values (RULES, refusals). A range is said by its position and its end.
use Rattle.std.specs.Prelude.{ℕ, List, [], ◌∷◌, Result, ⊤}
use Rattle.refusal.specs.Said.{Said, said, number_value, no_values}
use Rattle.refusal.specs.declared.Refusal.{Refusal}
use Rattle.eeprom.specs.declared.Range.{Range}

abbrev pub range_values : Range → List ℕ
range_values g = g.byte_pos ∷ g.end ∷ []

-- .. with a number before it
abbrev pub behind_values : ℕ × Range → List ℕ
behind_values r = r.0 ∷ range_values r.1

-- a range that was asked for
abbrev pub said_range : Result Range Refusal → Said
said_range = said range_values

-- the byte, and the range after it
abbrev pub said_byte : Result (ℕ × Range) Refusal → Said
said_byte = said behind_values

-- how many bytes were read, and the range after them
abbrev pub said_reading : Result (ℕ × Range) Refusal → Said
said_reading = said behind_values

-- done is said with no values; where the range stands is beside the answer
abbrev pub said_exact : Result ⊤ Refusal → Said
said_exact = said no_values

-- how many bytes were written; where the range stands is beside the answer
abbrev pub said_writing : Result ℕ Refusal → Said
said_writing = said number_value
