-- What each answer says on paper, in numbers and values (RULES, refusals). Definitions only.
use Rattle.std.specs.Prelude.{List, ℕ, [], ◌∷◌, Bool, Option, Result}
use Rattle.refusal.specs.Said.{Said, said, said_if_any}
use Rattle.refusal.specs.declared.Refusal.{Refusal}
use Rattle.eeprom.specs.declared.Range.{Range}
use Rattle.eeprom.specs.Answers.{range_values}
use Rattle.category.specs.Category.{Stepped, done, next}
use Rattle.wire.specs.Bytes.{bit}
use Rattle.category.specs.declared.Step.{Step}
use Rattle.category.specs.declared.Step.TheVariants as step

-- a range gives its byte position and its end
abbrev pub said_found : Result (Option Range) Refusal → Said
said_found = said_if_any range_values

-- inside is 1, else 0
abbrev pub bit_values : Bool → List ℕ
bit_values b = bit b ∷ []

abbrev pub said_inside : Result Bool Refusal → Said
said_inside = said bit_values

abbrev pub said_step : Step → Stepped
said_step (step.Done f) = done (said_found f)
said_step (step.Next w e) = next w e
