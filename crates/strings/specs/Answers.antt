-- What each answer says on paper, in numbers and values (RULES, refusals). Definitions only.
use Rattle.std.specs.Prelude.{ℕ, List, ◌≤◌, [], ◌∷◌, get_or, Option, Result}
use Rattle.refusal.specs.Said.{Said, gives, absent, refuses, said_if_any, number_value}
use Rattle.refusal.specs.declared.Refusal.{Refusal}
use Rattle.eeprom.specs.Image.{image_most}

abbrev pub said_string : Result (Option ℕ) Refusal → Said
said_string = said_if_any number_value

-- a place: where the bytes stand, and how many are stored
abbrev pub place_values : ℕ × ℕ → List ℕ
place_values r = r.0 ∷ r.1 ∷ []

abbrev pub said_place : Result (Option (ℕ × ℕ)) Refusal → Said
said_place = said_if_any place_values

-- the bytes at the place have room, and the place lies within the limit
abbrev pub Small : ℕ → Said → Type 0
Small k (gives l) = (get_or l 1 0 ≤ k) × (get_or l 0 0 ≤ image_most)
Small k absent = Unit {0}
Small k (refuses n v) = Unit {0}
