-- An answer is known from what it says: so the promise on what is said allows one answer. The laws of `refusal` say it of any values that can be got back.
use Prim.Native.Nat.{ℕ}
use mathlib.Core.Path.{◌≡◌, refl}
use mathlib.Core.Bool.{Bool, true, false}
use mathlib.Core.List.{List}
use lib.ListN.{get_or}
use lib.Dec.{eqb}
use Rattle.std.specs.Prelude.{Option, Result}
use Rattle.refusal.specs.Said.{Said}
use Rattle.refusal.specs.declared.Refusal.{Refusal}
use Rattle.refusal.proofs.Unique.{said_unique, said_if_any_unique}
use Rattle.eeprom.specs.Answers.{range_values}
use Rattle.eeprom.specs.declared.Range.{Range}
use Rattle.category.specs.Answers.{bit_values, said_found, said_inside}

pub found_unique : (a b : Result (Option Range) Refusal) (s : Said) → said_found a ≡ s → said_found b ≡ s → a ≡ b
found_unique = said_if_any_unique range_values (λ (l : List ℕ). record { byte_pos = get_or l 0 0; end = get_or l 1 0 }) (λ (g : Range). refl)

bit_back : (b : Bool) → eqb (get_or (bit_values b) 0 0) 1 ≡ b
bit_back true = refl
bit_back false = refl

pub inside_unique : (a b : Result Bool Refusal) (s : Said) → said_inside a ≡ s → said_inside b ≡ s → a ≡ b
inside_unique = said_unique bit_values (λ (l : List ℕ). eqb (get_or l 0 0) 1) bit_back
