-- An answer is known from what it says: so the promise on what is said allows one answer. The law of `refusal` says it of any values that can be got back.
use Prim.Native.Nat.{ℕ}
use mathlib.Core.Path.{◌≡◌, refl}
use mathlib.Core.List.{List}
use lib.ListN.{get_or}
use Rattle.std.specs.Prelude.{Option, Result}
use Rattle.refusal.specs.Said.{Said, number_value}
use Rattle.refusal.specs.declared.Refusal.{Refusal}
use Rattle.refusal.proofs.Unique.{said_if_any_unique}
use Rattle.strings.specs.Answers.{said_string}

pub string_unique : (a b : Result (Option ℕ) Refusal) (s : Said) → said_string a ≡ s → said_string b ≡ s → a ≡ b
string_unique = said_if_any_unique number_value (λ (l : List ℕ). get_or l 0 0) (λ (n : ℕ). refl)
