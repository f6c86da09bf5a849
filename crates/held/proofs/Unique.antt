-- An answer is known from what it says, by an inverse: so a promise on what is said allows one answer.
use Rattle.std.proofs.Common.{◌≡◌, ℕ, Result}
use Rattle.std.specs.Prelude.{⊤}
use Rattle.refusal.specs.declared.Refusal.{Refusal}
use Rattle.refusal.specs.Said.{Said}
use Rattle.refusal.proofs.Unique.{number_unique, done_unique}
use Rattle.held.specs.Answers.{said_outcome, said_byte_read, said_counted}

pub outcome_unique : (a b : Result ⊤ Refusal) (s : Said) → said_outcome a ≡ s → said_outcome b ≡ s → a ≡ b
outcome_unique = done_unique

pub byte-read_unique : (a b : Result ℕ Refusal) (s : Said) → said_byte_read a ≡ s → said_byte_read b ≡ s → a ≡ b
byte-read_unique = number_unique

pub counted_unique : (a b : Result ℕ Refusal) (s : Said) → said_counted a ≡ s → said_counted b ≡ s → a ≡ b
counted_unique = number_unique
