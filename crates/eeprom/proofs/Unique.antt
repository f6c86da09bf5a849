-- An answer is known from what it says: so a promise on what is said allows one answer. The laws of `refusal` say it of any values that can be got back.
use Prim.Native.Nat.{ℕ}
use mathlib.Core.Path.{◌≡◌, refl, sym, ap, ◌∙◌}
use mathlib.Core.List.{List}
use mathlib.Core.Bool.{true, false, false≢true}
use lib.ListN.{get_or}
use Rattle.std.specs.Prelude.{Result, Ok, Err, MatchResult, ⊤}
use Rattle.refusal.specs.Said.{Said}
use Rattle.refusal.specs.declared.Refusal.{Refusal}
use Rattle.refusal.specs.declared.Refusal.TheVariants as r
use Rattle.refusal.proofs.Unique.{said_unique, number_unique, done_unique}
use Rattle.eeprom.specs.Image.{within}
use Rattle.eeprom.specs.Answers.{range_values, behind_values, said_range, said_byte, said_reading, said_exact, said_writing}
use Rattle.eeprom.specs.declared.Range.{Range}
use Rattle.eeprom.specs.declared.Standing.{Standing}

-- what the check of an image promises of its answer: done, or 14
abbrev Checks : List ℕ → Result ⊤ Refusal → Type 0
Checks image a = MatchResult a (λ _. within image ≡ true) (λ x. (x ≡ r.BadArgument) × (within image ≡ false))

pub checked_unique : (image : List ℕ) (a b : Result ⊤ Refusal) → Checks image a → Checks image b → a ≡ b
checked_unique image (Ok x) (Ok y) p q = refl
checked_unique image (Ok x) (Err y) p q = absurd (false≢true (sym q.1 ∙ p))
checked_unique image (Err x) (Ok y) p q = absurd (false≢true (sym p.1 ∙ q))
checked_unique image (Err x) (Err y) p q = ap Err (p.0 ∙ sym q.0)

-- the range whose position is the list's value at i, and whose end is that at j
abbrev at : List ℕ → ℕ → ℕ → Range
at l i j = record { byte_pos = get_or l i 0; end = get_or l j 0 }

pub range_unique : (a b : Result Range Refusal) (s : Said) → said_range a ≡ s → said_range b ≡ s → a ≡ b
range_unique = said_unique range_values (λ (l : List ℕ). at l 0 1) (λ (g : Range). refl)

-- a number, and the range after it
behind_unique : (a b : Result (ℕ × Range) Refusal) (s : Said) → said_byte a ≡ s → said_byte b ≡ s → a ≡ b
behind_unique = said_unique behind_values (λ (l : List ℕ). (get_or l 0 0, at l 1 2)) (λ (r : ℕ × Range). refl)

pub byte_unique : (a b : Result (ℕ × Range) Refusal) (s : Said) → said_byte a ≡ s → said_byte b ≡ s → a ≡ b
byte_unique = behind_unique

pub reading_unique : (a b : Result (ℕ × Range) Refusal) (s : Said) → said_reading a ≡ s → said_reading b ≡ s → a ≡ b
reading_unique = behind_unique

-- an answer with the range beside it
standing_unique : {T : Type 0} (say : Result T Refusal → Said) → ((a b : Result T Refusal) (s : Said) → say a ≡ s → say b ≡ s → a ≡ b)
    → (a b : Standing T) (s : Said) (g : Range) → (say a.answer ≡ s) × (a.range ≡ g) → (say b.answer ≡ s) × (b.range ≡ g) → a ≡ b
standing_unique say unique a b s g p q i = record { answer = unique a.answer b.answer s p.0 q.0 i; range = (p.1 ∙ sym q.1) i }

pub exact_unique : (a b : Result ⊤ Refusal) (s : Said) → said_exact a ≡ s → said_exact b ≡ s → a ≡ b
exact_unique = done_unique

pub exact_read_unique : (a b : Standing ⊤) (s : Said) (g : Range) → (said_exact a.answer ≡ s) × (a.range ≡ g) → (said_exact b.answer ≡ s) × (b.range ≡ g) → a ≡ b
exact_read_unique = standing_unique said_exact exact_unique

pub writing_unique : (a b : Result ℕ Refusal) (s : Said) → said_writing a ≡ s → said_writing b ≡ s → a ≡ b
writing_unique = number_unique

pub words-written_unique : (a b : Standing ℕ) (s : Said) (g : Range) → (said_writing a.answer ≡ s) × (a.range ≡ g) → (said_writing b.answer ≡ s) × (b.range ≡ g) → a ≡ b
words-written_unique = standing_unique said_writing writing_unique
