-- An answer is known from what it says, by an inverse, and so is a refusal: a promise on what is said allows one.
use Prim.Native.Nat.{ℕ, ◌+◌}
use native.Mathlib.Omega.{arith}
use mathlib.Core.Path.{◌≡◌, refl, sym, ap, ◌∙◌}
use mathlib.Core.List.{List, [], ◌∷◌}
use lib.ListN.{length, get_or}
use lib.Dec.{eqb}
use types.Run.{OneOf, miss}
use denote.Enum.Declared.{tag_of}
use Rattle.std.specs.Prelude.{Option, Some, None, Result, Ok, Err, ⊤}
use Rattle.refusal.specs.Said.{Said, gives, absent, refuses, number_of, values_of, pick, said, said_if_any, number_value, no_values as nothing}
use Rattle.refusal.specs.declared.Refusal.{Refusal}
use Rattle.refusal.specs.declared.Refusal.TheVariants as r
use Rattle.refusal.specs.contracts.Refusal.{the_type}

-- two answers that say the same are the same, where each is got back from what it says
pub unique : {A B : Type 0} (say : A → B) (from : B → A) → ((r : A) → from (say r) ≡ r) → (a b : A) (s : B) → say a ≡ s → say b ≡ s → a ≡ b
unique say from back a b s p q = sym (back a) ∙ ap from (p ∙ sym q) ∙ back b

-- what refuses gives nothing
pub gives_none : (n : ℕ) (l m : List ℕ) → ◌≡◌ {A = Said} (refuses n l) (gives m) → ⊥
gives_none n l m e = let z : ◌≡◌ {A = ℕ} 0 1 = cc in omega arith

-- ---- a refusal, from its number and its values

-- the refusals in the order in which they are declared, those that have values with these
abbrev in_order : List ℕ → List Refusal
in_order l =
    r.Address
    ∷ r.Overrun
    ∷ r.NoCategory
    ∷ r.StringTooLong (get_or l 0 0) (get_or l 1 0)
    ∷ r.Decode
    ∷ r.Capacity
    ∷ r.NotWritable
    ∷ r.TooLong
    ∷ r.NoPort
    ∷ r.BadPort
    ∷ r.Sum
    ∷ r.BadFrame
    ∷ r.NoRoom
    ∷ r.BadArgument
    ∷ r.WrongFrame (get_or l 0 0)
    ∷ r.WrongCommand (get_or l 0 0)
    ∷ r.WrongIndex (get_or l 0 0)
    ∷ r.WrongLength (get_or l 0 0)
    ∷ []

-- the first that is known by this number
abbrev numbered : ℕ → List Refusal → Refusal
numbered n [] = r.BadArgument
numbered n (x ∷ xs) = pick (eqb (number_of x) n) x (numbered n xs)

unfoldable pub refusal_of : ℕ → List ℕ → Refusal
refusal_of n l = numbered n (in_order l)

-- ---- a match that has arms for those that have values, and one for all others

-- the places of the others among the variants
abbrev places_from : ℕ → List Refusal → List ℕ
places_from i [] = []
places_from i (x ∷ xs) = pick (eqb (length (values_of x)) 0) (i ∷ places_from (i + 1) xs) (places_from (i + 1) xs)

abbrev pub others : List ℕ
others = places_from 0 (in_order [])

-- EACH REFUSAL is known by its number and its values, and either has no values or is not among the others.
-- Whatever else is said of all refusals follows from this, here and in the crates above: a refusal that is added costs its line here, and none there.
pub data Valued : Refusal → Type 0 where
  none : {x : Refusal} → values_of x ≡ [] → refusal_of (number_of x) (values_of x) ≡ x → Valued x
  some : {x : Refusal} → (OneOf others (tag_of the_type x) → ⊥) → refusal_of (number_of x) (values_of x) ≡ x → Valued x

pub valued : (x : Refusal) → Valued x
unfolding refusal_of
valued r.Address = none refl refl
valued r.Overrun = none refl refl
valued r.NoCategory = none refl refl
valued (r.StringTooLong room stored) = some (miss others 3 tt) refl
valued r.Decode = none refl refl
valued r.Capacity = none refl refl
valued r.NotWritable = none refl refl
valued r.TooLong = none refl refl
valued r.NoPort = none refl refl
valued r.BadPort = none refl refl
valued r.Sum = none refl refl
valued r.BadFrame = none refl refl
valued r.NoRoom = none refl refl
valued r.BadArgument = none refl refl
valued (r.WrongFrame place) = some (miss others 14 tt) refl
valued (r.WrongCommand place) = some (miss others 15 tt) refl
valued (r.WrongIndex place) = some (miss others 16 tt) refl
valued (r.WrongLength place) = some (miss others 17 tt) refl

pub back : (x : Refusal) → refusal_of (number_of x) (values_of x) ≡ x
back x = go (valued x)
  where
    go : {y : Refusal} → Valued y → refusal_of (number_of y) (values_of y) ≡ y
    go (none v e) = e
    go (some m e) = e

-- the others have no values
pub no_values : (x : Refusal) → OneOf others (tag_of the_type x) → values_of x ≡ []
no_values x k = go (valued x) k
  where
    go : {y : Refusal} → Valued y → OneOf others (tag_of the_type y) → values_of y ≡ []
    go (none v e) h = v
    go (some m e) h = absurd (m h)

-- ---- an answer, from what it says, where what it gives is known from its values

unfoldable answer_of : {T : Type 0} → (List ℕ → T) → Said → Result T Refusal
answer_of from (gives l) = Ok (from l)
answer_of from absent = Err r.Address
answer_of from (refuses n l) = Err (refusal_of n l)

unfoldable answer_if_any : {T : Type 0} → (List ℕ → T) → Said → Result (Option T) Refusal
answer_if_any from (gives l) = Ok (Some (from l))
answer_if_any from absent = Ok None
answer_if_any from (refuses n l) = Err (refusal_of n l)

module _ {T : Type 0} (values : T → List ℕ) (from : List ℕ → T) (known : (x : T) → from (values x) ≡ x) where
  said_back : (a : Result T Refusal) → answer_of from (said values a) ≡ a
  unfolding answer_of
  said_back (Ok x) = ap Ok (known x)
  said_back (Err x) = ap Err (back x)

  pub said_unique : (a b : Result T Refusal) (s : Said) → said values a ≡ s → said values b ≡ s → a ≡ b
  said_unique = unique (said values) (answer_of from) said_back

  said_if_any_back : (a : Result (Option T) Refusal) → answer_if_any from (said_if_any values a) ≡ a
  unfolding answer_if_any
  said_if_any_back (Ok (Some x)) = ap (λ (y : T). Ok (Some y)) (known x)
  said_if_any_back (Ok None) = refl
  said_if_any_back (Err x) = ap Err (back x)

  pub said_if_any_unique : (a b : Result (Option T) Refusal) (s : Said) → said_if_any values a ≡ s → said_if_any values b ≡ s → a ≡ b
  said_if_any_unique = unique (said_if_any values) (answer_if_any from) said_if_any_back

-- .. a number, and what is done with nothing to give
pub number_unique : (a b : Result ℕ Refusal) (s : Said) → said number_value a ≡ s → said number_value b ≡ s → a ≡ b
number_unique = said_unique number_value (λ (l : List ℕ). get_or l 0 0) (λ (n : ℕ). refl)

pub done_unique : (a b : Result ⊤ Refusal) (s : Said) → said nothing a ≡ s → said nothing b ≡ s → a ≡ b
done_unique = said_unique nothing (λ (l : List ℕ). tt) (λ (d : ⊤). refl)
