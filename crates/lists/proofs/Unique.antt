-- A list that comes back is known from its promise, by an inverse: what is said, the count and every place make the answer.
use Prim.Native.Nat.{ℕ, ◌+◌, ◌≤◌, ◌<◌}
use native.Mathlib.Omega.{arith}
use mathlib.Core.Path.{◌≡◌, refl, sym, ap, ◌∙◌}
use mathlib.Core.List.{List}
use lib.ListN.{get_or}
use Rattle.std.specs.Prelude.{Option, Some, None, MatchOption, Result, Ok, Err, IfOk}
use Rattle.refusal.specs.Said.{Said, gives, absent, refuses, said, number_value}
use Rattle.refusal.specs.declared.Refusal.{Refusal}
use Rattle.refusal.proofs.Unique as refusals
use Rattle.eeprom.specs.declared.Range.{Range}
use Rattle.lists.specs.Records.{Back, back_of}
use Rattle.lists.specs.SyncManagers.{sm_zero, sm_most}
use Rattle.lists.specs.Fmmus.{fmmu_most}
use Rattle.lists.specs.Pdos.{pdo_zero, pdo_most}
use Rattle.lists.specs.Answers.{back_sms, back_fmmus, back_pdos}
use Rattle.lists.specs.declared.SyncManager.{SyncManager}
use Rattle.lists.specs.declared.SyncManagers.{SyncManagers}
use Rattle.lists.specs.declared.FmmuList.{FmmuList}
use Rattle.lists.specs.declared.Pdo.{Pdo}
use Rattle.lists.specs.declared.PdoList.{PdoList}

-- what a call answers that says this, and whose list is t
unfoldable answer_of : {T : Type 0} → Said → T → Result T Refusal
answer_of (gives l) t = Ok t
answer_of absent t = Ok t
answer_of (refuses n v) t = Err (refusals.refusal_of n v)

-- .. for a struct that is made of its count and its places
module _ {R T : Type 0} (blank : R) (most : ℕ) (count : T → ℕ) (places : T → List R) (make : ℕ → List R → T) (made : (t : T) → make (count t) (places t) ≡ t) where
  answer_back : (r : Result T Refusal) →
      answer_of (back_of blank most count places r).says (make (back_of blank most count places r).count (back_of blank most count places r).places) ≡ r
  unfolding answer_of
  answer_back (Ok t) = ap Ok (made t)
  answer_back (Err x) = ap Err (refusals.back x)

  pub back_unique : (r s : Result T Refusal) (x : Back R) → back_of blank most count places r ≡ x → back_of blank most count places s ≡ x → r ≡ s
  back_unique = refusals.unique (back_of blank most count places) (λ (b : Back R). answer_of b.says (make b.count b.places)) answer_back

pub sms_unique : (r s : Result SyncManagers Refusal) (x : Back SyncManager) → back_sms r ≡ x → back_sms s ≡ x → r ≡ s
sms_unique = back_unique sm_zero sm_most (λ r. r.count) (λ r. r.items) (λ n l. record { count = n; items = l }) (λ r. refl)

pub fmmus_unique : (r s : Result FmmuList Refusal) (x : Back ℕ) → back_fmmus r ≡ x → back_fmmus s ≡ x → r ≡ s
fmmus_unique = back_unique 0 fmmu_most (λ r. r.count) (λ r. r.items) (λ n l. record { count = n; items = l }) (λ r. refl)

pub pdos_unique : (r s : Result PdoList Refusal) (x : Back Pdo) → back_pdos r ≡ x → back_pdos s ≡ x → r ≡ s
pdos_unique = back_unique pdo_zero pdo_most (λ r. r.count) (λ r. r.items) (λ n l. record { count = n; items = l }) (λ r. refl)

-- ---- reading records

-- the number that is said first
abbrev count_in : Said → ℕ
count_in (gives v) = get_or v 0 0
count_in absent = 0
count_in (refuses n v) = 0

-- how many they are, or the refusal
pub count_unique : (r s : Result ℕ Refusal) (x : Said) → said number_value r ≡ x → said number_value s ≡ x → r ≡ s
count_unique = refusals.number_unique

-- .. and every place
module _ {R : Type 0} (places : List R) where
  records_back : (r : Result (ℕ × List R) Refusal) → IfOk r (λ a. a.1 ≡ places) →
      answer_of (said (λ a. number_value a.0) r) (count_in (said (λ a. number_value a.0) r), places) ≡ r
  unfolding answer_of
  records_back (Ok a) h = ap (λ (l : List R). Ok (a.0, l)) (sym h)
  records_back (Err x) h = ap Err (refusals.back x)

  pub records_unique : (r s : Result (ℕ × List R) Refusal) (x : Said) → said (λ a. number_value a.0) r ≡ x → said (λ a. number_value a.0) s ≡ x →
      IfOk r (λ a. a.1 ≡ places) → IfOk s (λ a. a.1 ≡ places) → r ≡ s
  records_unique r s x p q h k = sym (records_back r h) ∙ ap (λ (y : Said). answer_of y (count_in y, places)) (p ∙ sym q) ∙ records_back s k

-- the rest behind n bytes
pub rest_unique : (rest : Range) (n : ℕ) (a b : Option Range) →
    MatchOption a (rest.end < rest.byte_pos + n) (λ g. (rest.byte_pos + n ≤ rest.end) × (g ≡ record { byte_pos = rest.byte_pos + n; end = rest.end })) →
    MatchOption b (rest.end < rest.byte_pos + n) (λ g. (rest.byte_pos + n ≤ rest.end) × (g ≡ record { byte_pos = rest.byte_pos + n; end = rest.end })) → a ≡ b
rest_unique rest n None None p q = refl
rest_unique rest n None (Some h) p q = absurd (let z : ⊥ = omega (arith, q.0) in z)
rest_unique rest n (Some g) None p q = absurd (let z : ⊥ = omega (arith, p.0) in z)
rest_unique rest n (Some g) (Some h) p q = ap Some (p.1 ∙ sym q.1)
