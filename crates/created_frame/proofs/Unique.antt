-- An answer is known from what it says, by an inverse: so each promise allows one result.
use Rattle.std.proofs.Common.{◌≡◌, ℕ, Bool, true, false, eqb, List, get_or, sym, refl, ap, ◌∙◌, Option, Result}
use Rattle.refusal.specs.Said.{Said}
use Rattle.refusal.specs.declared.Refusal.{Refusal}
use Rattle.refusal.proofs.Unique.{said_unique, said_if_any_unique}
use Rattle.created_frame.specs.Answers.{handle_values, rest_values, state_values, can_values, said_opened, said_pushed, said_rest, said_can}
use Rattle.created_frame.specs.declared.Builder.{Builder}
use Rattle.created_frame.specs.declared.PduResponseHandle.{PduResponseHandle}
use Rattle.created_frame.specs.declared.Push.{Push}

-- the state of these values, the PDU, the bytes with the PDU, and the test
abbrev state_of : List ℕ → Builder
state_of l = record { used = get_or l 0 0; count = get_or l 1 0; last = get_or l 2 0 }

abbrev handle_of : List ℕ → PduResponseHandle
handle_of l = record { start = get_or l 0 0; size = get_or l 1 0; index = get_or l 2 0; command = get_or l 3 0 }

abbrev rest_of : List ℕ → ℕ × PduResponseHandle
rest_of l = (get_or l 0 0, record { start = get_or l 1 0; size = get_or l 2 0; index = get_or l 3 0; command = get_or l 4 0 })

abbrev can_of : List ℕ → Bool
can_of l = eqb (get_or l 0 0) 1

can_back : (t : Bool) → can_of (can_values t) ≡ t
can_back true = refl
can_back false = refl

-- ---- opening

pub opened_unique : (a b : Result Builder Refusal) (s : Said) → said_opened a ≡ s → said_opened b ≡ s → a ≡ b
opened_unique = said_unique state_values state_of (λ (b : Builder). refl)

-- ---- a push

pub pushed_unique : (a b : Result PduResponseHandle Refusal) (s : Said) → said_pushed a ≡ s → said_pushed b ≡ s → a ≡ b
pushed_unique = said_unique handle_values handle_of (λ (h : PduResponseHandle). refl)

-- what is promised of one result of a push, whose answer is said by `say`
abbrev Gives : {T : Type 0} → (Result T Refusal → Said) → Said → Builder → ℕ → Push T → Type 0
Gives say s b n r = (say r.answer ≡ s) × ((r.builder ≡ b) × (r.next ≡ n))

module _ {T : Type 0} (say : Result T Refusal → Said) (once : (a b : Result T Refusal) (s : Said) → say a ≡ s → say b ≡ s → a ≡ b) where
  one_push : (s : Said) (b : Builder) (n : ℕ) (x y : Push T) → Gives say s b n x → Gives say s b n y → x ≡ y
  one_push s b n x y p q =
      let e : x.answer ≡ y.answer = once x.answer y.answer s p.0 q.0 in
      let f : x.builder ≡ y.builder = p.1.0 ∙ sym q.1.0 in
      let g : x.next ≡ y.next = p.1.1 ∙ sym q.1.1 in
      ap (λ (z : Result T Refusal). record { answer = z; builder = x.builder; next = x.next }) e
      ∙ ap (λ (z : Builder). record { answer = y.answer; builder = z; next = x.next }) f
      ∙ ap (λ (z : ℕ). record { answer = y.answer; builder = y.builder; next = z }) g

-- .. of `push_pdu`
abbrev pub PushGives : Said → Builder → ℕ → Push PduResponseHandle → Type 0
PushGives = Gives said_pushed

pub push_unique : (s : Said) (b : Builder) (n : ℕ) (x y : Push PduResponseHandle) → PushGives s b n x → PushGives s b n y → x ≡ y
push_unique = one_push said_pushed pushed_unique

-- ---- a push of as much as fits

rest_unique : (a b : Result (Option (ℕ × PduResponseHandle)) Refusal) (s : Said) → said_rest a ≡ s → said_rest b ≡ s → a ≡ b
rest_unique = said_if_any_unique rest_values rest_of (λ (r : ℕ × PduResponseHandle). refl)

-- .. of `push_pdu_slice_rest`
abbrev pub RestGives : Said → Builder → ℕ → Push (Option (ℕ × PduResponseHandle)) → Type 0
RestGives = Gives said_rest

pub rest_push_unique : (s : Said) (b : Builder) (n : ℕ) (x y : Push (Option (ℕ × PduResponseHandle))) → RestGives s b n x → RestGives s b n y → x ≡ y
rest_push_unique = one_push said_rest rest_unique

-- ---- whether a payload has room

pub can_unique : (a b : Result Bool Refusal) (s : Said) → said_can a ≡ s → said_can b ≡ s → a ≡ b
can_unique = said_unique can_values can_of can_back
