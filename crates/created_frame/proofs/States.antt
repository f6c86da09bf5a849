-- What a push does to state and index: by the outcomes of its tests. A state that comes back is sound, and a refusal changes nothing but the index at 8.
use Rattle.std.proofs.Common.{◌≡◌, ℕ, ◌+◌, ◌*◌, ◌≤◌, max, Bool, true, false, eqb, leb, ◌≢◌, List, [], ◌∷◌, length, sym, refl, arith, ne_eqb, le-leb, leb-true}
use borrow.Author.Tests.{eqb-false}
use Rattle.refusal.specs.Said.{Said, gives, absent, refuses, pick}
use Rattle.pdu.specs.Pdu.{area_most}
use Rattle.created_frame.specs.declared.Builder.{Builder}
use Rattle.created_frame.specs.Frame.{command_most, data_most, sound, acceptable, room, grown, after, fresh, handle, pushed, pushed_builder, pushed_next, after_push, taken, rest_pushed, rest_builder, rest_next, after_rest}
use Rattle.created_frame.proofs.Laws.{sound_facts}

-- ---- a state that comes back is sound, also where it did not come from opening

-- with one PDU more, where there is room
grown-sound : (size : ℕ) (b : Builder) (len : ℕ) → sound size b ≡ true → b.used + (len + 12) ≤ size → sound size (grown b len) ≡ true
unfolding sound
grown-sound size b len s h =
    let f = sound_facts size b s in
    let n : 12 * (b.count + 1) ≤ b.used + (len + 12) = omega arith in
    let l : b.used + 10 ≤ b.used + (len + 12) = omega arith in
    simp (le-leb size 2047 f.small, le-leb (b.used + (len + 12)) size h, ne_eqb (b.count + 1) 0 (λ z. omega arith), le-leb (12 * (b.count + 1)) (b.used + (len + 12)) n, le-leb (b.used + 10) (b.used + (len + 12)) l)

pub opened-sound : (size : ℕ) → size ≤ area_most → sound size fresh ≡ true
unfolding sound
opened-sound size h = simp (le-leb size 2047 h, le-leb 0 size (omega arith))

module _ (size : ℕ) (b : Builder) (s : sound size b ≡ true) where
  pub pushed-sound : (command given over : ℕ) → sound size (pushed_builder size b command given over) ≡ true
  unfolding pushed_builder room
  pushed-sound command given over = go (acceptable size b command given over) _ refl
    where
      go : (t r : Bool) → leb (b.used + (max given over + 12)) size ≡ r → sound size (pick t (pick r (grown b (max given over)) b) b) ≡ true
      go true true e = grown-sound size b (max given over) s (leb-true _ _ e)
      go true false e = s
      go false r e = s

  pub rest_sound : (command given : ℕ) → sound size (rest_builder size b command given) ≡ true
  unfolding rest_builder
  rest_sound command given = go (acceptable size b command given 0) _ refl
    where
      go : (t e : Bool) → eqb (taken size b.used given) 0 ≡ e → sound size (pick t (pick e b (grown b (taken size b.used given))) b) ≡ true
      go true false e =
          let pos : taken size b.used given ≢ 0 = eqb-false (taken size b.used given) 0 e in
          grown-sound size b (taken size b.used given) s (omega arith)
      go true true e = s
      go false r e = s

  -- .. so the next call accepts it
  pub accepts : (command given over : ℕ) → command ≤ command_most → given ≤ data_most → over ≤ data_most → acceptable size b command given over ≡ true
  unfolding acceptable
  accepts command given over c g o = simp (s, le-leb command 14 c, le-leb given 65535 g, le-leb over 65535 o)

  -- and does not answer 14 where its command and lengths are within the bounds
  pub push_not_14 : (index command given over : ℕ) (l : List ℕ) → command ≤ command_most → given ≤ data_most → over ≤ data_most
      → pushed size b index command given over ≡ refuses 14 l → ⊥
  unfolding pushed
  push_not_14 index command given over l c g o e = go (room size b (max given over)) (simp (accepts command given over c g o) at e)
    where
      go : (r : Bool) → pick r (gives (handle b (max given over) index command)) (refuses 8 []) ≡ refuses 14 l → ⊥
      go true e = let z : ◌≡◌ {A = ℕ} 0 1 = cc in omega arith
      go false e = let z : ◌≡◌ {A = ℕ} 8 14 = cc in omega arith

  pub rest_not_14 : (index command given : ℕ) (l : List ℕ) → command ≤ command_most → given ≤ data_most → rest_pushed size b index command given ≡ refuses 14 l → ⊥
  unfolding rest_pushed
  rest_not_14 index command given l c g e = go (eqb (taken size b.used given) 0) (simp (accepts command given 0 c g (omega arith)) at e)
    where
      go : (t : Bool) → pick t absent (gives (taken size b.used given ∷ handle b (taken size b.used given) index command)) ≡ refuses 14 l → ⊥
      go true e = let z : ◌≡◌ {A = ℕ} 0 1 = cc in omega arith
      go false e = let z : ◌≡◌ {A = ℕ} 0 1 = cc in omega arith

  -- a push of as much as fits, where it is accepted, by the bytes that go in
  module _ (index command given : ℕ) (c : command ≤ command_most) (g : given ≤ data_most) where
    pub rest_said : rest_pushed size b index command given ≡ pick (eqb (taken size b.used given) 0) absent (gives (taken size b.used given ∷ handle b (taken size b.used given) index command))
    unfolding rest_pushed
    rest_said = rw (accepts command given 0 c g (omega arith)) refl

    pub rest_next_lem : rest_next size b index command given ≡ pick (eqb (taken size b.used given) 0) index (after index)
    unfolding rest_next
    rest_next_lem = rw (accepts command given 0 c g (omega arith)) refl

-- after index 255 comes index 0
pub index_wraps : after 255 ≡ 0
index_wraps = refl

-- ---- a refused push

-- at 14 nothing is changed, at 8 the index alone
pub record Unchanged (xs : List ℕ) (b : Builder) (index command address : ℕ) (bytes : List ℕ) (over number : ℕ) : Type 0 where
  pub area_kept : after_push xs b index command address bytes over ≡ xs
  pub state_kept : pushed_builder (length xs) b command (length bytes) over ≡ b
  pub index_next : pushed_next (length xs) b index command (length bytes) over ≡ pick (eqb number 8) (after index) index

pub push_refused : (xs : List ℕ) (b : Builder) (index command address : ℕ) (bytes : List ℕ) (over number : ℕ) (l : List ℕ)
    → pushed (length xs) b index command (length bytes) over ≡ refuses number l → Unchanged xs b index command address bytes over number
unfolding pushed pushed_builder pushed_next after_push
push_refused xs b index command address bytes over number l e = go _ _ refl refl e
  where
    go : (t r : Bool) → acceptable (length xs) b command (length bytes) over ≡ t → room (length xs) b (max (length bytes) over) ≡ r
        → pick t (pick r (gives (handle b (max (length bytes) over) index command)) (refuses 8 [])) (refuses 14 []) ≡ refuses number l
        → Unchanged xs b index command address bytes over number
    go true true p q e = let z : ◌≡◌ {A = ℕ} 0 1 = cc in absurd (omega arith)
    go true false p q e =
        let n : 8 ≡ number = cc in
        record { area_kept = simp (p, q); state_kept = simp (p, q); index_next = rw (← n) (simp p) }
    go false r p q e =
        let n : 14 ≡ number = cc in
        record { area_kept = simp p; state_kept = simp p; index_next = rw (← n) (simp p) }

-- ---- a push of as much as fits that is absent or refused

pub record RestUnchanged (xs : List ℕ) (b : Builder) (index command address : ℕ) (bytes : List ℕ) : Type 0 where
  pub area_kept : after_rest xs b index command address bytes ≡ xs
  pub state_kept : rest_builder (length xs) b command (length bytes) ≡ b
  pub index_kept : rest_next (length xs) b index command (length bytes) ≡ index

module _ (xs : List ℕ) (b : Builder) (index command address : ℕ) (bytes : List ℕ) where
  kept-unless : (s : Said) → ((l : List ℕ) → s ≡ gives l → ⊥) → rest_pushed (length xs) b index command (length bytes) ≡ s → RestUnchanged xs b index command address bytes
  unfolding rest_pushed rest_builder rest_next after_rest
  kept-unless s never e = go _ _ refl refl e
    where
      go : (t z : Bool) → acceptable (length xs) b command (length bytes) 0 ≡ t → eqb (taken (length xs) b.used (length bytes)) 0 ≡ z
          → pick t (pick z absent (gives (taken (length xs) b.used (length bytes) ∷ handle b (taken (length xs) b.used (length bytes)) index command))) (refuses 14 []) ≡ s
          → RestUnchanged xs b index command address bytes
      go true false p q e = absurd (never _ (sym e))
      go true true p q e = record { area_kept = simp (p, q); state_kept = simp (p, q); index_kept = simp (p, q) }
      go false z p q e = record { area_kept = simp p; state_kept = simp p; index_kept = simp p }

  pub rest_absent-kept : rest_pushed (length xs) b index command (length bytes) ≡ absent → RestUnchanged xs b index command address bytes
  rest_absent-kept = kept-unless absent (λ l e. let z : ◌≡◌ {A = ℕ} 0 1 = cc in omega arith)

  pub rest_refused : (number : ℕ) (l : List ℕ) → rest_pushed (length xs) b index command (length bytes) ≡ refuses number l → RestUnchanged xs b index command address bytes
  rest_refused number l = kept-unless (refuses number l) (λ m e. let z : ◌≡◌ {A = ℕ} 0 1 = cc in omega arith)
