-- A search ends at one header: the one at which a decision is made, after the headers that are passed over. What it says is read off that header,
-- and each of its answers has a definition that speaks of no search.
use Prim.Native.Nat.{ℕ, zero, suc, ◌+◌, ◌<◌}
use native.Mathlib.Omega.{arith}
use mathlib.Core.Path.{◌≡◌, refl, sym, ap, ◌∙◌}
use mathlib.Core.List.{List, []}
use mathlib.Core.Bool.{Bool, true, false}
use borrow.Author.Tests.{ltb-true, ltb-false, leb-true, leb-false, eqb-true, eqb-false}
use lib.Dec.{ltb, leb, eqb}
use Rattle.refusal.specs.Said.{Said, absent, refuses, pick}
use Rattle.eeprom.specs.Range.{new_said}
use Rattle.category.specs.Layout.{first_header, header_words, type_at, length_at, end_mark, word_most}
use Rattle.category.specs.Category.{empty_most, counted, Stepped, done, next, decided, stepped, searched}
use Rattle.category.specs.First.{HeaderAt, first, behind, Followed, NoFurther, past, empty, mark}
use Rattle.category.specs.Inside.{last_header}
use Rattle.category.proofs.Laws.{step_passes, Goes, goes_first, loop_done, loop_passes}

-- ---- the headers that a search comes to

-- it goes on from each
pub reaches : (image : List ℕ) (number w e : ℕ) → HeaderAt image number w e → Goes image number w e
reaches image number _ _ first = goes_first image number
reaches image number _ _ (behind w e w' e' h p) = loop_passes image number w e (reaches image number w e h) w' e' p

-- .. and a decision made there is the search's
pub reached_done : (image : List ℕ) (number w e : ℕ) (s : Said) → HeaderAt image number w e → done s ≡ stepped image number w e →
    (s ≡ searched image number) × (w ≡ last_header image number)
reached_done image number w e s h p = loop_done image number w e (reaches image number w e h) s p

-- ---- the header at which it ends

pub record Ends (image : List ℕ) (number : ℕ) : Type 0 where
  pub before : ℕ
  pub header : HeaderAt image number (last_header image number) before
  pub decides : done (searched image number) ≡ stepped image number (last_header image number) before

module _ (image : List ℕ) (number : ℕ) where
  ends-here : (w e : ℕ) (s : Said) → HeaderAt image number w e → done s ≡ stepped image number w e → Ends image number
  ends-here w e s h p =
      let q = reached_done image number w e s h p in
      record { before = e; header = rw (← q.1) h; decides = rw (← q.1) (ap done (sym q.0) ∙ p) }

  ends-over : (f w e : ℕ) → word_most < w + f → HeaderAt image number w e → Ends image number
  ends-over zero w e k h = absurd (let z : ⊥ = omega (arith, (reaches image number w e h).inside) in z)
  ends-over (suc f) w e k h =
      go (stepped image number w e) refl (λ w' e' p.
      let q = step_passes image number w e w' e' p in
      ends-over f w' e' (omega (arith, q.there)) (behind w e w' e' h q))
    where
      go : (s : Stepped) → s ≡ stepped image number w e → ((w' e' : ℕ) → next w' e' ≡ stepped image number w e → Ends image number) → Ends image number
      go (done s) q ih = ends-here w e s h q
      go (next w' e') q ih = ih w' e' q

  pub search_ends : Ends image number
  search_ends = ends-over (suc word_most) first_header 0 (omega arith) first

-- ---- what is decided there, and why

pub data Why (image : List ℕ) (number w e : ℕ) (s : Said) : Type 0 where
  none : NoFurther image w e → s ≡ absent → Why image number w e s
  named : Followed image w e → type_at image w ≡ number → s ≡ new_said (w + header_words) (length_at image w) → Why image number w e s
  leads : Followed image w e → (type_at image w ≡ number → ⊥) → (type_at image w ≡ end_mark → ⊥) → word_most < w + header_words + length_at image w →
      s ≡ refuses 1 [] → Why image number w e s

-- each test of the decision, by whether it holds
module _ (image : List ℕ) (number w e : ℕ) (s : Said) (type len : ℕ) (t : type_at image w ≡ type) (l : length_at image w ≡ len) where
  tests-why : (t₁ t₂ t₃ t₄ t₅ : Bool) → ltb word_most (w + 2) ≡ t₁ → leb empty_most (counted len e) ≡ t₂ → eqb type number ≡ t₃ → eqb type end_mark ≡ t₄ → ltb word_most (w + 2 + len) ≡ t₅ →
      done s ≡ pick t₁ (done absent) (pick t₂ (done absent) (pick t₃ (done (new_said (w + 2) len)) (pick t₄ (done absent) (pick t₅ (done (refuses 1 [])) (next (w + 2 + len) (counted len e)))))) →
      Why image number w e s
  tests-why true t₂ t₃ t₄ t₅ a b c d f p = none (past (ltb-true _ _ a)) cc
  tests-why false true t₃ t₄ t₅ a b c d f p = none (empty (rw l (leb-true _ _ b))) cc
  tests-why false false true t₄ t₅ a b c d f p =
      named (record { inside = ltb-false _ _ a; few = rw l (leb-false _ _ b) }) (t ∙ eqb-true _ _ c) (rw l cc)
  tests-why false false false true t₅ a b c d f p = none (mark (t ∙ eqb-true _ _ d)) cc
  tests-why false false false false true a b c d f p =
      leads (record { inside = ltb-false _ _ a; few = rw l (leb-false _ _ b) }) (rw t (eqb-false _ _ c)) (rw t (eqb-false _ _ d)) (rw l (ltb-true _ _ f)) cc
  tests-why false false false false false a b c d f p = let z : ◌≡◌ {A = ℕ} 0 1 = cc in absurd (omega arith)

pub step_why : (image : List ℕ) (number w e : ℕ) (s : Said) → done s ≡ stepped image number w e → Why image number w e s
unfolding stepped decided
step_why image number w e s p = go (type_at image w) (length_at image w) refl refl p
  where
    go : (type len : ℕ) → type_at image w ≡ type → length_at image w ≡ len → done s ≡ decided type len number (w + header_words) (counted len e) → Why image number w e s
    go type len t l p = tests-why image number w e s type len t l (ltb word_most (w + 2)) (leb empty_most (counted len e)) (eqb type number) (eqb type end_mark) (ltb word_most (w + 2 + len)) refl refl refl refl refl p
