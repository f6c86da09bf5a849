-- What a spreading leaves alone, whatever the first area held: by going along the areas, each of which keeps its length.
use mathlib.Core.Path.{◌≡◌, refl, sym, ◌∙◌}
use mathlib.Core.Bool.{Bool, true, false, false≢true}
use mathlib.Core.List.{List, [], ◌∷◌, ◌++◌}
use Prim.Native.Nat.{ℕ, zero, suc, ◌+◌, ◌-◌, ◌*◌, ◌/◌, ◌≤◌, ◌<◌}
use native.Mathlib.Omega.{arith}
use native.Mathlib.Nat.{suc-mul}
use borrow.Author.Tests.{leb-false}
use lib.Dec.{eqb}
use lib.ListN.{length, take, drop, length-append, length-drop}
use lib.Seq.{drop_at, drop-drop, length-take-le, take_at}
use Rattle.refusal.specs.Said.{gives, pick}
use Rattle.refusal.proofs.Unique.{gives_none}
use Rattle.created_frame.specs.declared.Builder.{Builder}
use Rattle.created_frame.specs.Frame.{fresh, taken, rest_builder, rest_next, after_rest}
use Rattle.created_frame.proofs.States.{rest_absent-kept}
use Rattle.spread.specs.Row.{zeroed, Run, stopped, row_from, room_in, Outcome}
use Rattle.created_frame.proofs.Whole.{length-after_rest}
use Rattle.spread.proofs.Push.{zeroed-length, push_none}
use Rattle.spread.proofs.Going.{area_in, row_more, row_stop}
use Rattle.spread.specs.Demand.{Bounds}
use Rattle.spread.proofs.Laws.{law, out, bounds, reaches, fits, ways}

-- ---- the areas past the answer

-- the row keeps its length, and what lies behind the areas that were taken stays
pub record Kept (size : ℕ) (row : List ℕ) (r : Run) : Type 0 where
  pub same_length : length r.areas ≡ length row
  pub behind : drop (length r.states * size) r.areas ≡ drop (length r.states * size) row

kept-none : (size : ℕ) (row : List ℕ) (index : ℕ) → Kept size row (stopped row index)
kept-none size row index = record { same_length = refl; behind = refl }

kept-one : (size : ℕ) (row A : List ℕ) (x : Builder) (rest : Run) → length A ≡ size → size ≤ length row → Kept size (drop size row) rest
    → Kept size row (record { areas = A ++ rest.areas; states = x ∷ rest.states; next = rest.next })
kept-one size row A x rest al m ih =
    let k = length rest.states in
    let e : suc k * size ≡ size + k * size = suc-mul k size ∙ omega arith in
    let i : length rest.areas ≡ length row - size = ih.same_length ∙ length-drop size row in
    record {
      same_length = length-append A rest.areas ∙ omega arith;
      behind = rw (e, ← drop-drop (k * size) size (A ++ rest.areas), ← drop-drop (k * size) size row, drop_at A rest.areas size al) ih.behind;
    }

one-area : (n size all : ℕ) → suc n * size ≤ all → (size ≤ all) × (n * size ≤ all - size)
one-area n size all h =
    let e : suc n * size ≡ n * size + size = suc-mul n size in
    (omega arith, omega arith)

module _ (size command address : ℕ) where
  row_kept : (n : ℕ) (area : List ℕ) (b : Builder) (index o : ℕ) (row bytes : List ℕ) → length area ≡ size → n * size ≤ length row
      → Kept size row (row_from size command address n area b index o row bytes)
  unfolding row_from
  row_kept zero area b index o row bytes al m = kept-none size row index
  row_kept (suc n) area b index o row bytes al m =
      let w = one-area n size (length row) m in
      let t = taken size b.used (length bytes) in
      go (eqb (length bytes) 0) w.0 (row_kept n (zeroed size) fresh (rest_next size b index command (length bytes)) (o + t) (drop size row) (drop t bytes) (zeroed-length size) (simp length-drop w.1))
    where
      go : (e : Bool) → size ≤ length row
          → let t = taken size b.used (length bytes) in
          let rest = row_from size command address n (zeroed size) fresh (rest_next size b index command (length bytes)) (o + t) (drop size row) (drop t bytes) in
          Kept size (drop size row) rest
          → Kept size row (pick e (stopped row index) (record { areas = after_rest area b index command (address + o) bytes ++ rest.areas; states = rest_builder size b command (length bytes) ∷ rest.states; next = rest.next }))
      go true m ih = kept-none size row index
      go false m ih = kept-one size row (after_rest area b index command (address + o) bytes) (rest_builder size b command (length bytes)) _ (length-after_rest area b index command (address + o) bytes ∙ al) m ih

module _ (row : List ℕ) (size : ℕ) (first : Builder) (index command address : ℕ) (image : List ℕ) where
  -- THEOREM: areas past the answer aren't touched, whatever the first area held
  pub past-kept : Kept size row (out row size first index command address image).run
  past-kept =
      ways row size first index command address image (λ (o : Outcome). Kept size row o.run) (λ p. kept-none size row _) (λ p q. kept-none size row _) (λ p q r. kept-none size row _)
      (λ p q r. (let f = law (length row) size first command (length image) p in
      row_kept size command address (length row / size) (take size row) first index 0 row image
      (length-take-le size row (whole-fits f)) (omega (arith, f.row_whole))))
    where
      whole-fits : Bounds (length row) size first command (length image) → size ≤ length row
      whole-fits f = omega (arith, area_in 0 (length row / size) size (length row) f.areas_some f.row_whole)

  module _ (l : bounds row size first index command address image ≡ true) (a : reaches row size first index command address image ≡ true) where
    -- THEOREM: an empty image gives 0 and changes nothing
    pub empty_image : length image ≡ 0 → ((out row size first index command address image).said ≡ gives (0 ∷ [])) × ((out row size first index command address image).run ≡ stopped row index)
    empty_image z =
        ways row size first index command address image (λ (o : Outcome). (o.said ≡ gives (0 ∷ [])) × (o.run ≡ stopped row index))
        (λ p. absurd (false≢true (sym p ∙ l))) (λ p q. absurd (false≢true (sym q ∙ a))) (λ p q r. absurd (none_over r))
        (λ p q r. rw (row_stop size command address (length row / size) (take size row) first index 0 row image z) (refl, refl))
      where
        none_over : fits row size first index command address image ≡ false → ⊥
        none_over r = let h : room_in (length row / size) size first.used < length image = leb-false _ _ r in omega arith

  -- THEOREM: a first area with 12 bytes free or fewer is left as it is, and its state handed back
  pub full_first : 0 < length image → size - first.used ≤ 12 → (k : ℕ) → (out row size first index command address image).said ≡ gives (k ∷ [])
      → (take size (out row size first index command address image).run.areas ≡ take size row)
      × ((bs : List Builder) × ((out row size first index command address image).run.states ≡ first ∷ bs))
  full_first pos full k =
      ways row size first index command address image
      (λ (o : Outcome). o.said ≡ gives (k ∷ []) → (take size o.run.areas ≡ take size row) × ((bs : List Builder) × (o.run.states ≡ first ∷ bs)))
      (λ p e. absurd (gives_none _ _ _ e)) (λ p q e. absurd (gives_none _ _ _ e)) (λ p q r e. absurd (gives_none _ _ _ e))
      (λ p q r e. (let f = law (length row) size first command (length image) p in first-left (length row / size) f.areas_some f.row_whole f))
    where
      first-left : (n : ℕ) → 1 ≤ n → n * size ≡ length row → Bounds (length row) size first command (length image)
          → let r = row_from size command address n (take size row) first index 0 row image in
          (take size r.areas ≡ take size row) × ((bs : List Builder) × (r.states ≡ first ∷ bs))
      first-left zero h e f = absurd (omega arith)
      first-left (suc n) h e f =
          let al : length (take size row) ≡ size = length-take-le size row (one-area n size (length row) (omega arith)).0 in
          let t : taken size first.used (length image) ≡ 0 = omega arith in
          let u = rest_absent-kept (take size row) first index command (address + 0) image
          (rw al (push_none size first index command (length image) f.first_sound (omega (arith, f.command_at_most)) f.given_most t)) in
          let s : rest_builder size first command (length image) ≡ first = rw al at u.state_kept in
          rw (row_more size command address n (take size row) first index 0 row image pos, u.area_kept, s) (take_at (take size row) _ size al, (_, refl))
