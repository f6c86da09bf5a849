-- What `min_by_key` finds, where the keys are numbers: of the items the one with the smallest key, the first where they are equal.
-- The entry's place is found so, among the places of the active ports.
use Rattle.std.proofs.Common.{◌≡◌, ℕ, ◌<◌, ◌≤◌, Bool, true, false, cond, eqb, ltb, List, [], ◌∷◌, map, length, Option, Some, None, unwrap_or, sym, refl, ap, ◌∙◌, subst, arith, lt-ltb, le-ltb, ltb-true, ltb-false, eqb-true}
use borrow.Author.Tests.{eqb-false}
use denote.Ref.{Bor}
use Rattle.std.specs.Fn.{Mut, CalledAt}
use Rattle.std.specs.Iterator.{PicksByKey, KeyTurn, Drains}
use Rattle.std.specs.List.{FoldsTo, fold, reduce, filter, enumerate_from}
use Rattle.std.specs.Option.{option_map}
use Rattle.std.specs.Ordering.{nat_cmp, min_by_ordering}
use Rattle.std.specs.declared.cmp.Ordering.TheVariants.{Less, Equal, Greater}
use Rattle.std.proofs.lemmas.Iterator.{YieldsList, items_from_drains}
use Rattle.refusal.specs.Said.{pick}
use Rattle.ports.specs.declared.Port.{Port}
use Rattle.ports.specs.declared.Ports.{Ports}
use Rattle.ports.specs.Ports.{port_count, nowhere, places, port_at, active_at, time_at, those, folded, sooner, earliest, active_ports, entry}
use Rattle.ports.proofs.Laws.{Low, low_active}
use Rattle.ports.proofs.Listed.{listed, filter-map}

pick_is : {Z : Type 0} (k m : ℕ) (b x : Z) → min_by_ordering (nat_cmp k m) b x ≡ cond (ltb m k) x b
pick_is {Z} k m b x = go (ltb k m) (eqb k m) refl refl
  where
    go : (p q : Bool) → ltb k m ≡ p → eqb k m ≡ q → min_by_ordering {A = Z} (cond p Less (cond q Equal Greater)) b x ≡ cond (ltb m k) x b
    go true q e d = let h : k < m = ltb-true k m e in let i : k ≤ m = omega arith in rw (le-ltb m k i)
    go false true e d = let h : k ≡ m = eqb-true k m d in let i : k ≤ m = omega arith in rw (le-ltb m k i)
    go false false e d = let h : m ≤ k = ltb-false k m e in let n : k ≡ m → ⊥ = eqb-false k m d in let i : m < k = omega (arith, n) in rw (lt-ltb m k i)

-- of two, the one with the smaller key, the first where they are equal
abbrev pub smaller : {B : Type 0} → (B → ℕ) → B → B → B
smaller key b x = cond (ltb (key x) (key b)) x b

module _ {S A B F : Type 0} (steps : S → Option A → S → Type 0) (v : A → B) (g : Mut F (Bor A × Unit {0}) ℕ) (key : B → ℕ) {f : F}
    (step : (x : A) (k : ℕ) (q : F) → CalledAt g f x k q → (q ≡ f) × (k ≡ key (v x))) where
  keyed : (z : Bool) (k m : ℕ) (b x : A) → k ≡ key (v b) → m ≡ key (v x) → cond z m k ≡ key (v (cond z x b))
  keyed true k m b x e h = h
  keyed false k m b x e h = e

  seen : (z : Bool) (b x : A) → v (cond z x b) ≡ cond z (v x) (v b)
  seen true b x = refl
  seen false b x = refl

  turns : (xs : List A) (h : F) (k : ℕ) (b : A) (q : F × ℕ) (y : A) → h ≡ f → k ≡ key (v b) → FoldsTo {P = (F × ℕ) × A} (KeyTurn min_by_ordering min_by_ordering g nat_cmp) ((h, k), b) xs (q, y)
      → v y ≡ fold (smaller key) (v b) (map v xs)
  turns [] h k b q y e m t = ap v (sym (ap (λ (z : (F × ℕ) × A). z.1) t))
  turns (x ∷ xs) h k b q y e m (j, (n, o, call, cmp, at, item), rest) =
      let s = step x n j.0.0 (subst (λ (w : F). CalledAt g w x n j.0.0) e call) in
      let at' : j.0.1 ≡ cond (ltb n k) n k = rw (← cmp, pick_is k n k n) at at in
      let item' : j.1 ≡ cond (ltb n k) x b = rw (← cmp, pick_is k n b x) at item in
      let next : v y ≡ fold (smaller key) (v j.1) (map v xs) = turns xs j.0.0 j.0.1 j.1 q y s.0 (at' ∙ keyed (ltb n k) k n b x m s.1 ∙ ap (λ (w : A). key (v w)) (sym item')) rest in
      let same : v j.1 ≡ smaller key (v b) (v x) = ap v item' ∙ seen (ltb n k) b x ∙ rw (s.1, m) in
      next ∙ ap (λ (w : B). fold (smaller key) w (map v xs)) same

  drained : {all : List B} (s : S) (xs : List A) → Drains steps s xs → YieldsList steps v s all → map v xs ≡ all
  drained s xs (u, (t, yielded, none)) y = items_from_drains xs (t, yielded, λ w. (u, none)) y

  pub least_from_yields_List : {all : List B} (s : S) (r : Option A) → PicksByKey steps min_by_ordering min_by_ordering g nat_cmp s f r → YieldsList steps v s all → option_map v r ≡ reduce (smaller key) all
  least_from_yields_List s None p y = ap (reduce (smaller key)) (drained s [] p y)
  least_from_yields_List s (Some z) (x, xs, k, h, q, gone, call, folds) y =
      let s' = step x k h call in
      ap Some (turns xs h k x q z s'.0 s'.1 folds) ∙ ap (reduce (smaller key)) (drained s (x ∷ xs) gone y)

-- ---- the entry's place

-- when a port with its place saw the frame
abbrev time_of : ℕ × Port → ℕ
time_of r = r.1.dc_receive_time

mapped : {A B C : Type 0} (f : B → C) (v : A → B) (r : Option A) → option_map (λ (x : A). f (v x)) r ≡ option_map f (option_map v r)
mapped f v None = refl
mapped f v (Some x) = refl

module _ (p : Ports) where
  abbrev with_place : ℕ → ℕ × Port
  with_place k = (k, port_at p k)

  first-least : (k : ℕ) (ks : List ℕ) → k < nowhere → Low ks → fold (smaller time_of) (with_place k) (map with_place ks) ≡ with_place (folded (sooner (time_at p)) k ks)
  unfolding folded
  first-least k [] h a = refl
  first-least k (j ∷ ks) h a = rw (lt-ltb k nowhere h) (go (ltb (time_at p j) (time_at p k)) (first-least j ks a.0 a.1) (first-least k ks h a.1))
    where
      go : (x : Bool) → fold (smaller time_of) (with_place j) (map with_place ks) ≡ with_place (folded (sooner (time_at p)) j ks)
          → fold (smaller time_of) (with_place k) (map with_place ks) ≡ with_place (folded (sooner (time_at p)) k ks)
          → fold (smaller time_of) (cond x (with_place j) (with_place k)) (map with_place ks) ≡ with_place (folded (sooner (time_at p)) (pick x j k) ks)
      go true m n = m
      go false m n = n

  earliest-found : (ks : List ℕ) → Low ks → unwrap_or (option_map (λ (r : ℕ × Port). r.0) (reduce (smaller time_of) (map with_place ks))) nowhere ≡ earliest (time_at p) ks
  unfolding earliest folded
  earliest-found [] a = refl
  earliest-found (k ∷ ks) a = ap (λ (r : ℕ × Port). r.0) (first-least k ks a.0 a.1)

  pub entry_found : {A : Type 0} (v : A → ℕ × Port) (r : Option A) → length p.0 ≡ port_count → option_map v r ≡ reduce (smaller time_of) (filter (λ (r : ℕ × Port). r.1.active) (enumerate_from 0 p.0))
      → unwrap_or (option_map (λ (x : A). (v x).0) r) nowhere ≡ entry p
  unfolding entry active_ports
  entry_found v r h e =
      let listed' : filter (λ (r : ℕ × Port). r.1.active) (enumerate_from 0 p.0) ≡ map with_place (those (active_at p) places) =
      ap (λ (l : List Port). filter (λ (r : ℕ × Port). r.1.active) (enumerate_from 0 l)) (listed p h) ∙ filter-map (λ (r : ℕ × Port). r.1.active) with_place places in
      rw (mapped (λ (r : ℕ × Port). r.0) v r, e, listed') (earliest-found (those (active_at p) places) (low_active p))
