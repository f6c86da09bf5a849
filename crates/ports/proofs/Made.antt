-- An array that a closure makes place by place: each element is what a call gives, where every call leaves the closure as it is.
use Rattle.std.proofs.Common.{◌≡◌, ℕ, zero, suc, ◌+◌, ◌<◌, ◌≤◌, Bool, true, false, eqb, List, map, get_or, sym, refl, ap, ◌∙◌, arith, eqb-true, subst}
use Rattle.std.specs.Array.{IsFromFnResultFrom, IsFromFnResult, MapsFrom, IsMapOf}
use Rattle.std.specs.Fn.{Called, Mut}
use Rattle.std.specs.List.{range_with_len}
use Rattle.std.proofs.lemmas.List.FromFn.{fill_by_all}
use borrow.Author.Tests.{eqb-false}

-- of the places from i on, the first, or one behind it
at-or-behind : {A : Type 0} (i n k : ℕ) → i ≤ k → k < i + suc n → (i ≡ k → A) → (i + 1 ≤ k → k < i + 1 + n → A) → A
at-or-behind {A} i n k low high here behind = go (eqb i k) refl
  where
    go : (b : Bool) → eqb i k ≡ b → A
    go true e = here (eqb-true i k e)
    go false e = let n : i ≡ k → ⊥ = eqb-false i k e in behind (omega (arith, n)) (omega arith)

module _ {F B : Type 0} (g : Mut F (ℕ × Unit {0}) B) (h : ℕ → B) {f : F} (step : (k : ℕ) (y : B) (q : F) → Called g f (k, tt) y q → (q ≡ f) × (y ≡ h k)) (ys : List B) where
  made-from : (n i : ℕ) (p : F) → p ≡ f → IsFromFnResultFrom g p ys i n → (k : ℕ) → i ≤ k → k < i + n → (d : B) → get_or ys k d ≡ h k
  made-from zero i p e m k low high d = absurd (let z : ⊥ = omega arith in z)
  made-from (suc n) i p e (q, y, at, call, rest) k low high d =
      let s = step i y q (subst (λ (x : F). Called g x (i, tt) y q) e call) in
      at-or-behind i n k low high
      (λ (j : i ≡ k). subst (λ (x : ℕ). get_or ys x d ≡ h x) j (at.1 d ∙ s.1))
      (λ (l : i + 1 ≤ k) (m : k < i + 1 + n). made-from n (i + 1) q s.0 rest k l m d)

  pub made_of : (n : ℕ) → IsFromFnResult g f ys n → (d : B) → ys ≡ map h (range_with_len 0 n)
  made_of n m d = fill_by_all h ys n d m.long (λ (k : ℕ) (l : k < n). made-from n 0 f refl m.each k (omega arith) (omega arith) d)

module _ {F A B : Type 0} (g : Mut F (A × Unit {0}) B) (h : A → B) {f : F} (step : (x : A) (y : B) (q : F) → Called g f (x, tt) y q → (q ≡ f) × (y ≡ h x)) (xs : List A) (ys : List B) where
  mapped-from : (n i : ℕ) (p : F) → p ≡ f → MapsFrom g p xs ys i n → (k : ℕ) → i ≤ k → k < i + n → (c : A) (d : B) → get_or ys k d ≡ h (get_or xs k c)
  mapped-from zero i p e m k low high c d = absurd (let z : ⊥ = omega arith in z)
  mapped-from (suc n) i p e (q, x, y, from, at, call, rest) k low high c d =
      let s = step x y q (subst (λ (z : F). Called g z (x, tt) y q) e call) in
      at-or-behind i n k low high
      (λ (j : i ≡ k). subst (λ (z : ℕ). get_or ys z d ≡ h (get_or xs z c)) j (at.1 d ∙ s.1 ∙ ap h (sym (from.1 c))))
      (λ (l : i + 1 ≤ k) (m : k < i + 1 + n). mapped-from n (i + 1) q s.0 rest k l m c d)

  pub mapped_of : (n : ℕ) → IsMapOf g f xs ys n → (c : A) (d : B) → ys ≡ map (λ (k : ℕ). h (get_or xs k c)) (range_with_len 0 n)
  mapped_of n m c d = fill_by_all (λ (k : ℕ). h (get_or xs k c)) ys n d m.long (λ (k : ℕ) (l : k < n). mapped-from n 0 f refl m.each k (omega arith) (omega arith) c d)
