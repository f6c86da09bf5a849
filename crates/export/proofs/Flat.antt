-- Records laid one behind another over a row, w numbers each: what is laid behind what was laid is the two laid as one, also where the row ends.
use Prim.Native.Nat.{ℕ, zero, suc, ◌+◌, ◌*◌, ◌≤◌, ◌<◌}
use native.Mathlib.Nat.{mul-zero}
use native.Mathlib.Numerals.{unary_clauses}
use native.Mathlib.Omega.{arith}
use mathlib.Core.Path.{◌≡◌, refl, sym, ap, ◌∙◌}
use mathlib.Core.Bool.{Bool, true, false}
use mathlib.Core.List.{List, [], ◌∷◌, ◌++◌, append_assoc, append-nil, flat_map}
use lib.ListN.{length, get_or, take, length-append, length-take}
use lib.Dec.{leb}
use borrow.Author.Tests.{leb-true, leb-false}
use Rattle.wire.specs.Bytes.{laid}
use Rattle.wire.proofs.Laws.{length-laid, laid-past, laid-behind, laid-cut}

-- a list laid behind the first is the two laid as one, also where the row ends
pub laid_on : (xs : List ℕ) (at : ℕ) (ys zs : List ℕ) → laid (laid xs at ys) (at + length ys) zs ≡ laid xs at (ys ++ zs)
laid_on xs at ys zs = step (leb (at + length ys) (length xs)) refl
  where
    step : (t : Bool) → leb (at + length ys) (length xs) ≡ t → laid (laid xs at ys) (at + length ys) zs ≡ laid xs at (ys ++ zs)
    step true e = laid-behind xs at ys zs (leb-true _ _ e)
    step false e =
        let h : length xs < at + length ys = leb-false _ _ e in
        let l : length (laid xs at ys) ≤ at + length ys = omega (arith, length-laid xs at ys) in
        laid-past (laid xs at ys) (at + length ys) zs l ∙ sym (laid-cut xs at ys zs (omega arith))

module _ {R : Type 0} (f : R → List ℕ) (w : ℕ) (wide : (r : R) → length (f r) ≡ w) where
  flat-length : (s : List R) → length (flat_map f s) ≡ w * length s
  unfolding flat_map
  flat-length [] = sym (mul-zero w)
  flat-length (r ∷ s) = rw (length-append (f r) (flat_map f s), wide r, flat-length s) (simp unary_clauses (omega arith))

  flat-more : (s : List R) (i : ℕ) (d : R) → i < length s → flat_map f (take (i + 1) s) ≡ flat_map f (take i s) ++ f (get_or s i d)
  unfolding flat_map
  flat-more [] i d h = absurd (let z : ⊥ = omega arith in z)
  flat-more (r ∷ s) zero d h = append-nil (f r)
  flat-more (r ∷ s) (suc i) d h = simp unary_clauses (rw (append_assoc (f r) (flat_map f (take i s)) (f (get_or s i d))) (ap (◌++◌ (f r)) (simp unary_clauses at (flat-more s i d (omega arith)))))

  -- one record more
  pub flat_next : (xs out ys zs : List ℕ) (at p : ℕ) (s : List R) (i : ℕ) (d : R) → i < length s → p ≡ at + w * i
      → out ≡ laid xs at (flat_map f (take i s)) → zs ≡ f (get_or s i d) → ys ≡ laid out p zs → ys ≡ laid xs at (flat_map f (take (i + 1) s))
  flat_next xs out ys zs at p s i d h q o z e =
      let k : length (take i s) ≡ i = rw length-take (omega arith) in
      let l : p ≡ at + length (flat_map f (take i s)) = rw (q, flat-length (take i s), k) in
      e ∙ rw (o, z, l, laid_on xs at (flat_map f (take i s)) (f (get_or s i d)), flat-more s i d h)
