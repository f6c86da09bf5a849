-- Which port is the entry: the rule, which goes place by place, finds the port that IsEntry describes, and only that one.
-- Idea: after each place, what was kept is the entry of the places passed.
use Rattle.std.proofs.Common.{◌≡◌, ℕ, suc, ◌<◌, ◌≤◌, Bool, true, false, eqb, ltb, sym, refl, ◌∙◌, true≢false, arith, ltb-false, ltb-true, lt-ltb, eqb-true}
use borrow.Author.Tests.{eqb-false}
use Rattle.refusal.specs.Said.{pick}
use Rattle.ports.specs.declared.Ports.{Ports}
use Rattle.ports.specs.Ports.{nowhere, active_at, time_at, folded, taking, sooner, entry}
use Rattle.ports.specs.Meaning.{IsEntry}
use Rattle.ports.proofs.Laws.{entry_steps}

module _ (p : Ports) where
  -- b is the entry among the places below n
  data Kept : ℕ → ℕ → Type 0 where
    none : {n : ℕ} → ((j : ℕ) → j < n → active_at p j ≡ false) → Kept n nowhere
    one : {n b : ℕ} → b < n → n ≤ nowhere → active_at p b ≡ true → ((j : ℕ) → j < n → active_at p j ≡ true → time_at p b ≤ time_at p j)
        → ((j : ℕ) → j < b → active_at p j ≡ true → time_at p b < time_at p j) → Kept n b

  clash : {A : Type 0} (x : Bool) → x ≡ true → x ≡ false → A
  clash x a b = absurd (true≢false (sym a ∙ b))

  -- what holds below n and at n holds below n + 1
  below : (P : ℕ → Type 0) (n : ℕ) → ((j : ℕ) → j < n → P j) → P n → (j : ℕ) → j < suc n → P j
  below P n h e j i = go (eqb j n) refl
    where
      go : (x : Bool) → eqb j n ≡ x → P j
      go true q = let r : j ≡ n = eqb-true j n q in rw r e
      go false q = h j (let s : j ≡ n → ⊥ = eqb-false j n q in let r : j < n = omega (arith, s) in r)

  kept_next : (n b : ℕ) → n < nowhere → Kept n b → Kept (suc n) (taking (active_at p) (sooner (time_at p)) b n)
  kept_next n b h k = go (active_at p n) refl k
    where
      later : {b : ℕ} (y : Bool) → ltb (time_at p n) (time_at p b) ≡ y → active_at p n ≡ true → Kept n b → b < nowhere → Kept (suc n) (pick y n b)
      later {b} y q e (none f) i = absurd (let r : ⊥ = omega arith in r)
      later {b} true q e (one i m a l s) u =
          let z : time_at p n < time_at p b = ltb-true (time_at p n) (time_at p b) q in
          one {n = suc n} {b = n} (omega arith) (omega arith) e
          (below (λ (j : ℕ). active_at p j ≡ true → time_at p n ≤ time_at p j) n
          (λ (j : ℕ) (v : j < n) (w : active_at p j ≡ true). let y : time_at p b ≤ time_at p j = l j v w in let r : time_at p n ≤ time_at p j = omega arith in r)
          (λ (w : active_at p n ≡ true). let r : time_at p n ≤ time_at p n = omega arith in r))
          (λ (j : ℕ) (v : j < n) (w : active_at p j ≡ true). let y : time_at p b ≤ time_at p j = l j v w in let r : time_at p n < time_at p j = omega arith in r)
      later {b} false q e (one i m a l s) u =
          let z : time_at p b ≤ time_at p n = ltb-false (time_at p n) (time_at p b) q in
          one {n = suc n} {b = b} (omega arith) (omega arith) a (below (λ (j : ℕ). active_at p j ≡ true → time_at p b ≤ time_at p j) n l (λ (w : active_at p n ≡ true). z)) s

      go : {b : ℕ} (x : Bool) → active_at p n ≡ x → Kept n b → Kept (suc n) (pick x (sooner (time_at p) b n) b)
      go false e (none f) = none (below (λ (j : ℕ). active_at p j ≡ false) n f e)
      go {b} false e (one i m a l s) =
          one {n = suc n} {b = b} (omega arith) (omega arith) a
          (below (λ (j : ℕ). active_at p j ≡ true → time_at p b ≤ time_at p j) n l (λ (w : active_at p n ≡ true). clash (active_at p n) w e)) s
      go true e (none f) =
          one {n = suc n} {b = n} (omega arith) (omega arith) e
          (below (λ (j : ℕ). active_at p j ≡ true → time_at p n ≤ time_at p j) n
          (λ (j : ℕ) (v : j < n) (w : active_at p j ≡ true). clash (active_at p j) w (f j v))
          (λ (w : active_at p n ≡ true). let r : time_at p n ≤ time_at p n = omega arith in r))
          (λ (j : ℕ) (v : j < n) (w : active_at p j ≡ true). clash (active_at p j) w (f j v))
      go {b} true e (one i m a l s) =
          let u : b < nowhere = omega arith in
          rw (lt-ltb b nowhere u) (later (ltb (time_at p n) (time_at p b)) refl e (one i m a l s) u)

  kept : Kept nowhere (entry p)
  unfolding folded
  kept =
      rw (← entry_steps p)
      (kept_next 3 _ (omega arith) (kept_next 2 _ (omega arith) (kept_next 1 _ (omega arith) (kept_next 0 nowhere (omega arith)
      (none (λ (j : ℕ) (h : j < 0). absurd (let r : ⊥ = omega arith in r)))))))

  told : {b : ℕ} → Kept nowhere b → b < nowhere → IsEntry p b
  told (none f) h = absurd (let r : ⊥ = omega arith in r)
  told (one i m a l s) h = record { place = h; active = a; least = l; first = s }

  quiet : {b : ℕ} → Kept nowhere b → nowhere ≤ b → (k : ℕ) → k < nowhere → active_at p k ≡ false
  quiet (none f) h = f
  quiet (one i m a l s) h = absurd (let r : ⊥ = omega arith in r)

  -- the rule's place is the entry's
  pub entry-is : entry p < nowhere → IsEntry p (entry p)
  entry-is = told kept

  -- where it finds none, no port is active
  pub entry-none : nowhere ≤ entry p → (k : ℕ) → k < nowhere → active_at p k ≡ false
  entry-none = quiet kept

  -- no other port is an entry
  pub entry-only : (k : ℕ) → IsEntry p k → k ≡ entry p
  entry-only k i = go (ltb (entry p) nowhere) refl
    where
      same : (k e t u : ℕ) → (e < k → t < u) → (k < e → u < t) → t ≤ u → u ≤ t → k ≡ e
      same k e t u near far a b = pickOrder (ltb e k) (ltb k e) refl refl
        where
          pickOrder : (x y : Bool) → ltb e k ≡ x → ltb k e ≡ y → k ≡ e
          pickOrder true y q r = absurd (let v : t < u = near (ltb-true e k q) in let z : ⊥ = omega arith in z)
          pickOrder false true q r = absurd (let v : u < t = far (ltb-true k e r) in let z : ⊥ = omega arith in z)
          pickOrder false false q r = let v : k ≤ e = ltb-false e k q in let w : e ≤ k = ltb-false k e r in let z : k ≡ e = omega arith in z

      go : (x : Bool) → ltb (entry p) nowhere ≡ x → k ≡ entry p
      go true q =
          let e = entry-is (ltb-true (entry p) nowhere q) in
          let near : entry p < k → time_at p k < time_at p (entry p) = (λ (h : entry p < k). i.first (entry p) h e.active) in
          let far : k < entry p → time_at p (entry p) < time_at p k = (λ (h : k < entry p). e.first k h i.active) in
          let least : time_at p k ≤ time_at p (entry p) = i.least (entry p) e.place e.active in
          let least' : time_at p (entry p) ≤ time_at p k = e.least k i.place i.active in
          same k (entry p) (time_at p k) (time_at p (entry p)) near far least least'
      go false q = clash (active_at p k) i.active (entry-none (ltb-false (entry p) nowhere q) k i.place)
