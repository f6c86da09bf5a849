-- What follows a call in a rule: where it gives values, what is made of them; where it is absent or refuses, that.
use Prim.Native.Nat.{ℕ}
use mathlib.Core.Path.{◌≡◌}
use mathlib.Core.List.{List, [], ◌∷◌}
use Rattle.refusal.specs.Said.{Said, gives, absent, refuses, on2, on3}

module _ (s : Said) (k : ℕ → ℕ → Said) where
  pub on2-gives : (a b : ℕ) → gives (a ∷ b ∷ []) ≡ s → k a b ≡ on2 s k
  unfolding on2
  on2-gives a b h = rw (← h)

  pub on2-absent : absent ≡ s → absent ≡ on2 s k
  unfolding on2
  on2-absent h = rw (← h)

  pub on2-refuses : (n : ℕ) (v : List ℕ) → refuses n v ≡ s → refuses n v ≡ on2 s k
  unfolding on2
  on2-refuses n v h = rw (← h)

module _ (s : Said) (k : ℕ → ℕ → ℕ → Said) where
  pub on3-gives : (a b c : ℕ) → gives (a ∷ b ∷ c ∷ []) ≡ s → k a b c ≡ on3 s k
  unfolding on3
  on3-gives a b c h = rw (← h)

  pub on3-refuses : (n : ℕ) (v : List ℕ) → refuses n v ≡ s → refuses n v ≡ on3 s k
  unfolding on3
  on3-refuses n v h = rw (← h)
