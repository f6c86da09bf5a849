-- A table of cases, and the test that it holds. Definitions only.
use Rattle.std.specs.Prelude.{ℕ, ◌≡◌, Bool, true, false, ◌&&◌, List, [], ◌∷◌, eqb}
use Rattle.refusal.specs.Said.{Said, gives, absent, refuses}

-- a case: what the definitions say, and what the bench measured
pub record Case : Type 0 where
  pub says : Said
  pub measured : Said

-- the same numbers, in order
unfoldable pub same_list : List ℕ → List ℕ → Bool
same_list [] [] = true
same_list [] (b ∷ m) = false
same_list (a ∷ l) [] = false
same_list (a ∷ l) (b ∷ m) = eqb a b && same_list l m

-- the same is said
unfoldable pub same : Said → Said → Bool
same (gives l) (gives m) = same_list l m
same (gives l) absent = false
same (gives l) (refuses k m) = false
same absent (gives m) = false
same absent absent = true
same absent (refuses k m) = false
same (refuses n l) (gives m) = false
same (refuses n l) absent = false
same (refuses n l) (refuses k m) = eqb n k && same_list l m

-- the definitions say what was measured, in every case
unfoldable pub agrees : List Case → Bool
agrees [] = true
agrees (c ∷ cs) = same c.says c.measured && agrees cs

-- .. said case by case
unfoldable pub Agreed : List Case → Type 0
Agreed [] = Unit {0}
Agreed (c ∷ cs) = (c.says ≡ c.measured) × Agreed cs
