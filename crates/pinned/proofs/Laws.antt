-- What a contract's clauses say as facts: a law for each count of clauses, which infers from the contract what each clause says.
use mathlib.Core.Path.{◌≡◌, sym, ◌∙◌}
use seplogic.Ra.Ura.{Ura}
use base.Logic.{SProp, ent, sep, id⊢, fst∗, snd∗, via}
use contract.Monad.{conj, conj_l, conj_r, fact, fact_i, fact_use, fact_mono}

-- two that are the same third are the same
pub same : {A : Type 0} {x y v : A} → x ≡ v → y ≡ v → x ≡ y
same p q = p ∙ sym q

module _ {M : Type 1} (𝓤 : Ura M) where
  -- a fact beside what shows another is both
  beside : (P Q : Type 0) (S : SProp 𝓤) → ent 𝓤 S (fact 𝓤 Q) → ent 𝓤 (sep 𝓤 (fact 𝓤 P) S) (fact 𝓤 (P × Q))
  beside P Q S h =
      fact_use 𝓤 P (fst∗ 𝓤 (fact 𝓤 P) S) (λ p. fact_use 𝓤 Q (via 𝓤 S (snd∗ 𝓤 (fact 𝓤 P) S) h) (λ q. fact_i 𝓤 (P × Q) (sep 𝓤 (fact 𝓤 P) S) (p, q)))

  pair : (P P' : Type 0) → ent 𝓤 (sep 𝓤 (fact 𝓤 P) (fact 𝓤 P')) (fact 𝓤 (P × P'))
  pair P P' = beside P P' (fact 𝓤 P') (id⊢ 𝓤 (fact 𝓤 P'))

  triple : (P P' P'' : Type 0) → ent 𝓤 (sep 𝓤 (fact 𝓤 P) (sep 𝓤 (fact 𝓤 P') (fact 𝓤 P''))) (fact 𝓤 (P × (P' × P'')))
  triple P P' P'' = beside P (P' × P'') (sep 𝓤 (fact 𝓤 P') (fact 𝓤 P'')) (pair P' P'')

  -- ---- what the clauses of two results show

  -- what S and T say together
  both : (S T : SProp 𝓤) (P Q R : Type 0) → ent 𝓤 S (fact 𝓤 P) → ent 𝓤 T (fact 𝓤 Q) → (P → Q → R) → ent 𝓤 (conj 𝓤 S T) (fact 𝓤 R)
  both S T P Q R h k f =
      fact_use 𝓤 P (via 𝓤 S (conj_l 𝓤 S T) h) (λ p. fact_use 𝓤 Q (via 𝓤 T (conj_r 𝓤 S T) k) (λ q. fact_i 𝓤 R (conj 𝓤 S T) (f p q)))

  -- .. where each has one clause, two, or three
  pub one : {P Q R : Type 0} → (P → Q → R) → ent 𝓤 (conj 𝓤 (fact 𝓤 P) (fact 𝓤 Q)) (fact 𝓤 R)
  one {P} {Q} {R} f = both (fact 𝓤 P) (fact 𝓤 Q) P Q R (id⊢ 𝓤 (fact 𝓤 P)) (id⊢ 𝓤 (fact 𝓤 Q)) f

  pub two : {P P' Q Q' R : Type 0} → (P → Q → P' → Q' → R) → ent 𝓤 (conj 𝓤 (sep 𝓤 (fact 𝓤 P) (fact 𝓤 P')) (sep 𝓤 (fact 𝓤 Q) (fact 𝓤 Q'))) (fact 𝓤 R)
  two {P} {P'} {Q} {Q'} {R} f =
      both (sep 𝓤 (fact 𝓤 P) (fact 𝓤 P')) (sep 𝓤 (fact 𝓤 Q) (fact 𝓤 Q')) (P × P') (Q × Q') R (pair P P') (pair Q Q') (λ p q. f p.0 q.0 p.1 q.1)

  pub three : {P P' P'' Q Q' Q'' R : Type 0} → (P → Q → P' → Q' → P'' → Q'' → R)
      → ent 𝓤 (conj 𝓤 (sep 𝓤 (fact 𝓤 P) (sep 𝓤 (fact 𝓤 P') (fact 𝓤 P''))) (sep 𝓤 (fact 𝓤 Q) (sep 𝓤 (fact 𝓤 Q') (fact 𝓤 Q'')))) (fact 𝓤 R)
  three {P} {P'} {P''} {Q} {Q'} {Q''} {R} f =
      both (sep 𝓤 (fact 𝓤 P) (sep 𝓤 (fact 𝓤 P') (fact 𝓤 P''))) (sep 𝓤 (fact 𝓤 Q) (sep 𝓤 (fact 𝓤 Q') (fact 𝓤 Q''))) (P × (P' × P'')) (Q × (Q' × Q'')) R
      (triple P P' P'') (triple Q Q' Q'') (λ p q. f p.0 q.0 p.1.0 q.1.0 p.1.1 q.1.1)

  -- ---- what a contract's clauses show

  pub of_one : {P R : Type 0} → (P → R) → ent 𝓤 (fact 𝓤 P) (fact 𝓤 R)
  of_one {P} {R} f = fact_mono 𝓤 P R f

  pub of_two : {P P' R : Type 0} → (P × P' → R) → ent 𝓤 (sep 𝓤 (fact 𝓤 P) (fact 𝓤 P')) (fact 𝓤 R)
  of_two {P} {P'} {R} f = via 𝓤 (fact 𝓤 (P × P')) (pair P P') (fact_mono 𝓤 (P × P') R f)

  pub of_three : {P P' P'' R : Type 0} → (P × (P' × P'') → R) → ent 𝓤 (sep 𝓤 (fact 𝓤 P) (sep 𝓤 (fact 𝓤 P') (fact 𝓤 P''))) (fact 𝓤 R)
  of_three {P} {P'} {P''} {R} f = via 𝓤 (fact 𝓤 (P × (P' × P''))) (triple P P' P'') (fact_mono 𝓤 (P × (P' × P'')) R f)
