-- What assigning comes to: the port that it takes was active and unlinked and is not the entry port, it has the link afterwards, and nothing else of the record
-- changes. The assigning rule is opened in the laws of its name, assignable-from and the rest, and nowhere else.
use Rattle.std.proofs.Common.{◌≡◌, ℕ, ◌<◌, ◌≤◌, Bool, true, false, ◌&&◌, eqb, ltb, ◌≢◌, List, [], ◌∷◌, length, sym, refl, ap, ◌∙◌, subst, true≢false, arith, get_or-set_other, get_or-set_same, ltb-false, ltb-true, lt-ltb, eqb-true}
use lib.ListN.{get_or-eq_default}
use borrow.Author.Tests.{eqb-false}
use Rattle.refusal.specs.Said.{Said, pick, gives, absent, refuses}
use Rattle.ports.specs.declared.Port.{Port}
use Rattle.ports.specs.declared.Ports.{Ports}
use Rattle.ports.specs.Ports.{nowhere, number_at, place_of, no_port, port_at, active_at, unlinked_at, first_that, entry, linked, link_set}
use Rattle.ports.specs.Assigning.{others_from, open_at, assignable, assigned_said, linked_as, assigned_ports}
use Rattle.ports.specs.Answers.{port_said}
use Rattle.ports.specs.Meaning.{Took}
use Rattle.ports.proofs.Laws.{at_each, All, number_low, place-number}
use Rattle.ports.proofs.Alike.{Alike}

-- ---- the rule

-- the first of a list that passes a test is one of the list, or nowhere
first-is : (P : ℕ → Type 0) (g : ℕ → Bool) (ks : List ℕ) → P nowhere → All P ks → P (first_that g ks)
unfolding first_that
first-is P g [] n a = n
first-is P g (k ∷ ks) n a = go (g k) (first-is P g ks n a.1)
  where
    go : (b : Bool) → P (first_that g ks) → P (pick b k (first_that g ks))
    go true next = a.0
    go false next = next

-- .. and it passes the test
first_passes : (g : ℕ → Bool) (ks : List ℕ) → first_that g ks < nowhere → g (first_that g ks) ≡ true
unfolding first_that
first_passes g [] h = absurd (let z : ⊥ = omega arith in z)
first_passes g (k ∷ ks) h = go (g k) refl h (first_passes g ks)
  where
    go : (b : Bool) → g k ≡ b → pick b k (first_that g ks) < nowhere → (first_that g ks < nowhere → g (first_that g ks) ≡ true) → g (pick b k (first_that g ks)) ≡ true
    go true e i next = e
    go false e i next = next i

-- where there is none, all fail it
first-none : (g : ℕ → Bool) (ks : List ℕ) → All (λ (k : ℕ). k < nowhere) ks → nowhere ≤ first_that g ks → All (λ (k : ℕ). g k ≡ false) ks
unfolding first_that
first-none g [] a h = tt
first-none g (k ∷ ks) a h = go (g k) refl h (first-none g ks a.1)
  where
    go : (b : Bool) → g k ≡ b → nowhere ≤ pick b k (first_that g ks) → (nowhere ≤ first_that g ks → All (λ (k : ℕ). g k ≡ false) ks)
        → (g k ≡ false) × All (λ (k : ℕ). g k ≡ false) ks
    go true e i next = absurd (let l : k < nowhere = a.0 in let z : ⊥ = omega arith in z)
    go false e i next = (e, next i)

-- both of two tests hold
both : (x y : Bool) → x && y ≡ true → (x ≡ true) × (y ≡ true)
both true y e = (refl, e)
both false y e = absurd (true≢false (sym e))

module _ (e : ℕ) (low : e < nowhere) where
  others-low : All (λ (k : ℕ). k < nowhere) (others_from e)
  others-low = (omega arith, (omega arith, (omega arith, tt)))

  others-not : All (λ (k : ℕ). k ≢ e) (others_from e)
  others-not = (λ q. omega arith, (λ q. omega arith, (λ q. omega arith, tt)))

-- what holds of each of them holds of every place but e
others_all : (P : ℕ → Type 0) (e : ℕ) → e < nowhere → All P (others_from e) → (k : ℕ) → k < nowhere → k ≢ e → P k
others_all P =
    at_each (λ (e : ℕ). All P (others_from e) → (k : ℕ) → k < nowhere → k ≢ e → P k)
    (λ (a : All P (others_from 0)). at_each (λ (k : ℕ). k ≢ 0 → P k) (λ n. absurd (n refl)) (λ n. a.0) (λ n. a.1.0) (λ n. a.1.1.0))
    (λ (a : All P (others_from 1)). at_each (λ (k : ℕ). k ≢ 1 → P k) (λ n. a.1.1.0) (λ n. absurd (n refl)) (λ n. a.0) (λ n. a.1.0))
    (λ (a : All P (others_from 2)). at_each (λ (k : ℕ). k ≢ 2 → P k) (λ n. a.1.0) (λ n. a.1.1.0) (λ n. absurd (n refl)) (λ n. a.0))
    (λ (a : All P (others_from 3)). at_each (λ (k : ℕ). k ≢ 3 → P k) (λ n. a.0) (λ n. a.1.0) (λ n. a.1.1.0) (λ n. absurd (n refl)))

module _ (p : Ports) where
  -- the rule, where the entry's place is known
  pub assignable_from : (e : ℕ) → e ≡ entry p → first_that (open_at p) (others_from e) ≡ assignable p
  unfolding assignable
  assignable_from e q = rw q

  -- the port that the rule takes is active and unlinked
  pub assignable_open : assignable p < nowhere → (active_at p (assignable p) ≡ true) × (unlinked_at p (assignable p) ≡ true)
  unfolding assignable
  assignable_open h = both _ _ (first_passes (open_at p) (others_from (entry p)) h)

  module _ (some : entry p < nowhere) where
    -- .. and never the entry port
    pub assignable-other : assignable p ≢ entry p
    unfolding assignable
    assignable-other = first-is (λ (k : ℕ). k ≢ entry p) (open_at p) (others_from (entry p)) (λ (q : nowhere ≡ entry p). let z : ⊥ = omega arith in z) (others-not (entry p) some)

    -- where it takes none, every active port but the entry port is linked
    pub assignable-none : nowhere ≤ assignable p → (k : ℕ) → k < nowhere → k ≢ entry p → open_at p k ≡ false
    unfolding assignable
    assignable-none h = others_all (λ (k : ℕ). open_at p k ≡ false) (entry p) some (first-none (open_at p) (others_from (entry p)) (others-low (entry p) some) h)

-- ---- a link

-- an active port is one of the record's
active-inside : (p : Ports) (k : ℕ) → active_at p k ≡ true → k < length p.0
active-inside p k a = go (ltb k (length p.0)) refl
  where
    go : (b : Bool) → ltb k (length p.0) ≡ b → k < length p.0
    go true e = ltb-true k (length p.0) e
    go false e = absurd (true≢false (sym a ∙ ap (λ (q : Port). q.active) (get_or-eq_default p.0 no_port (ltb-false k (length p.0) e))))

module _ (p : Ports) (k d : ℕ) where
  link-others : (j : ℕ) → j ≢ k → port_at (link_set p k d) j ≡ port_at p j
  unfolding link_set
  link-others j n = get_or-set_other p.0 k j (linked (port_at p k) d) no_port n

  module _ (a : active_at p k ≡ true) where
    link_here : port_at (link_set p k d) k ≡ linked (port_at p k) d
    unfolding link_set
    link_here = get_or-set_same p.0 k (linked (port_at p k) d) no_port (active-inside p k a)

    -- what a port keeps when it is linked, every place keeps
    link-kept : {A : Type 0} (f : Port → A) → f (linked (port_at p k) d) ≡ f (port_at p k) → (j : ℕ) → f (port_at (link_set p k d) j) ≡ f (port_at p j)
    link-kept {A} f kept j = go (eqb j k) refl
      where
        go : (b : Bool) → eqb j k ≡ b → f (port_at (link_set p k d) j) ≡ f (port_at p j)
        go true e = let q : j ≡ k = eqb-true j k e in rw q (ap f link_here ∙ kept)
        go false e = ap f (link-others j (eqb-false j k e))

    -- a link leaves which ports are active, and their times
    pub link_alike : Alike p (link_set p k d)
    link_alike = record { actives = link-kept (λ (x : Port). x.active) refl; times = link-kept (λ (x : Port). x.dc_receive_time) refl }

-- ---- assigning

-- an answer, and the record after it, are those of assigning device d
abbrev pub Assigns : Ports → ℕ → Said → Ports → Type 0
Assigns p d s q = (s ≡ assigned_said p d) × (q ≡ assigned_ports p d)

module _ (p : Ports) (d : ℕ) where
  -- what is said, and the record that follows from it
  assigns : (s : Said) → s ≡ assigned_said p d → Assigns p d s (linked_as p d s)
  unfolding assigned_ports
  assigns s e = (e, ap (linked_as p d) e)

  -- the port at a place is said
  pub assigns_port : (k : ℕ) → k < nowhere → assigned_said p d ≡ port_said k absent → Assigns p d (gives (number_at k ∷ [])) (link_set p k d)
  assigns_port k low e = rw (place-number k low) at (assigns (gives (number_at k ∷ [])) (sym (rw (lt-ltb k nowhere low) at e)))

  -- what is said, by the three tests
  abbrev chosen : Bool → Bool → Bool → Said
  chosen x y z = pick x (refuses 14 []) (pick y (pick z (gives (number_at (assignable p) ∷ [])) absent) (refuses 9 []))

  -- an answer other than a port leaves the record
  pub assigned_stays : ((n : ℕ) → assigned_said p d ≡ gives (n ∷ []) → ⊥) → assigned_ports p d ≡ p
  unfolding assigned_said assigned_ports
  assigned_stays = go (eqb d 0) (ltb (entry p) nowhere) (ltb (assignable p) nowhere)
    where
      go : (x y z : Bool) → ((n : ℕ) → chosen x y z ≡ gives (n ∷ []) → ⊥) → linked_as p d (chosen x y z) ≡ p
      go true y z other = refl
      go false false z other = refl
      go false true true other = absurd (other (number_at (assignable p)) refl)
      go false true false other = refl

  took : entry p < nowhere → assignable p < nowhere → Took p d (number_at (assignable p)) (link_set p (assignable p) d)
  took some low =
      let k = assignable p in
      let there : place_of (number_at k) ≡ k = place-number k low in
      let open' = assignable_open p low in
      record {
        port = number_low k low;
        was_active = rw there open'.0;
        was_free = rw there open'.1;
        not_entry = rw there (assignable-other p some);
        here = rw there (link_here p k d open'.0);
        others = λ (j : ℕ) (n : j ≢ place_of (number_at k)). link-others p k d j (rw there at n);
      }

  -- a port that is said was taken
  pub assigned_took : (n : ℕ) → assigned_said p d ≡ gives (n ∷ []) → Took p d n (assigned_ports p d)
  unfolding assigned_said assigned_ports
  assigned_took n = go (eqb d 0) (ltb (entry p) nowhere) (ltb (assignable p) nowhere) refl refl
    where
      go : (x y z : Bool) → ltb (entry p) nowhere ≡ y → ltb (assignable p) nowhere ≡ z → chosen x y z ≡ gives (n ∷ []) → Took p d n (linked_as p d (chosen x y z))
      go true y z f q e = absurd (let w : ◌≡◌ {A = ℕ} 0 1 = cc in let r : ⊥ = omega arith in r)
      go false false z f q e = absurd (let w : ◌≡◌ {A = ℕ} 0 1 = cc in let r : ⊥ = omega arith in r)
      go false true false f q e = absurd (let w : ◌≡◌ {A = ℕ} 0 1 = cc in let r : ⊥ = omega arith in r)
      go false true true f q e =
          let low : assignable p < nowhere = ltb-true (assignable p) nowhere q in
          let m : number_at (assignable p) ≡ n = cc in
          rw (place-number (assignable p) low)
          (subst (λ (i : ℕ). Took p d i (link_set p (assignable p) d)) m (took (ltb-true (entry p) nowhere f) low))

  -- ---- whatever is answered

  -- what holds of the record, and of it with the link that the rule makes, holds after assigning
  assigned-either : (P : Ports → Type 0) → P p → (entry p < nowhere → assignable p < nowhere → P (link_set p (assignable p) d)) → P (assigned_ports p d)
  unfolding assigned_said assigned_ports
  assigned-either P stays links = go (eqb d 0) (ltb (entry p) nowhere) (ltb (assignable p) nowhere) refl refl
    where
      go : (x y z : Bool) → ltb (entry p) nowhere ≡ y → ltb (assignable p) nowhere ≡ z → P (linked_as p d (chosen x y z))
      go true y z f q = stays
      go false false z f q = stays
      go false true false f q = stays
      go false true true f q =
          let low : assignable p < nowhere = ltb-true (assignable p) nowhere q in
          rw (place-number (assignable p) low) (links (ltb-true (entry p) nowhere f) low)

  -- the entry port stays as it was, so it is never linked
  pub entry_stays : port_at (assigned_ports p d) (entry p) ≡ port_at p (entry p)
  entry_stays =
      assigned-either (λ (q : Ports). port_at q (entry p) ≡ port_at p (entry p)) refl
      (λ (some : entry p < nowhere) (low : assignable p < nowhere). link-others p (assignable p) d (entry p) (λ (e : entry p ≡ assignable p). assignable-other p some (sym e)))

  -- a port that is linked stays as it was, so it stays linked to the same device
  pub linked_stays : (k : ℕ) → unlinked_at p k ≡ false → port_at (assigned_ports p d) k ≡ port_at p k
  linked_stays k was =
      assigned-either (λ (q : Ports). port_at q k ≡ port_at p k) refl
      (λ (some : entry p < nowhere) (low : assignable p < nowhere).
      link-others p (assignable p) d k (λ (e : k ≡ assignable p). true≢false (sym (assignable_open p low).1 ∙ ap (unlinked_at p) (sym e) ∙ was)))

  -- which ports are active stays, and their times; so does all that rests on these alone (Alike): entry, topology and delays
  pub assigned_alike : Alike p (assigned_ports p d)
  assigned_alike =
      assigned-either (Alike p) (record { actives = λ (k : ℕ). refl; times = λ (k : ℕ). refl })
      (λ (some : entry p < nowhere) (low : assignable p < nowhere). link_alike p (assignable p) d (assignable_open p low).0)
