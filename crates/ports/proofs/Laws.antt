-- Laws of the ports' definitions. Going through a list of those places that pass a test is going through all places, with the test at each.
use Rattle.std.proofs.Common.{◌≡◌, ℕ, zero, suc, ◌+◌, ◌-◌, ◌<◌, ◌≤◌, min, max, Bool, true, false, ◌&&◌, ltb, List, [], ◌∷◌, map, length, sym, refl, ap, ◌∙◌, add-zero, zero-add, arith, ltb-false, ltb-true, lt-ltb, leb-true}
use mathlib.Core.Bool.{and-true, and-false}
use Rattle.refusal.specs.Said.{pick}
use Rattle.ports.specs.declared.Ports.{Ports}
use Rattle.ports.specs.Ports.{number_at, place_of, places, port_count, nowhere, active_at, time_at, those, first_that, folded, taking, last_of, sooner, earliest, active_ports, entry, only}
use Rattle.ports.specs.Delays.{largest, smallest, breadth, total, between, active_between, time_to}

-- ---- a port

-- what holds at each of the four places
pub at_each : (P : ℕ → Type 0) → P 0 → P 1 → P 2 → P 3 → (k : ℕ) → k < nowhere → P k
at_each P a b c d zero h = a
at_each P a b c d (suc zero) h = b
at_each P a b c d (suc (suc zero)) h = c
at_each P a b c d (suc (suc (suc zero))) h = d
at_each P a b c d (suc (suc (suc (suc k)))) h = absurd (let z : ⊥ = omega arith in z)

pub place_low : (n : ℕ) → n < port_count → place_of n < nowhere
place_low = at_each (λ (n : ℕ). place_of n < nowhere) (leb-true 1 nowhere refl) (leb-true 3 nowhere refl) (leb-true 4 nowhere refl) (leb-true 2 nowhere refl)

-- the place of the port at a place
pub place-number : (k : ℕ) → k < nowhere → place_of (number_at k) ≡ k
place-number = at_each (λ (k : ℕ). place_of (number_at k) ≡ k) refl refl refl refl

pub number_low : (k : ℕ) → k < nowhere → number_at k < port_count
number_low = at_each (λ (k : ℕ). number_at k < port_count) (leb-true 1 nowhere refl) (leb-true 4 nowhere refl) (leb-true 2 nowhere refl) (leb-true 3 nowhere refl)

-- ---- lists of places

module _ {A : Type 0} (g : ℕ → Bool) (f : A → ℕ → A) where
  pub folded-those : (x : A) (ks : List ℕ) → folded f x (those g ks) ≡ folded (taking g f) x ks
  unfolding folded those
  folded-those x [] = refl
  folded-those x (k ∷ ks) = go (g k) (λ (y : A). folded-those y ks)
    where
      go : (b : Bool) → ((y : A) → folded f y (those g ks) ≡ folded (taking g f) y ks)
          → folded f x (pick b (k ∷ those g ks) (those g ks)) ≡ folded (taking g f) (pick b (f x k) x) ks
      go true next = next (f x k)
      go false next = next x

module _ (h g : ℕ → Bool) where
  pub first-those : (ks : List ℕ) → first_that g (those h ks) ≡ first_that (λ (k : ℕ). h k && g k) ks
  unfolding first_that those
  first-those [] = refl
  first-those (k ∷ ks) = go (h k) (first-those ks)
    where
      go : (b : Bool) → first_that g (those h ks) ≡ first_that (λ (k : ℕ). h k && g k) ks
          → first_that g (pick b (k ∷ those h ks) (those h ks)) ≡ pick (b && g k) k (first_that (λ (k : ℕ). h k && g k) ks)
      go true next = ap (pick (g k) k) next
      go false next = next

  those-those : (ks : List ℕ) → those g (those h ks) ≡ those (λ (k : ℕ). g k && h k) ks
  unfolding those
  those-those [] = refl
  those-those (k ∷ ks) = go (h k) (those-those ks)
    where
      go : (b : Bool) → those g (those h ks) ≡ those (λ (k : ℕ). g k && h k) ks
          → those g (pick b (k ∷ those h ks) (those h ks)) ≡ pick (g k && b) (k ∷ those (λ (k : ℕ). g k && h k) ks) (those (λ (k : ℕ). g k && h k) ks)
      go true next = rw (and-true (g k)) (ap (λ (l : List ℕ). pick (g k) (k ∷ l) l) next)
      go false next = rw (and-false (g k)) next

length-those : (g : ℕ → Bool) (k : ℕ) (ks : List ℕ) → length (those g (k ∷ ks)) ≡ pick (g k) 1 0 + length (those g ks)
unfolding those
length-those g k ks = go (g k)
  where
    go : (b : Bool) → length (pick b (k ∷ those g ks) (those g ks)) ≡ pick b 1 0 + length (those g ks)
    go true = omega arith
    go false = sym (zero-add _)

length_none : (g : ℕ → Bool) → length (those g []) ≡ 0
unfolding those
length_none g = refl

-- two times that agree on a list
abbrev Agree : (ℕ → ℕ) → (ℕ → ℕ) → List ℕ → Type 0
Agree t u [] = Unit {0}
Agree t u (k ∷ ks) = (t k ≡ u k) × Agree t u ks

map-those : (t u : ℕ → ℕ) (g : ℕ → Bool) (ks : List ℕ) → Agree t u ks → map t (those g ks) ≡ map u (those g ks)
unfolding those
map-those t u g [] a = refl
map-those t u g (k ∷ ks) a = go (g k) (map-those t u g ks a.1)
  where
    go : (b : Bool) → map t (those g ks) ≡ map u (those g ks) → map t (pick b (k ∷ those g ks) (those g ks)) ≡ map u (pick b (k ∷ those g ks) (those g ks))
    go true next = rw (a.0, next)
    go false next = next

-- .. of the active ports, if they agree at the four places
pub map-active : (p : Ports) (t u : ℕ → ℕ) → t 0 ≡ u 0 → t 1 ≡ u 1 → t 2 ≡ u 2 → t 3 ≡ u 3 → map t (active_ports p) ≡ map u (active_ports p)
unfolding active_ports
map-active p t u a b c d = map-those t u (active_at p) places (a, (b, (c, (d, tt))))

-- ---- the active ports of a device, over its four places

module _ (p : Ports) where
  pub entry_steps : folded (taking (active_at p) (sooner (time_at p))) nowhere places ≡ entry p
  unfolding entry earliest active_ports
  entry_steps = sym (folded-those (active_at p) (sooner (time_at p)) nowhere places)

  pub last_steps : pick (active_at p 3) 3 (pick (active_at p 2) 2 (pick (active_at p 1) 1 (pick (active_at p 0) 0 nowhere))) ≡ last_of (active_ports p)
  unfolding last_of active_ports folded
  last_steps = sym (folded-those (active_at p) (λ (x k : ℕ). k) nowhere places)

  pub count_steps : pick (active_at p 0) 1 0 + (pick (active_at p 1) 1 0 + (pick (active_at p 2) 1 0 + pick (active_at p 3) 1 0)) ≡ length (active_ports p)
  unfolding active_ports
  count_steps = rw (length-those (active_at p) 0, length-those (active_at p) 1, length-those (active_at p) 2, length-those (active_at p) 3, length_none (active_at p), add-zero)

  same-times : (g h : ℕ → Bool) → map (time_at (only g p)) (those h places) ≡ map (time_at p) (those h places)
  unfolding only
  same-times g h = map-those (time_at (only g p)) (time_at p) h places (refl, (refl, (refl, (refl, tt))))

  -- the ports from place e to place k are the active ones of the record in which only these are active
  only-between : (e k : ℕ) → active_ports (only (between e k) p) ≡ active_between p e k
  unfolding active_between active_ports only those
  only-between e k = sym (those-those (active_at p) (between e k) places)

  between-times : (e k : ℕ) → map (time_at (only (between e k) p)) (active_between p e k) ≡ map (time_at p) (active_between p e k)
  unfolding active_between active_ports
  between-times e k = rw (those-those (active_at p) (between e k) places) (same-times (between e k) (λ (j : ℕ). between e k j && active_at p j))

  pub only-total : (e k : ℕ) → e ≡ entry p → total (only (between e k) p) ≡ time_to p k
  unfolding total time_to
  only-total e k q = rw (← q, only-between e k) (ap breadth (between-times e k))

-- ---- the first with the smallest time

-- what holds of every one of a list
abbrev pub All : (ℕ → Type 0) → List ℕ → Type 0
All P [] = Unit {0}
All P (k ∷ ks) = P k × All P ks

-- what holds of every one that passes a test holds of those that pass it
all_those : (P : ℕ → Type 0) (g : ℕ → Bool) (ks : List ℕ) → All (λ (k : ℕ). g k ≡ true → P k) ks → All P (those g ks)
unfolding those
all_those P g [] a = tt
all_those P g (k ∷ ks) a = go (g k) refl (all_those P g ks a.1)
  where
    go : (b : Bool) → g k ≡ b → All P (those g ks) → All P (pick b (k ∷ those g ks) (those g ks))
    go true e next = (a.0 e, next)
    go false e next = next

-- .. of the four places
pub all_active : (P : ℕ → Type 0) (p : Ports) → ((k : ℕ) → k < nowhere → active_at p k ≡ true → P k) → All P (active_ports p)
unfolding active_ports
all_active P p h = all_those P (active_at p) places (h 0 (omega arith), (h 1 (omega arith), (h 2 (omega arith), (h 3 (omega arith), tt))))

abbrev pub Low : List ℕ → Type 0
Low = All (λ (k : ℕ). k < nowhere)

pub low_active : (p : Ports) → Low (active_ports p)
low_active p = all_active (λ (k : ℕ). k < nowhere) p (λ (k : ℕ) (h : k < nowhere) (a : active_at p k ≡ true). h)

module _ (t : ℕ → ℕ) where
  abbrev Least : ℕ → List ℕ → ℕ → Type 0
  Least b ks r = (r < nowhere) × (t r ≡ folded min (t b) (map t ks))

  least-run : (b : ℕ) (ks : List ℕ) → b < nowhere → Low ks → Least b ks (folded (sooner t) b ks)
  unfolding folded
  least-run b [] h a = (h, refl)
  least-run b (k ∷ ks) h a = rw (lt-ltb b nowhere h) (go (ltb (t k) (t b)) refl (least-run k ks a.0 a.1) (least-run b ks h a.1))
    where
      go : (x : Bool) → ltb (t k) (t b) ≡ x → Least k ks (folded (sooner t) k ks) → Least b ks (folded (sooner t) b ks)
          → Least b (k ∷ ks) (folded (sooner t) (pick x k b) ks)
      go true e m n =
          let h : t k < t b = ltb-true (t k) (t b) e in
          let q : min (t b) (t k) ≡ t k = omega arith in
          (m.0, m.1 ∙ ap (λ (x : ℕ). folded min x (map t ks)) (sym q))
      go false e m n =
          let h : t b ≤ t k = ltb-false (t k) (t b) e in
          let q : min (t b) (t k) ≡ t b = omega arith in
          (n.0, n.1 ∙ ap (λ (x : ℕ). folded min x (map t ks)) (sym q))

  earliest-least : (ks : List ℕ) → Low ks → earliest t ks < nowhere → t (earliest t ks) ≡ smallest (map t ks)
  unfolding earliest smallest folded
  earliest-least [] a h = absurd (let z : ⊥ = omega arith in z)
  earliest-least (k ∷ ks) a h = (least-run k ks a.0 a.1).1

  earliest-none : (ks : List ℕ) → Low ks → nowhere ≤ earliest t ks → ks ≡ []
  unfolding earliest folded
  earliest-none [] a h = refl
  earliest-none (k ∷ ks) a h = absurd (let z : ⊥ = omega (arith, (least-run k ks a.0 a.1).0) in z)

module _ (p : Ports) (e : ℕ) (q : e ≡ entry p) where
  pub total-is : e < nowhere → largest (map (time_at p) (active_ports p)) - time_at p e ≡ total p
  unfolding total breadth entry
  total-is h = rw (q, earliest-least (time_at p) (active_ports p) (low_active p) (let z : entry p < nowhere = omega arith in z))

  pub total-none : nowhere ≤ e → 0 ≡ total p
  unfolding total breadth entry largest smallest folded
  total-none h = rw (earliest-none (time_at p) (active_ports p) (low_active p) (let z : nowhere ≤ entry p = omega arith in z))

pub ruleset totals = (total-is, total-none, only-total)

-- the total is at most the largest time of an active port
pub total-most : (p : Ports) (most : ℕ) → ((k : ℕ) → k < nowhere → active_at p k ≡ true → time_at p k ≤ most) → total p ≤ most
unfolding total breadth largest folded
total-most p most h = omega (arith, run 0 (active_ports p) (omega arith) (all_active (λ (k : ℕ). time_at p k ≤ most) p h))
  where
    run : (x : ℕ) (ks : List ℕ) → x ≤ most → All (λ (k : ℕ). time_at p k ≤ most) ks → folded max x (map (time_at p) ks) ≤ most
    run x [] b a = b
    run x (k ∷ ks) b a = let q : time_at p k ≤ most = a.0 in run (max x (time_at p k)) ks (omega arith) a.1
