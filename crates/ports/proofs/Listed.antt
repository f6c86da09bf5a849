-- The code goes through the array of ports, the rules go through the places: of four ports these are the same.
-- What the array's methods find, a place that may be absent, is said by the place of no port where there is none.
use Rattle.std.proofs.Common.{◌≡◌, ℕ, ◌<◌, max, Bool, true, false, ◌&&◌, cond, List, [], ◌∷◌, map, length, Option, Some, None, unwrap_or, MatchOption, sym, refl, ap, ◌∙◌, arith}
use Rattle.std.proofs.lemmas.List.{length-map}
use Rattle.std.proofs.lemmas.List.FromFn.{fill_by_all}
use Rattle.std.proofs.lemmas.List.Sums.{length-filter}
use Rattle.std.specs.List.{filter, find, fold, reduce, count_by}
use Rattle.refusal.specs.Said.{pick}
use Rattle.ports.specs.declared.Port.{Port}
use Rattle.ports.specs.declared.Ports.{Ports}
use Rattle.ports.specs.Ports.{port_count, nowhere, places, no_port, port_at, active_at, time_at, those, first_that, folded, last_of, active_ports}
use Rattle.ports.specs.Delays.{largest}
use Rattle.ports.proofs.Laws.{at_each, last_steps, first-those}

-- ---- the array, by its places

pub filter-map : {B : Type 0} (test : B → Bool) (at : ℕ → B) (ks : List ℕ) → filter test (map at ks) ≡ map at (those (λ (k : ℕ). test (at k)) ks)
unfolding those
filter-map test at [] = refl
filter-map {B} test at (k ∷ ks) = go (test (at k)) (filter-map test at ks)
  where
    go : (b : Bool) → filter test (map at ks) ≡ map at (those (λ (k : ℕ). test (at k)) ks)
        → cond b (at k ∷ filter test (map at ks)) (filter test (map at ks)) ≡ map at (pick b (k ∷ those (λ (k : ℕ). test (at k)) ks) (those (λ (k : ℕ). test (at k)) ks))
    go true e = ap (λ (l : List B). at k ∷ l) e
    go false e = e

folded-fold : (f : ℕ → ℕ → ℕ) (x : ℕ) (ks : List ℕ) → fold f x ks ≡ folded f x ks
unfolding folded
folded-fold f x [] = refl
folded-fold f x (k ∷ ks) = folded-fold f (f x k) ks

largest-reduce : (ts : List ℕ) → unwrap_or (reduce max ts) 0 ≡ largest ts
unfolding largest folded
largest-reduce [] = refl
largest-reduce (t ∷ ts) = folded-fold max t ts ∙ ap (λ (x : ℕ). folded max x ts) (let z : t ≡ max 0 t = omega arith in z)

map-map : (f : Port → ℕ) (at : ℕ → Port) (ks : List ℕ) → map f (map at ks) ≡ map (λ (k : ℕ). f (at k)) ks
map-map f at [] = refl
map-map f at (k ∷ ks) = ap (λ (l : List ℕ). f (at k) ∷ l) (map-map f at ks)

module _ (p : Ports) (h : length p.0 ≡ port_count) where
  pub listed : p.0 ≡ map (port_at p) places
  listed = fill_by_all (port_at p) p.0 port_count no_port h (λ (k : ℕ) (l : k < port_count). refl)

  active-listed : filter (λ (q : Port). q.active) p.0 ≡ map (port_at p) (active_ports p)
  unfolding active_ports
  active-listed = ap (filter (λ (q : Port). q.active)) listed ∙ filter-map (λ (q : Port). q.active) (port_at p) places

  pub count_listed : count_by (λ (q : Port). q.active) p.0 ≡ length (active_ports p)
  count_listed = sym (length-filter (λ (q : Port). q.active) p.0) ∙ rw (active-listed, length-map)

  pub largest_listed : unwrap_or (reduce max (map (λ (q : Port). q.dc_receive_time) (filter (λ (q : Port). q.active) p.0))) 0 ≡ largest (map (time_at p) (active_ports p))
  largest_listed = rw (active-listed, map-map) (largest-reduce (map (time_at p) (active_ports p)))

-- ---- a place that was found

-- the last active one
pub last_found : (p : Ports) (r : Option ℕ)
    → MatchOption r ((k : ℕ) → k < nowhere → active_at p k ≡ false) (λ (i : ℕ). (i < nowhere) × (active_at p i ≡ true) × ((k : ℕ) → i < k → k < nowhere → active_at p k ≡ false))
    → unwrap_or r nowhere ≡ last_of (active_ports p)
last_found p None h = rw (← last_steps p, h 3 (omega arith), h 2 (omega arith), h 1 (omega arith), h 0 (omega arith))
last_found p (Some i) h =
    at_each (λ (i : ℕ). (active_at p i ≡ true) → ((k : ℕ) → i < k → k < nowhere → active_at p k ≡ false) → i ≡ last_of (active_ports p))
    (λ a n. rw (← last_steps p, n 3 (omega arith) (omega arith), n 2 (omega arith) (omega arith), n 1 (omega arith) (omega arith), a))
    (λ a n. rw (← last_steps p, n 3 (omega arith) (omega arith), n 2 (omega arith) (omega arith), a))
    (λ a n. rw (← last_steps p, n 3 (omega arith) (omega arith), a))
    (λ a n. rw (← last_steps p, a)) i h.0 h.1 h.2

-- the first that passes a test
pub first_found : (g : ℕ → Bool) (r : Option ℕ)
    → MatchOption r ((k : ℕ) → k < nowhere → g k ≡ false) (λ (i : ℕ). (i < nowhere) × (g i ≡ true) × ((k : ℕ) → k < i → g k ≡ false))
    → unwrap_or r nowhere ≡ first_that g places
unfolding first_that
first_found g None h = rw (h 0 (omega arith), h 1 (omega arith), h 2 (omega arith), h 3 (omega arith))
first_found g (Some i) h =
    at_each (λ (i : ℕ). (g i ≡ true) → ((k : ℕ) → k < i → g k ≡ false) → i ≡ first_that g places)
    (λ a n. rw a)
    (λ a n. rw (n 0 (omega arith), a))
    (λ a n. rw (n 0 (omega arith), n 1 (omega arith), a))
    (λ a n. rw (n 0 (omega arith), n 1 (omega arith), n 2 (omega arith), a)) i h.0 h.1 h.2

-- .. of the active ones
pub first_active_found : (p : Ports) (g : ℕ → Bool) (r : Option ℕ)
    → MatchOption r ((k : ℕ) → k < nowhere → active_at p k && g k ≡ false) (λ (i : ℕ). (i < nowhere) × (active_at p i && g i ≡ true) × ((k : ℕ) → k < i → active_at p k && g k ≡ false))
    → unwrap_or r nowhere ≡ first_that g (active_ports p)
unfolding active_ports
first_active_found p g r h = first_found (λ (k : ℕ). active_at p k && g k) r h ∙ sym (first-those (active_at p) g places)

-- .. of any list
pub find_first : (g : ℕ → Bool) (ks : List ℕ) → unwrap_or (find g ks) nowhere ≡ first_that g ks
unfolding first_that
find_first g [] = refl
find_first g (k ∷ ks) = go (g k) (find_first g ks)
  where
    go : (b : Bool) → unwrap_or (find g ks) nowhere ≡ first_that g ks → unwrap_or (cond b (Some k) (find g ks)) nowhere ≡ pick b k (first_that g ks)
    go true e = refl
    go false e = e
