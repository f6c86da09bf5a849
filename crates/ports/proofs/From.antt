-- The total from a named entry port. Where no active port is earlier than that port, it is the old total: there the clock has not turned over, and each elapsed
-- time is a time less the smallest.
use Rattle.std.proofs.Common.{◌≡◌, ℕ, ◌+◌, ◌-◌, ◌%◌, ◌<◌, ◌≤◌, max, Bool, true, false, ltb, List, [], ◌∷◌, map, sym, refl, ap, ◌∙◌, true≢false, arith, ltb-false, ltb-true, lt-ltb}
use mathlib.Core.Path.{fun_ext}
use Rattle.ports.specs.declared.Ports.{Ports}
use Rattle.ports.specs.Ports.{port_count, nowhere, place_of, places, active_at, time_at, those, folded, active_ports, entry, times_set}
use Rattle.ports.specs.Delays.{largest, total, total_said, clock_round, elapsed, total_from, total_from_said, counted_from}
use Rattle.ports.proofs.Laws.{place_low, All, all_active, map-active, total-is}
use Rattle.ports.proofs.Entry.{entry-is, entry-none}

-- ---- the code's way

-- the largest time of the record that is counted from a place
pub counted-largest : (p : Ports) (k : ℕ) → largest (map (time_at (counted_from p (time_at p k))) (active_ports (counted_from p (time_at p k)))) ≡ total_from p k
unfolding total_from counted_from times_set active_ports those
counted-largest p k = ap largest (map-active p (time_at (counted_from p (time_at p k))) (λ (j : ℕ). elapsed (time_at p k) (time_at p j)) refl refl refl refl)

pub ruleset counted = (counted-largest)

-- ---- the old total

elapsed_less : (e t : ℕ) → e ≤ t → t < clock_round → elapsed e t ≡ t - e
unfolding elapsed
elapsed_less e t h i = omega arith

module _ (p : Ports) (m : ℕ) where
  -- a time that is not before m
  abbrev After : ℕ → Type 0
  After k = (m ≤ time_at p k) × (time_at p k < clock_round)

  -- the largest of times less m is the largest of the times, less m
  less-run : (x : ℕ) (ks : List ℕ) → All After ks → folded max (x - m) (map (λ (k : ℕ). elapsed m (time_at p k)) ks) ≡ folded max x (map (time_at p) ks) - m
  unfolding folded
  less-run x [] a = refl
  less-run x (k ∷ ks) a =
      let e : max (x - m) (elapsed m (time_at p k)) ≡ max x (time_at p k) - m = rw (elapsed_less m (time_at p k) a.0.0 a.0.1) (both x m (time_at p k)) in
      ap (λ (y : ℕ). folded max y (map (λ (j : ℕ). elapsed m (time_at p j)) ks)) e ∙ less-run (max x (time_at p k)) ks a.1
    where
      both : (x m t : ℕ) → max (x - m) (t - m) ≡ max x t - m
      both x m t = omega arith

module _ (p : Ports) (k : ℕ) (low : k < nowhere) (active : active_at p k ≡ true) (least : (j : ℕ) → j < nowhere → active_at p j ≡ true → After p (time_at p k) j) where
  some : entry p < nowhere
  some = go (ltb (entry p) nowhere) refl
    where
      go : (b : Bool) → ltb (entry p) nowhere ≡ b → entry p < nowhere
      go true e = ltb-true (entry p) nowhere e
      go false e = absurd (true≢false (sym active ∙ entry-none p (ltb-false (entry p) nowhere e) k low))

  -- the entry's time is the named port's
  same-time : time_at p (entry p) ≡ time_at p k
  same-time =
      let i = entry-is p some in
      let a : time_at p (entry p) ≤ time_at p k = i.least k low active in
      let b : time_at p k ≤ time_at p (entry p) = (least (entry p) some i.active).0 in
      let r : time_at p (entry p) ≡ time_at p k = omega arith in r

  pub from_total : total_from p k ≡ total p
  unfolding total_from largest
  from_total =
      let z : 0 - time_at p k ≡ 0 = omega arith in
      ap (λ (x : ℕ). folded max x (map (λ (j : ℕ). elapsed (time_at p k) (time_at p j)) (active_ports p))) (sym z)
      ∙ less-run p (time_at p k) 0 (active_ports p) (all_active (After p (time_at p k)) p least)
      ∙ ap (λ (t : ℕ). folded max 0 (map (time_at p) (active_ports p)) - t) (sym same-time)
      ∙ total-is p (entry p) refl some

-- where no active port has a smaller time than the named one, the new total is the old (times have 32 bits, as every record's have that a call is given)
pub total-agrees : (p : Ports) (n : ℕ) → n < port_count → active_at p (place_of n) ≡ true
    → ((j : ℕ) → j < nowhere → active_at p j ≡ true → (time_at p (place_of n) ≤ time_at p j) × (time_at p j < clock_round))
    → total_from_said p n ≡ total_said p
unfolding total_from_said total_said
total-agrees p n h active least = rw (lt-ltb n port_count h, active, from_total p (place_of n) (place_low n h) active least)

-- ---- what the clock shows

-- a time, on a clock that shows s more
abbrev pub shown : ℕ → ℕ → ℕ
shown s t = (t + s) % clock_round

elapsed-shown : (s e t : ℕ) → e < clock_round → t < clock_round → elapsed (shown s e) (shown s t) ≡ elapsed e t
unfolding elapsed
elapsed-shown s e t h i = omega arith

-- the total from a named port is the same, whatever the clock shows when the frame comes: the old total is not, where the clock turns over between
pub from_any_clock : (p q : Ports) (s k : ℕ) → k < nowhere → ((j : ℕ) → j < nowhere → time_at p j < clock_round)
    → ((j : ℕ) → active_at q j ≡ active_at p j) → ((j : ℕ) → j < nowhere → time_at q j ≡ shown s (time_at p j))
    → total_from q k ≡ total_from p k
unfolding total_from active_ports
from_any_clock p q s k low bits actives times =
    ap (λ (g : ℕ → Bool). largest (map (λ (j : ℕ). elapsed (time_at q k) (time_at q j)) (those g places))) (fun_ext actives)
    ∙ ap largest (map-active p (λ (j : ℕ). elapsed (time_at q k) (time_at q j)) (λ (j : ℕ). elapsed (time_at p k) (time_at p j)) (same 0 (omega arith)) (same 1 (omega arith)) (same 2 (omega arith)) (same 3 (omega arith)))
  where
    same : (j : ℕ) → j < nowhere → elapsed (time_at q k) (time_at q j) ≡ elapsed (time_at p k) (time_at p j)
    same j i = rw (times k low, times j i) (elapsed-shown s (time_at p k) (time_at p j) (bits k low) (bits j i))
