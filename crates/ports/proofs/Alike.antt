-- Entry, topology and delays rest on which ports are active and on their times alone: records that agree in these agree in those, whatever their links.
-- Idea: each is a function of the two tests, as functions of the place.
use Rattle.std.proofs.Common.{◌≡◌, ℕ, zero, suc, ◌+◌, ◌-◌, Bool, ◌&&◌, map, refl, ap₂}
use mathlib.Core.Path.{fun_ext}
use Rattle.refusal.specs.Said.{pick}
use Rattle.ports.specs.declared.Ports.{Ports}
use Rattle.ports.specs.Ports.{places, active_at, time_at, those, earliest, active_ports, entry}
use Rattle.ports.specs.Answers.{topology_said}
use Rattle.ports.specs.Delays.{largest, breadth, total, total_said, elapsed, total_from, between, active_between, time_to, time_to_said, gap, gaps, intermediate_said}

-- the same ports are active, at the same times
pub record Alike (p q : Ports) : Type 0 where
  pub actives : (k : ℕ) → active_at q k ≡ active_at p k
  pub times : (k : ℕ) → time_at q k ≡ time_at p k

module _ {p q : Ports} (a : Alike p q) where
  -- what is made of the two tests is the same
  alike : {A : Type 0} (f : (ℕ → Bool) → (ℕ → ℕ) → A) → f (active_at q) (time_at q) ≡ f (active_at p) (time_at p)
  alike f = ap₂ f (fun_ext a.actives) (fun_ext a.times)

  pub alike-ports : active_ports q ≡ active_ports p
  unfolding active_ports
  alike-ports = alike (λ (g : ℕ → Bool) (t : ℕ → ℕ). those g places)

  pub alike-entry : entry q ≡ entry p
  unfolding entry active_ports
  alike-entry = alike (λ (g : ℕ → Bool) (t : ℕ → ℕ). earliest t (those g places))

  pub alike_topology : topology_said q ≡ topology_said p
  unfolding topology_said
  alike_topology = rw alike-ports

  pub alike-total : total q ≡ total p
  unfolding total active_ports
  alike-total = alike (λ (g : ℕ → Bool) (t : ℕ → ℕ). breadth (map t (those g places)))

  pub alike-total_from : (k : ℕ) → total_from q k ≡ total_from p k
  unfolding total_from active_ports
  alike-total_from k = alike (λ (g : ℕ → Bool) (t : ℕ → ℕ). largest (map (λ (j : ℕ). elapsed (t k) (t j)) (those g places)))

  pub alike_time_to : (k : ℕ) → time_to q k ≡ time_to p k
  unfolding time_to active_between entry active_ports
  alike_time_to k = alike (λ (g : ℕ → Bool) (t : ℕ → ℕ). breadth (map t (those (between (earliest t (those g places)) k) (those g places))))

  pub alike-gaps : (k : ℕ) → gaps q k ≡ gaps p k
  unfolding gaps gap
  alike-gaps zero = refl
  alike-gaps (suc k) = ap₂ ◌+◌ (alike-gaps k) (alike (λ (g : ℕ → Bool) (t : ℕ → ℕ). pick (g k && g (k + 1)) (t (k + 1) - t k) 0))

  -- .. and what is said of them
  pub alike-total-said : total_said q ≡ total_said p
  unfolding total_said
  alike-total-said = rw alike-total

  pub alike_time_to-said : (n : ℕ) → time_to_said q n ≡ time_to_said p n
  unfolding time_to_said
  alike_time_to-said n = simp (alike-entry, alike_time_to)

  pub alike_intermediate_said : (n : ℕ) → intermediate_said q n ≡ intermediate_said p n
  unfolding intermediate_said
  alike_intermediate_said n = simp alike-gaps
