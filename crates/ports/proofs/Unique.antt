-- An answer is known from what it says, by an inverse: so a promise on what is said allows one answer.
use Rattle.std.proofs.Common.{◌≡◌, ℕ, eqb, get_or, List, Option, Result, Ok, sym, refl, ap, ◌∙◌}
use Rattle.refusal.specs.declared.Refusal.{Refusal}
use Rattle.refusal.specs.Said.{Said, said, number_value, pick}
use Rattle.refusal.proofs.Unique.{said_unique, said_if_any_unique, number_unique}
use Rattle.ports.specs.Answers.{said_port, said_time, topology_values, said_topology, said_text}
use Rattle.ports.specs.declared.Ports.{Ports}
use Rattle.ports.specs.declared.Assigned.{Assigned}
use Rattle.ports.specs.declared.Topology.{Topology}
use Rattle.ports.specs.declared.Topology.TheVariants.{LineEnd, Passthrough, Fork, Cross}

-- a number that may be absent
number_if_any : (a b : Result (Option ℕ) Refusal) (s : Said) → said_port a ≡ s → said_port b ≡ s → a ≡ b
number_if_any = said_if_any_unique number_value (λ (l : List ℕ). get_or l 0 0) (λ (n : ℕ). refl)

-- .. where none is refused
number_or_none : (a b : Option ℕ) (s : Said) → said_port (Ok a) ≡ s → said_port (Ok b) ≡ s → a ≡ b
number_or_none a b s h i = let e : ◌≡◌ {A = Result (Option ℕ) Refusal} (Ok a) (Ok b) = number_if_any (Ok a) (Ok b) s h i in cc

-- ---- a port

pub port_unique : (a b : Result (Option ℕ) Refusal) (s : Said) → said_port a ≡ s → said_port b ≡ s → a ≡ b
port_unique = number_if_any

pub entry_unique : (a b : Result ℕ Refusal) (s : Said) → said number_value a ≡ s → said number_value b ≡ s → a ≡ b
entry_unique = number_unique

pub last_unique : (a b : Option ℕ) (s : Said) → said_port (Ok a) ≡ s → said_port (Ok b) ≡ s → a ≡ b
last_unique = number_or_none

-- .. and the record after it
abbrev pub AssignedGives : Said → Ports → Assigned → Type 0
AssignedGives s p r = (said_port r.answer ≡ s) × (r.ports ≡ p)

pub assigned_unique : (s : Said) (p : Ports) (x y : Assigned) → AssignedGives s p x → AssignedGives s p y → x ≡ y
assigned_unique s p x y h i =
    let e : x.answer ≡ y.answer = port_unique x.answer y.answer s h.0 i.0 in
    let f : x.ports ≡ y.ports = h.1 ∙ sym i.1 in
    ap (λ (z : Result (Option ℕ) Refusal). record { answer = z; ports = x.ports }) e ∙ ap (λ (z : Ports). record { answer = y.answer; ports = z }) f

-- ---- a time

pub time_unique : (a b : Result (Option ℕ) Refusal) (s : Said) → said_time a ≡ s → said_time b ≡ s → a ≡ b
time_unique = number_if_any

pub total_unique : (a b : Option ℕ) (s : Said) → said_time (Ok a) ≡ s → said_time (Ok b) ≡ s → a ≡ b
total_unique = number_or_none

pub sum_unique : (a b : Result ℕ Refusal) (s : Said) → said number_value a ≡ s → said number_value b ≡ s → a ≡ b
sum_unique = number_unique

-- ---- a topology

unfoldable of_count : List ℕ → Topology
of_count l = pick (eqb (get_or l 0 0) 1) LineEnd (pick (eqb (get_or l 0 0) 2) Passthrough (pick (eqb (get_or l 0 0) 3) Fork Cross))

count-back : (x : Topology) → of_count (topology_values x) ≡ x
unfolding of_count
count-back LineEnd = refl
count-back Passthrough = refl
count-back Fork = refl
count-back Cross = refl

pub topology_unique : (a b : Result Topology Refusal) (s : Said) → said_topology a ≡ s → said_topology b ≡ s → a ≡ b
topology_unique = said_unique topology_values of_count count-back

-- ---- a text

pub text_unique : (a b : Result ℕ Refusal) (s : Said) → said_text a ≡ s → said_text b ≡ s → a ≡ b
text_unique = number_unique
