-- What each answer says on paper: number and values for each of its cases (RULES, refusals). Definitions only.
use Rattle.std.specs.Prelude.{ℕ, List, [], ◌∷◌, length, ◌==◌, nat_lt, Option, Result}
use Rattle.refusal.specs.declared.Refusal.{Refusal}
use Rattle.refusal.specs.Said.{Said, said, said_if_any, number_value, gives, absent, refuses, pick}
use Rattle.ports.specs.declared.Topology.{Topology}
use Rattle.ports.specs.declared.Topology.TheVariants.{LineEnd, Passthrough, Fork, Cross}
use Rattle.ports.specs.declared.Ports.{Ports}
use Rattle.ports.specs.Ports.{number_at, nowhere, active_ports, entry, last_of, first_that, linked_at}

-- ---- the maps

-- the port's number
abbrev pub said_port : Result (Option ℕ) Refusal → Said
said_port = said_if_any number_value

-- the time in nanoseconds
abbrev pub said_time : Result (Option ℕ) Refusal → Said
said_time = said_if_any number_value

-- a topology is known by its count of active ports
abbrev pub count_of : Topology → ℕ
count_of LineEnd = 1
count_of Passthrough = 2
count_of Fork = 3
count_of Cross = 4

abbrev pub topology_values : Topology → List ℕ
topology_values x = count_of x ∷ []

-- the topology's count
abbrev pub said_topology : Result Topology Refusal → Said
said_topology = said topology_values

-- the number of bytes
abbrev pub said_text : Result ℕ Refusal → Said
said_text = said number_value

-- ---- what is said of a device

-- the number of the port at a place, or what is said where there is none
abbrev pub port_said : ℕ → Said → Said
port_said k none = pick (nat_lt k nowhere) (gives (number_at k ∷ [])) none

-- the entry port; 9 where no port is active
unfoldable pub entry_said : Ports → Said
entry_said p = port_said (entry p) (refuses 9 [])

-- the last port: the active one at the highest place
unfoldable pub last_said : Ports → Said
last_said p = port_said (last_of (active_ports p)) absent

-- the port that leads to device d: the first active one with that link
unfoldable pub linked_said : Ports → ℕ → Said
linked_said p d = pick (d == 0) (refuses 14 []) (port_said (first_that (linked_at p d) (active_ports p)) absent)

-- the topology, by the count of active ports; 9 where there is none
unfoldable pub topology_said : Ports → Said
topology_said p = pick (length (active_ports p) == 0) (refuses 9 []) (gives (length (active_ports p) ∷ []))
