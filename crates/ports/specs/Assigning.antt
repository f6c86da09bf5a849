-- Which port the next downstream device is linked to (RULES, ports). Definitions only.
-- The rule stands once, in `assignable`: what is said follows from it, and the record after it from what is said.
use Rattle.std.specs.Prelude.{ℕ, ◌+◌, ◌%◌, Bool, ◌&&◌, List, [], ◌∷◌, ◌==◌, nat_lt, slice_index}
use Rattle.refusal.specs.Said.{Said, gives, absent, refuses, pick}
use Rattle.ports.specs.declared.Ports.{Ports}
use Rattle.ports.specs.Ports.{port_count, nowhere, place_of, active_at, unlinked_at, first_that, entry, link_set}
use Rattle.ports.specs.Answers.{port_said}

-- the other three places, from place e on, in order and round
abbrev pub others_from : ℕ → List ℕ
others_from e = (e + 1) % port_count ∷ (e + 2) % port_count ∷ (e + 3) % port_count ∷ []

-- whether the port at place k is active and unlinked
abbrev pub open_at : Ports → ℕ → Bool
open_at p k = active_at p k && unlinked_at p k

-- The assigning rule: of the places other than the entry's, from it on and round, the first whose port is active and unlinked.
unfoldable pub assignable : Ports → ℕ
assignable p = first_that (open_at p) (others_from (entry p))

-- what assigning device d says: the port that the rule takes, or absent; device 0 is refused, and so are ports of which none is active
unfoldable pub assigned_said : Ports → ℕ → Said
assigned_said p d = pick (d == 0) (refuses 14 []) (pick (nat_lt (entry p) nowhere) (port_said (assignable p) absent) (refuses 9 []))

-- the record after an answer: the port that is given leads to device d; where none is given, the record stays
abbrev pub linked_as : Ports → ℕ → Said → Ports
linked_as p d (gives l) = link_set p (place_of (slice_index l 0)) d
linked_as p d absent = p
linked_as p d (refuses n l) = p

-- the record after assigning device d
unfoldable pub assigned_ports : Ports → ℕ → Ports
assigned_ports p d = linked_as p d (assigned_said p d)
