-- Delays of a device (RULES, ports), from the receive times of its active ports. Definitions only.
use Rattle.std.specs.Prelude.{ℕ, zero, suc, ◌+◌, ◌-◌, ◌%◌, min, max, Bool, ◌&&◌, List, [], ◌∷◌, map, ◌==◌, nat_le, nat_lt}
use Rattle.refusal.specs.Said.{Said, gives, absent, refuses, pick}
use Rattle.ports.specs.declared.Ports.{Ports}
use Rattle.ports.specs.Ports.{port_count, nowhere, place_of, active_at, time_at, those, folded, active_ports, entry, times_set}

-- the largest and the smallest of a list of times, 0 of an empty one
unfoldable pub largest : List ℕ → ℕ
largest ts = folded max 0 ts

unfoldable pub smallest : List ℕ → ℕ
smallest [] = 0
smallest (t ∷ ts) = folded min t ts

-- the largest less the smallest
unfoldable pub breadth : List ℕ → ℕ
breadth ts = largest ts - smallest ts

-- a delay; one of 0 is absent
unfoldable pub delay_said : ℕ → Said
delay_said t = pick (t == 0) absent (gives (t ∷ []))

-- ---- over all active ports

-- the total: the largest less the smallest active time
unfoldable pub total : Ports → ℕ
total p = breadth (map (time_at p) (active_ports p))

-- what is said of it
unfoldable pub total_said : Ports → Said
total_said p = delay_said (total p)

-- ---- from a port that the caller names as the entry

-- the clock of receive times has 32 bits: at this it turns over
abbrev pub clock_round : ℕ
clock_round = 4294967296

-- the time that has elapsed at t since e: t minus e, wrapping where the clock turns over
unfoldable pub elapsed : ℕ → ℕ → ℕ
elapsed e t = (t + clock_round - e) % clock_round

-- the largest time that has elapsed at an active port since place k
unfoldable pub total_from : Ports → ℕ → ℕ
total_from p k = largest (map (λ (j : ℕ). elapsed (time_at p k) (time_at p j)) (active_ports p))

-- what is said of it, for port n: 10 is tested before 9
unfoldable pub total_from_said : Ports → ℕ → Said
total_from_said p n = pick (nat_lt n port_count) (pick (active_at p (place_of n)) (delay_said (total_from p (place_of n))) (refuses 9 [])) (refuses 10 [])

-- the record whose times are those elapsed since the time e
unfoldable pub counted_from : Ports → ℕ → Ports
counted_from p e = times_set p (elapsed e (time_at p 0)) (elapsed e (time_at p 1)) (elapsed e (time_at p 2)) (elapsed e (time_at p 3))

-- ---- to a port

-- place j lies from place e to place k
abbrev pub between : ℕ → ℕ → ℕ → Bool
between e k j = nat_le e j && nat_le j k

-- the active ports from place e to place k
unfoldable pub active_between : Ports → ℕ → ℕ → List ℕ
active_between p e k = those (between e k) (active_ports p)

-- the same as the total, over the active ports from the entry's place to place k
unfoldable pub time_to : Ports → ℕ → ℕ
time_to p k = breadth (map (time_at p) (active_between p (entry p) k))

-- what is said of it, for port n: 10 is tested before 9
unfoldable pub time_to_said : Ports → ℕ → Said
time_to_said p n = pick (nat_lt n port_count) (pick (nat_lt (entry p) nowhere) (delay_said (time_to p (place_of n))) (refuses 9 [])) (refuses 10 [])

-- ---- between ports

-- what a pair of neighbouring places adds, of which k is the first: if both are active, the later less the earlier, never below 0
unfoldable pub gap : Ports → ℕ → ℕ
gap p k = pick (active_at p k && active_at p (k + 1)) (time_at p (k + 1) - time_at p k) 0

-- the sum over the pairs whose first lies before place k
unfoldable pub gaps : Ports → ℕ → ℕ
gaps p zero = 0
gaps p (suc k) = gaps p k + gap p k

-- a sum of delays has 32 bits
abbrev pub sum_most : ℕ
sum_most = 4294967295

-- a sum of delays, or 11
unfoldable pub sum_said : ℕ → Said
sum_said t = pick (nat_le t sum_most) (gives (t ∷ [])) (refuses 11 [])

-- the sum over the pairs before port n
unfoldable pub intermediate_said : Ports → ℕ → Said
intermediate_said p n = pick (nat_lt n port_count) (sum_said (gaps p (place_of n))) (refuses 10 [])
