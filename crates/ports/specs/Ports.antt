-- The ports of a device and the list of active ones (RULES, ports). Definitions only.
-- A port is named by its place, 0 to 3; a frame passes the places in this order.
use Rattle.std.specs.Prelude.{ℕ, Bool, true, false, ◌&&◌, List, [], ◌∷◌, ◌==◌, nat_lt, slice_index, slice_index_or, slice_set, Option, Some, None}
use Rattle.refusal.specs.Said.{pick}
use Rattle.ports.specs.declared.Port.{Port}
use Rattle.ports.specs.declared.Ports.{Ports}

-- places 0, 1, 2, 3 hold ports 0, 3, 1, 2
abbrev pub number_at : ℕ → ℕ
number_at k = slice_index (0 ∷ 3 ∷ 1 ∷ 2 ∷ []) k

-- .. so ports 0, 1, 2, 3 stand at places 0, 2, 3, 1
abbrev pub place_of : ℕ → ℕ
place_of n = slice_index (0 ∷ 2 ∷ 3 ∷ 1 ∷ []) n

-- the four places, in order
abbrev pub places : List ℕ
places = 0 ∷ 1 ∷ 2 ∷ 3 ∷ []

-- ports are numbered below this, and so are places
abbrev pub port_count : ℕ
port_count = 4

-- the place of no port
abbrev pub nowhere : ℕ
nowhere = port_count

-- ---- a port

-- what is read where a list has no port
abbrev pub no_port : Port
no_port = record { active = false; dc_receive_time = 0; number = 0; downstream_to = None }

-- the port at place k
abbrev pub port_at : Ports → ℕ → Port
port_at p k = slice_index_or p.0 k no_port

-- whether it is active
abbrev pub active_at : Ports → ℕ → Bool
active_at p k = (port_at p k).active

-- its receive time
abbrev pub time_at : Ports → ℕ → ℕ
time_at p k = (port_at p k).dc_receive_time

-- no device is linked; a link to device 0 is a link
abbrev pub is_free : Option ℕ → Bool
is_free None = true
is_free (Some d) = false

-- whether the port at place k is unlinked
abbrev pub unlinked_at : Ports → ℕ → Bool
unlinked_at p k = is_free (port_at p k).downstream_to

-- the link is to device d
abbrev pub leads_to : ℕ → Option ℕ → Bool
leads_to d None = false
leads_to d (Some l) = l == d

-- whether the port at place k is linked to device d
abbrev pub linked_at : Ports → ℕ → ℕ → Bool
linked_at p d k = leads_to d (port_at p k).downstream_to

-- ---- lists of places

-- those of a list that pass a test
unfoldable pub those : (ℕ → Bool) → List ℕ → List ℕ
those g [] = []
those g (k ∷ ks) = pick (g k) (k ∷ those g ks) (those g ks)

-- the first of a list that passes a test
unfoldable pub first_that : (ℕ → Bool) → List ℕ → ℕ
first_that g [] = nowhere
first_that g (k ∷ ks) = pick (g k) k (first_that g ks)

-- x, after each of a list was joined to it in turn
unfoldable pub folded : {A : Type 0} → (A → ℕ → A) → A → List ℕ → A
folded f x [] = x
folded f x (k ∷ ks) = folded f (f x k) ks

-- x, after k was joined to it if k passes a test
abbrev pub taking : {A : Type 0} → (ℕ → Bool) → (A → ℕ → A) → A → ℕ → A
taking g f x k = pick (g k) (f x k) x

-- the last of a list
unfoldable pub last_of : List ℕ → ℕ
last_of ks = folded (λ (x k : ℕ). k) nowhere ks

-- of the place b (nowhere: none yet) and the place k, the one with the smaller time t, the first where they are equal
abbrev pub sooner : (ℕ → ℕ) → ℕ → ℕ → ℕ
sooner t b k = pick (nat_lt b nowhere) (pick (nat_lt (t k) (t b)) k b) k

-- the first of a list with the smallest time t
unfoldable pub earliest : (ℕ → ℕ) → List ℕ → ℕ
earliest t ks = folded (sooner t) nowhere ks

-- ---- a device

-- the list of active ports, by place
unfoldable pub active_ports : Ports → List ℕ
active_ports p = those (active_at p) places

-- the entry port: active with the smallest receive time, the first on ties
unfoldable pub entry : Ports → ℕ
entry p = earliest (time_at p) (active_ports p)

-- ---- records

-- port n, active or not, with no time and no link
abbrev pub fresh_port : Bool → ℕ → Port
fresh_port a n = record { active = a; dc_receive_time = 0; number = n; downstream_to = None }

-- a device of which these ports are active, in the order of places; no times, no links
unfoldable pub fresh : Bool → Bool → Bool → Bool → Ports
fresh a0 a3 a1 a2 = record { 0 = fresh_port a0 0 ∷ fresh_port a3 3 ∷ fresh_port a1 1 ∷ fresh_port a2 2 ∷ [] }

-- the port with receive time t
abbrev pub timed : Port → ℕ → Port
timed q t = record { active = q.active; dc_receive_time = t; number = q.number; downstream_to = q.downstream_to }

-- the record with these receive times, in the order of places
unfoldable pub times_set : Ports → ℕ → ℕ → ℕ → ℕ → Ports
times_set p t0 t3 t1 t2 = record { 0 = timed (port_at p 0) t0 ∷ timed (port_at p 1) t3 ∷ timed (port_at p 2) t1 ∷ timed (port_at p 3) t2 ∷ [] }

-- the port with a link to device d
abbrev pub linked : Port → ℕ → Port
linked q d = record { active = q.active; dc_receive_time = q.dc_receive_time; number = q.number; downstream_to = Some d }

-- the record in which the port at place k leads to device d
unfoldable pub link_set : Ports → ℕ → ℕ → Ports
link_set p k d = record { 0 = slice_set p.0 k (linked (port_at p k) d) }

-- the port, active only if b holds besides
abbrev pub only_if : Port → Bool → Port
only_if q b = record { active = b && q.active; dc_receive_time = q.dc_receive_time; number = q.number; downstream_to = q.downstream_to }

-- the record in which only those active ports are active whose places pass a test
unfoldable pub only : (ℕ → Bool) → Ports → Ports
only g p = record { 0 = only_if (port_at p 0) (g 0) ∷ only_if (port_at p 1) (g 1) ∷ only_if (port_at p 2) (g 2) ∷ only_if (port_at p 3) (g 3) ∷ [] }
