-- What a push answers, and what it leaves: the area's bytes, the builder's state, the index counter (RULES, frames). Definitions only.
use Rattle.std.specs.Prelude.{ℕ, ◌+◌, ◌-◌, ◌*◌, ◌%◌, ◌<◌, ◌≤◌, min, max, Bool, ◌&&◌, List, [], ◌∷◌, ◌++◌, length, take, replicate, ◌==◌, nat_le, slice_set}
use Rattle.refusal.specs.Said.{Said, gives, absent, refuses, pick}
use Rattle.wire.specs.Bytes.{byte_past, byte_at, overlay}
use Rattle.pdu.specs.Pdu.{area_most, pdu_overhead, header_bytes, more_at, more_in_byte, header_of}
use Rattle.created_frame.specs.declared.Builder.{Builder}

-- ---- the limits: of a command, and of data and override
abbrev pub command_most : ℕ
command_most = 14

abbrev pub data_most : ℕ
data_most = 65535

-- ---- what is within the bounds, and what has room

-- a state fits an area of size bytes: the used bytes lie between 12 for each PDU and the area's size and are 0 where there is no PDU,
-- and the last PDU's header lies in them
unfoldable pub sound : ℕ → Builder → Bool
sound size b =
    nat_le size area_most
    && nat_le b.used size
    && pick (b.count == 0) (b.used == 0) (nat_le (pdu_overhead * b.count) b.used && nat_le (b.last + header_bytes) b.used)

-- .. and so do the command, the data's length and the override
unfoldable pub acceptable : ℕ → Builder → ℕ → ℕ → ℕ → Bool
acceptable size b command given over = sound size b && nat_le command command_most && nat_le given data_most && nat_le over data_most

-- a PDU of len payload bytes has room behind the used ones
unfoldable pub room : ℕ → Builder → ℕ → Bool
room size b len = nat_le (b.used + (len + pdu_overhead)) size

-- how many of `given` bytes have room: the free bytes less 12, never below 0
abbrev pub taken : ℕ → ℕ → ℕ → ℕ
taken size used given = min given (size - used - pdu_overhead)

-- ---- what a PDU more changes

-- a byte with more-follows set
abbrev pub more_on : ℕ → ℕ
more_on n = n % more_in_byte + more_in_byte

-- .. that at `at`
unfoldable pub more : List ℕ → ℕ → List ℕ
more xs at = slice_set xs at (more_on (byte_at xs at))

-- .. in the last PDU, where there is one
unfoldable pub marked : List ℕ → ℕ → ℕ → List ℕ
marked xs count last = pick (count == 0) xs (more xs (last + more_at))

-- the area with a PDU of len payload bytes behind the used ones: more-follows set in the PDU before it, the new one's header and the given bytes written,
-- all else as it was
abbrev pub with_pdu : List ℕ → Builder → ℕ → ℕ → ℕ → ℕ → List ℕ → List ℕ
with_pdu xs b index command address len bytes =
    overlay (marked xs b.count b.last) b.used (header_of command index address len 0 ++ bytes)

-- the state after it
abbrev pub grown : Builder → ℕ → Builder
grown b len = record { used = b.used + (len + pdu_overhead); count = b.count + 1; last = b.used }

-- the index after this one: after 255 comes 0
abbrev pub after : ℕ → ℕ
after index = (index + 1) % byte_past

-- what a push says of its PDU: its place, its whole size, its index, its command
abbrev pub handle : Builder → ℕ → ℕ → ℕ → List ℕ
handle b len index command = b.used ∷ (len + pdu_overhead) ∷ index ∷ command ∷ []

-- ---- `push_pdu` of `given` bytes with the override `over`: the payload is as long as the larger of the two

-- what it says
unfoldable pub pushed : ℕ → Builder → ℕ → ℕ → ℕ → ℕ → Said
pushed size b index command given over =
    pick (acceptable size b command given over)
    (pick (room size b (max given over)) (gives (handle b (max given over) index command)) (refuses 8 []))
    (refuses 14 [])

-- the state after it
unfoldable pub pushed_builder : ℕ → Builder → ℕ → ℕ → ℕ → Builder
pushed_builder size b command given over =
    pick (acceptable size b command given over) (pick (room size b (max given over)) (grown b (max given over)) b) b

-- the next index: one is taken also where there is no space
unfoldable pub pushed_next : ℕ → Builder → ℕ → ℕ → ℕ → ℕ → ℕ
pushed_next size b index command given over = pick (acceptable size b command given over) (after index) index

-- the area after it
unfoldable pub after_push : List ℕ → Builder → ℕ → ℕ → ℕ → List ℕ → ℕ → List ℕ
after_push xs b index command address bytes over =
    let len = max (length bytes) over in
    pick (acceptable (length xs) b command (length bytes) over)
    (pick (room (length xs) b len) (with_pdu xs b index command address len bytes) xs)
    xs

-- ---- `push_pdu_slice_rest`: as many of `given` bytes as have room

-- what it says: how many went in, and the PDU
unfoldable pub rest_pushed : ℕ → Builder → ℕ → ℕ → ℕ → Said
rest_pushed size b index command given =
    let n = taken size b.used given in
    pick (acceptable size b command given 0) (pick (n == 0) absent (gives (n ∷ handle b n index command))) (refuses 14 [])

-- the state after it
unfoldable pub rest_builder : ℕ → Builder → ℕ → ℕ → Builder
rest_builder size b command given =
    let n = taken size b.used given in
    pick (acceptable size b command given 0) (pick (n == 0) b (grown b n)) b

-- the next index
unfoldable pub rest_next : ℕ → Builder → ℕ → ℕ → ℕ → ℕ
rest_next size b index command given =
    pick (acceptable size b command given 0) (pick (taken size b.used given == 0) index (after index)) index

-- the area after it
unfoldable pub after_rest : List ℕ → Builder → ℕ → ℕ → ℕ → List ℕ → List ℕ
after_rest xs b index command address bytes =
    let n = taken (length xs) b.used (length bytes) in
    pick (acceptable (length xs) b command (length bytes) 0)
    (pick (n == 0) xs (with_pdu xs b index command address n (take n bytes)))
    xs

-- ---- the other calls

-- the state of an area without PDUs
abbrev pub fresh : Builder
fresh = record { used = 0; count = 0; last = 0 }

-- what opening says: used, count, last
unfoldable pub opened : ℕ → Said
opened size = pick (nat_le size area_most) (gives (0 ∷ 0 ∷ 0 ∷ [])) (refuses 14 [])

-- the area after it
unfoldable pub after_open : List ℕ → List ℕ
after_open xs = pick (nat_le (length xs) area_most) (replicate (length xs) 0) xs

-- what `can_push_pdu_payload` says: 1 or 0
unfoldable pub can_push : ℕ → Builder → ℕ → Said
can_push size b len = pick (sound size b && nat_le len data_most) (gives (pick (room size b len) 1 0 ∷ [])) (refuses 14 [])

-- ---- inside the builder

-- what writing a PDU is asked with: it fits, and the state is sound
pub record Roomy (size : ℕ) (b : Builder) (len given : ℕ) : Type 0 where
  pub small : size ≤ area_most
  pub fits : b.used + (len + pdu_overhead) ≤ size
  pub given_fits : given ≤ len
  pub counted : pdu_overhead * b.count ≤ b.used
  pub header_in : 0 < b.count → b.last + header_bytes ≤ b.used
