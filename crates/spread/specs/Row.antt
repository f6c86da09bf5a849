-- An image spread over a row of areas of one size (RULES, spreading): what is said, and what stands in the row. Definitions only.
use Rattle.std.specs.Prelude.{◌≡◌, ℕ, zero, suc, ◌+◌, ◌*◌, ◌-◌, ◌/◌, ◌%◌, ◌≤◌, Bool, true, ◌&&◌, List, [], ◌∷◌, ◌++◌, length, take, drop, replicate, eqb, leb}
use Rattle.refusal.specs.Said.{Said, gives, refuses, pick}
use Rattle.pdu.specs.Pdu.{area_most}
use Rattle.cuts.specs.Cut.{free_of}
use Rattle.cuts.specs.Measure.{cap}
use Rattle.created_frame.specs.declared.Builder.{Builder}
use Rattle.created_frame.specs.Frame.{sound, fresh, taken, rest_builder, rest_next, after_rest}

-- ---- the limits: how many areas, how long an image, the logical commands (LRD, LWR, LRW), and one past the last address
abbrev pub areas_most : ℕ
areas_most = 32

abbrev pub image_most : ℕ
image_most = 65535

abbrev pub command_least : ℕ
command_least = 10

abbrev pub command_last : ℕ
command_last = 12

abbrev pub address_end : ℕ
address_end = 4294967296

-- ---- the areas, one by one

-- the bytes of an opened area
unfoldable pub zeroed : ℕ → List ℕ
zeroed size = replicate size 0

-- what stands in the row, the states of the areas that were taken, and the next index
pub record Run : Type 0 where
  pub areas : List ℕ
  pub states : List Builder
  pub next : ℕ

abbrev pub stopped : List ℕ → ℕ → Run
stopped row index = record { areas = row; states = []; next = index }

module _ (size command address : ℕ) where
  -- the bytes of the image from offset o on go into the n areas of the row, one push of as many as fit into each, until none is left.
  -- The first of them holds `area` and has the state b; those after it are opened.
  unfoldable pub row_from : ℕ → List ℕ → Builder → ℕ → ℕ → List ℕ → List ℕ → Run
  row_from zero area b index o row bytes = stopped row index
  row_from (suc n) area b index o row bytes =
      let given = length bytes in
      let t = taken size b.used given in
      let rest = row_from n (zeroed size) fresh (rest_next size b index command given) (o + t) (drop size row) (drop t bytes) in
      pick (eqb given 0)
      (stopped row index)
      (record {
        areas = after_rest area b index command (address + o) bytes ++ rest.areas;
        states = rest_builder size b command given ∷ rest.states;
        next = rest.next;
      })

-- ---- the call

-- what is not refused as 14; the row has `total` bytes
unfoldable pub lawful : ℕ → ℕ → Builder → ℕ → ℕ → Bool
lawful total size first command given =
    leb 1 size && leb size area_most && eqb (total % size) 0 && leb 1 (total / size) && leb (total / size) areas_most
    && leb given image_most && leb command_least command && leb command command_last && sound size first

-- the free bytes of area k, of a row whose first area has `used` used
abbrev pub free_in : ℕ → ℕ → ℕ → ℕ
free_in size used k = free_of (size - used) size k

-- the payload that n such areas have room for, 12 bytes less each
unfoldable pub room_in : ℕ → ℕ → ℕ → ℕ
room_in n size used = cap (free_in size used) 0 n

-- the places of the states that stay empty
unfoldable pub padded : List Builder → List Builder
padded l = l ++ replicate (areas_most - length l) fresh

-- what is said; what stands in the row, the states of the areas up to the last, and the next index
pub record Outcome : Type 0 where
  pub said : Said
  pub run : Run

-- the last area's number
abbrev pub done : Run → Outcome
done r = record { said = gives (length r.states ∷ []); run = r }

-- a refusal changes nothing
abbrev pub no : ℕ → List ℕ → ℕ → Outcome
no number row index = record { said = refuses number []; run = stopped row index }

-- THE RULE: 14, then 1, then 13
unfoldable pub spread_of : List ℕ → ℕ → Builder → ℕ → ℕ → ℕ → List ℕ → Outcome
spread_of row size first index command address image =
    let count = length row / size in
    pick (lawful (length row) size first command (length image))
    (pick (leb (address + length image) address_end)
    (pick (leb (length image) (room_in count size first.used))
    (done (row_from size command address count (take size row) first index 0 row image))
    (no 13 row index))
    (no 1 row index))
    (no 14 row index)

-- the state that area k begins with, and what stands in it: the first area has them, and the others are opened
abbrev pub begun_state : ℕ → Builder → Builder
begun_state k first = pick (eqb k 0) first fresh

abbrev pub begun_area : ℕ → List ℕ → List ℕ
begun_area k area = pick (eqb k 0) area (zeroed (length area))

-- what the inner function is called with
pub record Fillable (total size count : ℕ) (first : Builder) (command address given : ℕ) : Type 0 where
  pub size_most : size ≤ area_most
  pub row_whole : count * size ≡ total
  pub areas_some : 1 ≤ count
  pub areas_at_most : count ≤ areas_most
  pub given_most : given ≤ image_most
  pub command_at_most : command ≤ command_last
  pub first_sound : sound size first ≡ true
  pub address_most : address + given ≤ address_end
  pub room : given ≤ room_in count size first.used
