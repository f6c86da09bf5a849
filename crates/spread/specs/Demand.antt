-- THE CALL, in one statement: what holds of its result r and of the row ys as it leaves it, for its arguments (RULES, spreading). Nothing here knows how the areas
-- are filled: the bounds are inequalities, a refusal as 13 is that no permitted cutting exists, and a spreading is what is read back. Definitions only.
use Rattle.std.specs.Prelude.{Ok, Err, ◌≡◌, ◌↔◌, true, List, [], ℕ, ◌+◌, ◌*◌, ◌/◌, ◌≤◌, ◌<◌, length, take}
use Rattle.refusal.specs.declared.Refusal.{Refusal}
use Rattle.refusal.specs.declared.Refusal.TheVariants.{Address, NoRoom, BadArgument}
use Rattle.pdu.specs.Pdu.{area_most, Pdu}
use Rattle.cuts.specs.Cut.{Piece, Permitted}
use Rattle.created_frame.specs.declared.Builder.{Builder}
use Rattle.created_frame.specs.Frame.{sound}
use Rattle.created_frame.specs.Built.{Ours}
use Rattle.spread.specs.declared.Spreading.{Spreading}
use Rattle.spread.specs.Row.{areas_most, image_most, command_least, command_last, address_end, free_in, padded}
use Rattle.spread.specs.Theorem.{Spreads}

-- what is not refused as 14: whole areas of one size, `total` bytes of them, an image of `given` bytes, a logical command, and a state that fits the first area
pub record Bounds (total size : ℕ) (first : Builder) (command given : ℕ) : Type 0 where
  pub size_some : 1 ≤ size
  pub size_most : size ≤ area_most
  pub row_whole : total / size * size ≡ total
  pub areas_some : 1 ≤ total / size
  pub areas_at_most : total / size ≤ areas_most
  pub given_most : given ≤ image_most
  pub command_at_least : command_least ≤ command
  pub command_at_most : command ≤ command_last
  pub first_sound : sound size first ≡ true

-- .. and as 1: no byte's address passes the last
abbrev pub Reaches : ℕ → List ℕ → Type 0
Reaches address image = address + length image ≤ address_end

-- a permitted cutting of the image over the row
abbrev pub Cut : List ℕ → ℕ → Builder → List ℕ → List Piece → Type 0
Cut row size first image ps = Permitted (free_in size first.used) (length row / size) (length image) ps

pub record Demand3 (row : List ℕ) (size : ℕ) (first : Builder) (index command address : ℕ) (image : List ℕ) (r : Spreading) (ys : List ℕ) : Type 0 where
  -- it is refused with 14 exactly if the arguments are out of bounds,
  pub bad_argument : (r.answer ≡ Err BadArgument) ↔ (Bounds (length row) size first command (length image) → ⊥)
  -- else with 1 exactly if the addresses pass the end,
  pub past_end : (r.answer ≡ Err Address) ↔ (Bounds (length row) size first command (length image) × (address_end < address + length image))
  -- else with 13 exactly if no permitted cutting exists;
  pub no_room : (r.answer ≡ Err NoRoom) ↔
      (Bounds (length row) size first command (length image) × Reaches address image × ((ps : List Piece) → Cut row size first image ps → ⊥))
  -- else, exactly if one does, an area's number is answered,
  pub answered : ((k : ℕ) × (r.answer ≡ Ok k)) ↔
      (Bounds (length row) size first command (length image) × Reaches address image × ((ps : List Piece) × Cut row size first image ps))
  -- and the image is spread, with that area the last, where the first area is as our builder left it
  pub spreads : (olds : List Pdu) (k : ℕ) → Ours olds (take size row) first → r.answer ≡ Ok k
      → Spreads row size first index command address image olds (record { areas = ys; states = take k r.states; next = r.next }) k
  -- a refusal changes nothing
  pub unchanged : (x : Refusal) → r.answer ≡ Err x → (r.states ≡ padded []) × (r.next ≡ index) × (ys ≡ row)
