-- RULES, demand 3: what a spreading is that is not refused. Definitions only.
use Rattle.std.specs.Prelude.{◌≡◌, ℕ, ◌*◌, ◌/◌, ◌≤◌, List, ◌∷◌, ◌++◌, length, drop}
use Rattle.pdu.specs.Pdu.{Pdu}
use Rattle.cuts.specs.Cut.{Piece, Permitted, last_area}
use Rattle.cuts.specs.Greedy.{greedy}
use Rattle.created_frame.specs.declared.Builder.{Builder}
use Rattle.spread.specs.Row.{Run, free_in}
use Rattle.spread.specs.Laid.{laid, states_of, AllBuilt, news_of, index_past}
use Rattle.spread.specs.ReadBack.{frame_of, frames_of, AllRead, Back, read_back, joined, pieces_of, Numbered, StillThere}

-- the new PDUs of a run, as they are read back from the areas as they stand
abbrev pub back : ℕ → Builder → Run → List Back
back size first run = read_back 0 first.count (frames_of size run.areas run.states)

-- `run` carries the pieces of a plan over the row, whose first area held the PDUs `olds`
pub record Carries (row : List ℕ) (size : ℕ) (first : Builder) (index command address : ℕ) (image : List ℕ) (olds : List Pdu) (pieces : List Piece) (run : Run) : Type 0 where
  -- a state for each area up to the last piece's
  pub counted : length run.states ≡ last_area 0 pieces
  -- each of these areas is a frame that the reader accepts
  pub accepted : AllRead (frames_of size run.areas run.states)
  -- the payloads of the new PDUs, in order of area and place, joined, are the image
  pub whole : joined (back size first run) ≡ image
  -- they have the command, indices that run on, and each the address of its piece
  pub numbered : Numbered command address index 0 (back size first run)
  pub next_index_is : run.next ≡ index_past index (length (back size first run))
  -- the pieces that they carry are the plan's
  pub plan : pieces_of 0 (back size first run) ≡ pieces
  -- the earlier PDUs of the first area are still there
  pub earlier : (f : List ℕ) (fs : List (List ℕ)) → frames_of size run.areas run.states ≡ f ∷ fs → StillThere first.count (frame_of row first) f
  -- byte by byte: the areas up to the last hold their PDUs and zeros, and those past it aren't touched; the states are the builder's
  pub areas_are : run.areas ≡ laid size olds (news_of command address image (last_area 0 pieces) 0 index pieces) ++ drop (last_area 0 pieces * size) row
  pub states_are : run.states ≡ states_of olds (news_of command address image (last_area 0 pieces) 0 index pieces)
  -- each of them is again as our builder leaves one
  pub built : AllBuilt size olds (news_of command address image (last_area 0 pieces) 0 index pieces) run.areas

-- `run` spreads the image over the row; the last area's number is k
pub record Spreads (row : List ℕ) (size : ℕ) (first : Builder) (index command address : ℕ) (image : List ℕ) (olds : List Pdu) (run : Run) (k : ℕ) : Type 0 where
  -- it carries the greedy plan
  pub carries : Carries row size first index command address image olds (greedy (free_in size first.used) (length row / size) (length image)) run
  -- what is read back is a permitted cutting, whose last piece lies in area k; and none ends in an earlier area
  pub permitted : Permitted (free_in size first.used) (length row / size) (length image) (pieces_of 0 (back size first run))
  pub last : last_area 0 (pieces_of 0 (back size first run)) ≡ k
  pub least : (ps : List Piece) → Permitted (free_in size first.used) (length row / size) (length image) ps → k ≤ last_area 0 ps
  -- the areas after it aren't touched, and the row keeps its length
  pub behind : drop (k * size) run.areas ≡ drop (k * size) row
  pub same_length : length run.areas ≡ length row
