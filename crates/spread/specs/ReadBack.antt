-- What the frame reader finds in the areas of a row, as they stand. Definitions only.
use Rattle.std.specs.Prelude.{◌≡◌, ℕ, suc, ◌+◌, List, [], ◌∷◌, ◌++◌, map, length, take, drop}
use Rattle.pdu.specs.declared.PduFields.{PduFields}
use Rattle.pdu.specs.Pdu.{frame_header}
use Rattle.pdu.specs.Read.{read, read_of, pdus_of, payload_of, with_more}
use Rattle.cuts.specs.Cut.{Piece}
use Rattle.created_frame.specs.declared.Builder.{Builder}
use Rattle.created_frame.specs.Frame.{after}

-- ---- frames

-- the frame of an area: the header, and the used bytes
abbrev pub frame_of : List ℕ → Builder → List ℕ
frame_of area b = frame_header b.used ++ take b.used area

-- the frames of a row of areas of `size` bytes, by the builders' states
unfoldable pub frames_of : ℕ → List ℕ → List Builder → List (List ℕ)
frames_of size row [] = []
frames_of size row (b ∷ bs) = frame_of row b ∷ frames_of size (drop size row) bs

-- the fields of the PDUs that are read; none where the frame is refused
abbrev pub fields_in : List ℕ → List PduFields
fields_in f = pdus_of (read_of f)

-- the reader accepts each frame
unfoldable pub AllRead : List (List ℕ) → Type 0
AllRead [] = Unit {0}
AllRead (f ∷ fs) = (read_of f ≡ read (fields_in f)) × AllRead fs

-- ---- the new PDUs

-- a PDU that was read: in which area, its command, index, address and payload
pub record Back : Type 0 where
  pub area : ℕ
  pub command : ℕ
  pub index : ℕ
  pub address : ℕ
  pub payload : List ℕ

abbrev pub back_at : ℕ → List ℕ → PduFields → Back
back_at a f v = record { area = a; command = v.command; index = v.index; address = v.address; payload = payload_of f v }

-- all that are read in the frames of the areas after area i, in order of area and place, but for the first n of the first frame
unfoldable pub read_back : ℕ → ℕ → List (List ℕ) → List Back
read_back i n [] = []
read_back i n (f ∷ fs) = map (back_at (suc i) f) (drop n (fields_in f)) ++ read_back (suc i) 0 fs

-- their payloads, joined
unfoldable pub joined : List Back → List ℕ
joined [] = []
joined (x ∷ xs) = x.payload ++ joined xs

-- the pieces of the image that they carry, the first of them from offset o on
unfoldable pub pieces_of : ℕ → List Back → List Piece
pieces_of o [] = []
pieces_of o (x ∷ xs) = record { area = x.area; offset = o; size = length x.payload } ∷ pieces_of (o + length x.payload) xs

-- they have this command, indices that run on, and at offset o the address + o
unfoldable pub Numbered : ℕ → ℕ → ℕ → ℕ → List Back → Type 0
Numbered command address index o [] = Unit {0}
Numbered command address index o (x ∷ xs) =
    (x.command ≡ command) × (x.index ≡ index) × (x.address ≡ address + o) × Numbered command address (after index) (o + length x.payload) xs

-- ---- the PDUs that were there before

-- these fields, or these with more-follows set in the last
pub data Kept (vs : List PduFields) : List PduFields → Type 0 where
  same : Kept vs vs
  more_follows_set : Kept vs (with_more vs)

-- the n PDUs of the frame f₀ are the first n of the frame f, changed at most in the last one's more-follows
pub record StillThere (n : ℕ) (f₀ f : List ℕ) : Type 0 where
  pub were : read_of f₀ ≡ read (fields_in f₀)
  pub counted : length (fields_in f₀) ≡ n
  pub fields : Kept (fields_in f₀) (take n (fields_in f))
  pub payloads : map (payload_of f) (take n (fields_in f)) ≡ map (payload_of f₀) (fields_in f₀)
