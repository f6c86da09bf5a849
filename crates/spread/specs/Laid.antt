-- What the areas of a row hold, said by a list of PDUs for each area; and the PDUs that carry the pieces of a plan. Definitions only.
use Rattle.std.specs.Prelude.{ℕ, zero, suc, ◌+◌, ◌-◌, ◌≤◌, List, [], ◌∷◌, ◌++◌, length, take, drop, replicate, eqb}
use Rattle.refusal.specs.Said.{pick}
use Rattle.pdu.specs.Pdu.{Pdu, layout, last_at, AllFit}
use Rattle.cuts.specs.Cut.{Piece}
use Rattle.created_frame.specs.declared.Builder.{Builder}
use Rattle.created_frame.specs.Frame.{after}
use Rattle.created_frame.specs.Built.{made, Built}

-- ---- areas by their PDUs

-- an area of `size` bytes that holds these PDUs: they, and zeros
unfoldable pub laid_in : ℕ → List Pdu → List ℕ
laid_in size ps = layout ps ++ replicate (size - length (layout ps)) 0

-- the builder's state of it
abbrev pub state_of : List Pdu → Builder
state_of ps = record { used = length (layout ps); count = length ps; last = last_at ps }

-- a row of areas, each with its new PDUs; in the first they stand behind `olds`
unfoldable pub laid : ℕ → List Pdu → List (List Pdu) → List ℕ
laid size olds [] = []
laid size olds (ps ∷ pss) = laid_in size (olds ++ ps) ++ laid size [] pss

-- the builder's states of them
unfoldable pub states_of : List Pdu → List (List Pdu) → List Builder
states_of olds [] = []
states_of olds (ps ∷ pss) = state_of (olds ++ ps) ∷ states_of [] pss

-- each area has room for its PDUs, and their fields fit the wire
unfoldable pub Fitting : ℕ → List Pdu → List (List Pdu) → Type 0
Fitting size olds [] = Unit {0}
Fitting size olds (ps ∷ pss) = (length (layout (olds ++ ps)) ≤ size) × AllFit (olds ++ ps) × Fitting size [] pss

-- each area is one of our builder's, into which more can be pushed
unfoldable pub AllBuilt : ℕ → List Pdu → List (List Pdu) → List ℕ → Type 0
AllBuilt size olds [] row = Unit {0}
AllBuilt size olds (ps ∷ pss) row = Built (olds ++ ps) (take size row) (state_of (olds ++ ps)) × AllBuilt size [] pss (drop size row)

-- ---- the PDUs of a plan

module _ (command address : ℕ) (image : List ℕ) where
  -- the image's bytes of a piece
  abbrev pub bytes_of : Piece → List ℕ
  bytes_of p = take p.size (drop p.offset image)

  -- the PDU that carries a piece: it has the address of the piece's offset
  abbrev pub pdu_of : ℕ → Piece → Pdu
  pdu_of index p = made index command (address + p.offset) (bytes_of p) p.size

  -- those of area k; the index goes on with each piece of the plan
  unfoldable pub in_area : ℕ → ℕ → List Piece → List Pdu
  in_area k index [] = []
  in_area k index (p ∷ ps) = pick (eqb p.area k) (pdu_of index p ∷ in_area k (after index) ps) (in_area k (after index) ps)

  -- those of each of the d areas after area i
  unfoldable pub news_of : ℕ → ℕ → ℕ → List Piece → List (List Pdu)
  news_of zero i index ps = []
  news_of (suc d) i index ps = in_area (suc i) index ps ∷ news_of d (suc i) index ps

-- the index after n PDUs
unfoldable pub index_past : ℕ → ℕ → ℕ
index_past index zero = index
index_past index (suc n) = index_past (after index) n
