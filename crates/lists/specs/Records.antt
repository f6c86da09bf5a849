-- A list of the SII: the records of a category, one behind the other, in a counted array. RULES, lists.
-- A kind of record is one function, which says what stands at a position of a category that ends somewhere. Definitions only.
use Rattle.std.specs.Prelude.{ℕ, zero, suc, ◌-◌, List, [], ◌∷◌, ◌++◌, length, get_or, replicate, Option, Some, None, Result, Ok, Err}
use Rattle.refusal.specs.Said.{Said, gives, absent, refuses, said_of}
use Rattle.refusal.specs.declared.Refusal.{Refusal}
use Rattle.eeprom.specs.declared.Range.{Range}

-- what stands at a position: a record and where the next one starts; no whole record; one that its type does not admit
pub data Item (R : Type 0) : Type 0 where
  one : R → ℕ → Item R
  none : Item R
  bad : Item R

-- a list, or a refusal by its number and values
pub data Listed (R : Type 0) : Type 0 where
  holds : List R → Listed R
  no : ℕ → List ℕ → Listed R

abbrev pub front : {R : Type 0} → R → Listed R → Listed R
front r (holds l) = holds (r ∷ l)
front r (no n v) = no n v

-- the list that begins with an item, and goes on from where that ends
abbrev pub begin : {R : Type 0} → Item R → (ℕ → Listed R) → Listed R
begin none go = holds []
begin bad go = no 5 []
begin (one r p) go = front r (go p)

-- at most so many records, from a position on; one more is 6, after its own decoding
unfoldable pub records : {R : Type 0} → (ℕ → Item R) → ℕ → ℕ → Listed R
records item zero p = begin (item p) (λ q. no 6 [])
records item (suc room) p = begin (item p) (records item room)

-- the list of a category that was sought: where there is none, the empty one
unfoldable pub in_category : {R : Type 0} → Said → (ℕ → ℕ → Listed R) → Listed R
in_category (gives l) go = go (get_or l 0 0) (get_or l 1 0)
in_category absent go = holds []
in_category (refuses n v) go = no n v

-- a list as it comes back: what is said, the count, and every place of the array
pub record Back (R : Type 0) : Type 0 where
  pub says : Said
  pub count : ℕ
  pub places : List R

-- places that are not used hold the blank; a refused list is empty
unfoldable pub back : {R : Type 0} → R → ℕ → Listed R → Back R
back blank most (holds l) = record { says = gives []; count = length l; places = l ++ replicate (most - length l) blank }
back blank most (no n v) = record { says = refuses n v; count = 0; places = replicate most blank }

-- .. from what a call answers: a struct of a count and places, or a refusal
abbrev pub back_of : {R T : Type 0} → R → ℕ → (T → ℕ) → (T → List R) → Result T Refusal → Back R
back_of blank most count places (Ok r) = record { says = gives []; count = count r; places = places r }
back_of blank most count places (Err x) = record { says = said_of x; count = 0; places = replicate most blank }

-- ---- how a list is read

-- what reading one record answers, in a category that ends there: the record and the rest behind it
abbrev pub read_answer : {R : Type 0} → ℕ → Item R → Result (Option (R × Range)) Refusal
read_answer end (one r p) = Ok (Some (r, record { byte_pos = p; end = end }))
read_answer end none = Ok None
read_answer end bad = Err Refusal.Decode

-- what reading a list into lent places answers: how many records it holds, or its refusal
abbrev pub count_said : {R : Type 0} → Listed R → Said
count_said (holds l) = gives (length l ∷ [])
count_said (no n v) = refuses n v

-- .. and the records that this lays at the front of the places, as many as have room; of a list that is refused those before
abbrev pub lay_from : {R : Type 0} → Item R → (ℕ → List R) → List R
lay_from none go = []
lay_from bad go = []
lay_from (one r p) go = r ∷ go p

unfoldable pub laid_records : {R : Type 0} → (ℕ → Item R) → ℕ → ℕ → List R
laid_records item zero p = []
laid_records item (suc room) p = lay_from (item p) (laid_records item room)

-- .. of a category that was sought
unfoldable pub laid_in : {R : Type 0} → Said → (ℕ → ℕ → List R) → List R
laid_in (gives l) go = go (get_or l 0 0) (get_or l 1 0)
laid_in absent go = []
laid_in (refuses n v) go = []
