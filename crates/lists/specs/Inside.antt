-- What a list of a category is, without a walk: records one behind the other up to where no further one begins, and all inside. RULES, lists. Definitions only.
use Rattle.std.specs.Prelude.{ℕ, ◌+◌, ◌≤◌, ◌<◌, ◌≡◌, List, [], ◌∷◌, length}
use Rattle.wire.specs.Bytes.{byte_at}
use Rattle.lists.specs.Records.{Item, one, none}
use Rattle.lists.specs.SyncManagers.{sms_of}
use Rattle.lists.specs.Fmmus.{usages_of, ex_of}
use Rattle.lists.specs.Pdos.{pdos_of}

-- records that stand one behind the other from p on, each what its kind reads there, and none of them passes the end;
-- the list ends only where the next record's first bytes, the least that one has, no longer fit
pub data Inside {R : Type 0} (item : ℕ → Item R) (least end : ℕ) : ℕ → List R → Type 0 where
  ends : (p : ℕ) → end < p + least → Inside item least end p []
  stands : (p q : ℕ) (r : R) (l : List R) → item p ≡ one r q → p < q → q ≤ end → Inside item least end q l → Inside item least end p (r ∷ l)

-- .. and no more of them than have room
pub record Lists {R : Type 0} (item : ℕ → Item R) (least end most p : ℕ) (l : List R) : Type 0 where
  pub inside : Inside item least end p l
  pub few : length l ≤ most

-- each record of a list has a property
pub data Each {R : Type 0} (P : R → Type 0) : List R → Type 0 where
  nil : Each P []
  cons : (r : R) (l : List R) → P r → Each P l → Each P (r ∷ l)

-- two images that hold the same bytes from p to end, whatever stands outside
pub record SameIn (p end : ℕ) (s t : List ℕ) : Type 0 where
  pub bytes : (i : ℕ) → p ≤ i → i < end → byte_at s i ≡ byte_at t i

-- of a kind of record: where one stands at p, the next starts behind p, and not past the end
abbrev pub Moves : {R : Type 0} → (List ℕ → ℕ → ℕ → Item R) → Type 0
Moves {R} item = (image : List ℕ) (end p : ℕ) (r : R) (q : ℕ) → one r q ≡ item image end p → (p < q) × (q ≤ end)

-- .. none stands there exactly where the least that one has does not fit
pub record Stops {R : Type 0} (item : List ℕ → ℕ → ℕ → Item R) (least : ℕ) : Type 0 where
  pub only : (image : List ℕ) (end p : ℕ) → none ≡ item image end p → end < p + least
  pub surely : (image : List ℕ) (end p : ℕ) → end < p + least → none ≡ item image end p

-- .. and no byte outside is read
abbrev pub Local : {R : Type 0} → (List ℕ → ℕ → ℕ → Item R) → Type 0
Local item = (s t : List ℕ) (end p : ℕ) → SameIn p end s t → item s end p ≡ item t end p

-- two images with the same lists
pub record ListsKept (image after : List ℕ) : Type 0 where
  pub sms : sms_of after ≡ sms_of image
  pub usages : usages_of after ≡ usages_of image
  pub exes : ex_of after ≡ ex_of image
  pub pdos : (number : ℕ) → pdos_of after number ≡ pdos_of image number
