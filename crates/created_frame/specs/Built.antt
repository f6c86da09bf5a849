-- What our builder leaves in an area: PDUs, one after the other, and zeros. Definitions only.
use Rattle.std.specs.Prelude.{◌≡◌, ℕ, ◌-◌, ◌<◌, ◌≤◌, max, List, [], ◌∷◌, ◌++◌, length, take, replicate, ◌==◌}
use Rattle.refusal.specs.Said.{pick}
use Rattle.wire.specs.Bytes.{long_past}
use Rattle.pdu.specs.Pdu.{area_most, Pdu, layout, last_at, AllFit}
use Rattle.created_frame.specs.declared.Builder.{Builder}
use Rattle.created_frame.specs.Frame.{acceptable, room, taken, fresh, after_open, pushed_builder, pushed_next, after_push, rest_builder, rest_next, after_rest}

-- the PDU that a push makes: the payload bytes that aren't given are 0
abbrev pub made : ℕ → ℕ → ℕ → List ℕ → ℕ → Pdu
made index command address bytes len =
    record { command = command; index = index; address = address; extra = 0; irq = 0; payload = bytes ++ replicate (len - length bytes) 0; counter = 0 }

-- the PDU that `push_pdu` adds to an area of size bytes, and `push_pdu_slice_rest`: none where it is refused or absent
unfoldable pub push_adds : ℕ → Builder → ℕ → ℕ → ℕ → List ℕ → ℕ → List Pdu
push_adds size b index command address bytes over =
    let len = max (length bytes) over in
    pick (acceptable size b command (length bytes) over) (pick (room size b len) (made index command address bytes len ∷ []) []) []

unfoldable pub rest_adds : ℕ → Builder → ℕ → ℕ → ℕ → List ℕ → List Pdu
rest_adds size b index command address bytes =
    let n = taken size b.used (length bytes) in
    pick (acceptable size b command (length bytes) 0) (pick (n == 0) [] (made index command address (take n bytes) n ∷ [])) []

-- an area that was opened and pushed into since, by any calls, refused ones too: the PDUs in it, its bytes, and the builder's state
pub data Ours : List Pdu → List ℕ → Builder → Type 0 where
  just_opened : (xs : List ℕ) → length xs ≤ area_most → Ours [] (after_open xs) fresh
  then_pushed : {ps : List Pdu} {xs : List ℕ} {b : Builder} (index command address : ℕ) (bytes : List ℕ) (over : ℕ)
      → Ours ps xs b → address < long_past
      → Ours (ps ++ push_adds (length xs) b index command address bytes over) (after_push xs b index command address bytes over) (pushed_builder (length xs) b command (length bytes) over)
  then_rest : {ps : List Pdu} {xs : List ℕ} {b : Builder} (index command address : ℕ) (bytes : List ℕ)
      → Ours ps xs b → address < long_past
      → Ours (ps ++ rest_adds (length xs) b index command address bytes) (after_rest xs b index command address bytes) (rest_builder (length xs) b command (length bytes))

-- what is known of one
pub record Built (ps : List Pdu) (xs : List ℕ) (b : Builder) : Type 0 where
  pub free : ℕ
  pub bytes : xs ≡ layout ps ++ replicate free 0
  pub small : length xs ≤ area_most
  pub used_is : b.used ≡ length (layout ps)
  pub count_is : b.count ≡ length ps
  pub last_is : b.last ≡ last_at ps
  pub fit : AllFit ps

-- ---- a row of calls on one area

-- a call: command, address, bytes, override
pub data Call : Type 0 where
  a_push : ℕ → ℕ → List ℕ → ℕ → Call
  a_rest : ℕ → ℕ → List ℕ → Call

-- an area, its state, and the index counter
pub record Kept : Type 0 where
  pub area : List ℕ
  pub builder : Builder
  pub next : ℕ

-- an area that was opened, and the index counter
abbrev pub opened_with : List ℕ → ℕ → Kept
opened_with xs index = record { area = after_open xs; builder = fresh; next = index }

-- what a call leaves, and the PDU that it adds
abbrev pub called : Kept → Call → Kept
called k (a_push command address bytes over) =
    let size = length k.area in
    record {
      area = after_push k.area k.builder k.next command address bytes over;
      builder = pushed_builder size k.builder command (length bytes) over;
      next = pushed_next size k.builder k.next command (length bytes) over;
    }
called k (a_rest command address bytes) =
    let size = length k.area in
    record {
      area = after_rest k.area k.builder k.next command address bytes;
      builder = rest_builder size k.builder command (length bytes);
      next = rest_next size k.builder k.next command (length bytes);
    }

abbrev pub adds : Kept → Call → List Pdu
adds k (a_push command address bytes over) = push_adds (length k.area) k.builder k.next command address bytes over
adds k (a_rest command address bytes) = rest_adds (length k.area) k.builder k.next command address bytes

-- what a row of calls leaves, and the PDUs that it adds, in order
unfoldable pub run : Kept → List Call → Kept
run k [] = k
run k (c ∷ cs) = run (called k c) cs

unfoldable pub run_adds : Kept → List Call → List Pdu
run_adds k [] = []
run_adds k (c ∷ cs) = adds k c ++ run_adds (called k c) cs

-- the addresses have 32 bits
unfoldable pub Addressed : List Call → Type 0
Addressed [] = Unit {0}
Addressed (a_push command address bytes over ∷ cs) = (address < long_past) × Addressed cs
Addressed (a_rest command address bytes ∷ cs) = (address < long_past) × Addressed cs
