-- What `receive` does, said of its own result r, for the row of handles and the frame s that it was called with (RULES, received). Definitions only.
use Rattle.std.specs.Prelude.{◌≡◌, ℕ, ◌+◌, ◌-◌, ◌%◌, ◌≤◌, List, [], ◌∷◌, ◌++◌, map, length, take, drop, Result, Ok}
use Rattle.refusal.specs.Said.{Said, gives, absent, refuses}
use Rattle.wire.specs.Bytes.{le16, Bytes}
use Rattle.pdu.specs.declared.PduFields.{PduFields}
use Rattle.pdu.specs.Pdu.{area_most, frame_header_bytes, pdu_overhead, pdus_most, Pdu, frame_header}
use Rattle.pdu.specs.Read.{seen_at, shown_all, starts}
use Rattle.pdu.specs.Grammar.{WellFormed}
use Rattle.created_frame.specs.declared.PduResponseHandle.{PduResponseHandle}
use Rattle.created_frame.specs.Frame.{pushed, rest_pushed}
use Rattle.created_frame.specs.Built.{Call, a_push, a_rest, Kept, opened_with, called, run, run_adds, Addressed}
use Rattle.received.specs.declared.Received.{Received}
use Rattle.received.specs.declared.ReceivedPdu.{ReceivedPdu}
use Rattle.refusal.specs.declared.Refusal.{Refusal}
use Rattle.received.specs.Matching.{handle_numbers, handles_in, came_back}
use Rattle.received.specs.Answers.{unused}

-- ---- the handles that pushes gave, and the frame that they made

abbrev pub values_in : Said → List ℕ
values_in (gives l) = l
values_in absent = []
values_in (refuses n l) = []

-- the handle that a call says: none where it is refused or absent; a push of as much as fits says first how many bytes went in
abbrev pub handle_said : Kept → Call → List ℕ
handle_said k (a_push command address bytes over) = values_in (pushed (length k.area) k.builder k.next command (length bytes) over)
handle_said k (a_rest command address bytes) = drop 1 (values_in (rest_pushed (length k.area) k.builder k.next command (length bytes)))

-- .. and a row of calls, one behind the other
unfoldable pub run_handles : Kept → List Call → List ℕ
run_handles k [] = []
run_handles k (c ∷ cs) = handle_said k c ++ run_handles (called k c) cs

-- the frame of an area: the header and the used bytes
abbrev pub frame_in : Kept → List ℕ
frame_in k = frame_header k.builder.used ++ take k.builder.used k.area

-- ---- what transit leaves alone

-- a PDU's command, index, length and more-follows; nothing is asked of its address, of the other flags, of IRQ, payload and working counter
pub record Stood (v w : PduFields) : Type 0 where
  pub command_same : w.command ≡ v.command
  pub index_same : w.index ≡ v.index
  pub length_same : w.len ≡ v.len
  pub more_same : w.more_follows ≡ v.more_follows

unfoldable pub Each : (ℕ → Type 0) → List ℕ → Type 0
Each P [] = Unit {0}
Each P (i ∷ l) = P i × Each P l

-- s is the frame f of these PDUs after transit: its header and that of each PDU; bytes may follow
pub record InTransit (f s : List ℕ) (ps : List Pdu) : Type 0 where
  pub header_same : le16 s 0 ≡ le16 f 0
  pub whole : length f ≤ length s
  pub pdus_stood : Each (λ i. Stood (seen_at f i) (seen_at s i)) (starts frame_header_bytes ps)

-- ---- what is given

-- commands, indices and lengths of these PDUs are those of the handles, and there are as many
unfoldable pub Alike : List PduResponseHandle → List Pdu → Type 0
Alike [] [] = Unit {0}
Alike [] (p ∷ ps) = ⊥
Alike (h ∷ hs) [] = ⊥
Alike (h ∷ hs) (p ∷ ps) = (p.command ≡ h.command) × (p.index ≡ h.index) × (length p.payload + pdu_overhead ≡ h.size) × Alike hs ps

-- the bytes of a payload
unfoldable pub payload_in : List ℕ → ReceivedPdu → List ℕ
payload_in s p = take p.len (drop p.place s)

-- the list is these, and nothing else
pub record Lists (vs : List ReceivedPdu) (r : Received) : Type 0 where
  pub count_is : r.count ≡ length vs
  pub pdus_are : take r.count r.pdus ≡ vs
  pub rest_unused : drop r.count r.pdus ≡ unused (pdus_most - r.count)

pub record Receives (row s : List ℕ) (r : Result Received Refusal) : Type 0 where
  -- a frame that our pushes made on an opened area, refused ones among them, is accepted after transit with the handles that they gave; given is what then stands at the places of the PDUs
  pub ours_accepted : (xs : List ℕ) (index : ℕ) (cs : List Call) → length xs ≤ area_most → Addressed cs
      → let k = opened_with xs index in
      row ≡ run_handles k cs → InTransit (frame_in (run k cs)) s (run_adds k cs)
      → (l : Received) × (r ≡ Ok l) × Lists (map came_back (map (seen_at s) (starts frame_header_bytes (run_adds k cs)))) l
  -- so is every well-formed frame whose PDUs are the handles'
  pub frame_accepted : (ps : List Pdu) → WellFormed s ps → length row % handle_numbers ≡ 0 → Alike (handles_in row) ps
      → (l : Received) × (r ≡ Ok l) × Lists (map came_back (shown_all frame_header_bytes ps)) l
  -- and nothing else: what is accepted is such a frame, and given are its payloads and working counters
  pub accepted_frame : Bytes s → (l : Received) → r ≡ Ok l
      → (ps : List Pdu) × WellFormed s ps × Alike (handles_in row) ps × Lists (map came_back (shown_all frame_header_bytes ps)) l
      × (map (payload_in s) (take l.count l.pdus) ≡ map (λ (p : Pdu). p.payload) ps)
