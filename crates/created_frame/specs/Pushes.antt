-- What `push_pdu` does, said of its own result r and of the area ys as it leaves it, for the arguments that it was called with (RULES, frames). Definitions only.
use Rattle.std.specs.Prelude.{Ok, Err, ◌≡◌, ℕ, ◌+◌, ◌%◌, ◌<◌, ◌≤◌, max, ◌≢◌, ◌↔◌, List, [], ◌∷◌, ◌++◌, length}
use Rattle.refusal.specs.declared.Refusal.{Refusal}
use Rattle.refusal.specs.declared.Refusal.TheVariants.{TooLong, BadArgument}
use Rattle.wire.specs.Bytes.{long_past, byte_at, le16, Bytes}
use Rattle.pdu.specs.Pdu.{pdu_overhead, header_bytes, flags_at, more_at, more_bit, header_of, Pdu}
use Rattle.created_frame.specs.declared.Builder.{Builder}
use Rattle.created_frame.specs.declared.PduResponseHandle.{PduResponseHandle}
use Rattle.created_frame.specs.declared.Push.{Push}
use Rattle.created_frame.specs.Frame.{grown, after}
use Rattle.created_frame.specs.Bounds.{InBounds}
use Rattle.created_frame.specs.Built.{made, Ours, Built}

-- the handle of a PDU of len payload bytes behind the used ones
abbrev pub handle_of : Builder → ℕ → ℕ → ℕ → PduResponseHandle
handle_of b len index command = record { start = b.used; size = len + pdu_overhead; index = index; command = command }

-- the area after such a PDU, byte by byte, whatever it held: the four places where a byte can lie
pub record Written (xs : List ℕ) (b : Builder) (index command address len : ℕ) (bytes ys : List ℕ) : Type 0 where
  pub as_long : length ys ≡ length xs
  -- the PDU's header and the bytes that are given
  pub put : (k : ℕ) → k < header_bytes + length bytes → byte_at ys (b.used + k) ≡ byte_at (header_of command index address len 0 ++ bytes) k
  -- the flags of the PDU before it: more-follows is set, and the others are as they were
  pub more_set : Bytes xs → 0 < b.count → le16 ys (b.last + flags_at) ≡ le16 xs (b.last + flags_at) % more_bit + more_bit
  -- every other used byte
  pub used_kept : (i : ℕ) → i < b.used → (0 < b.count → i ≢ b.last + more_at) → byte_at ys i ≡ byte_at xs i
  -- all that lies behind the given bytes: payload bytes that are missing, the working counter, the rest of the area
  pub rest_kept : (i : ℕ) → b.used + (header_bytes + length bytes) ≤ i → byte_at ys i ≡ byte_at xs i

pub record Pushes (xs : List ℕ) (b : Builder) (index command address : ℕ) (bytes : List ℕ) (over : ℕ) (r : Push PduResponseHandle) (ys : List ℕ) : Type 0 where
  -- it is refused with 14 exactly if an argument is out of bounds
  pub answers_14 : (r.answer ≡ Err BadArgument) ↔ (InBounds (length xs) b command (length bytes) over → ⊥)
  -- else with 8 exactly if there is no space for the larger of data and override, and 12 bytes
  pub answers_8 : (r.answer ≡ Err TooLong)
      ↔ InBounds (length xs) b command (length bytes) over × (length xs < b.used + (max (length bytes) over + pdu_overhead))
  -- else the PDU's handle is given
  pub answers_handle : (r.answer ≡ Ok (handle_of b (max (length bytes) over) index command))
      ↔ InBounds (length xs) b command (length bytes) over × (b.used + (max (length bytes) over + pdu_overhead) ≤ length xs)
  -- an index is taken, also where there is no space, and none where an argument is out of bounds
  pub index_taken : InBounds (length xs) b command (length bytes) over → r.next ≡ after index
  pub index_kept : (InBounds (length xs) b command (length bytes) over → ⊥) → r.next ≡ index
  -- a refusal changes nothing else
  pub refused_kept : (x : Refusal) → r.answer ≡ Err x → (r.builder ≡ b) × (ys ≡ xs)
  -- a PDU that is pushed: the state has one more, and the area has it, byte by byte
  pub state_grown : (h : PduResponseHandle) → r.answer ≡ Ok h → r.builder ≡ grown b (max (length bytes) over)
  pub area_written : (h : PduResponseHandle) → r.answer ≡ Ok h → Written xs b index command address (max (length bytes) over) bytes ys
  -- an area as our builder left it holds then the PDUs that it held and this one, with more-follows in all but the last, and zeros behind them; and it is again as our builder left it
  pub area_built : (h : PduResponseHandle) → r.answer ≡ Ok h → address < long_past → (olds : List Pdu) → Ours olds xs b
      → let news = olds ++ (made index command address bytes (max (length bytes) over) ∷ []) in
      Built news ys r.builder × Ours news ys r.builder
