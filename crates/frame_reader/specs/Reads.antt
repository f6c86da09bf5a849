-- What `read_frame` does, said of its own result r, for the bytes s that it was called with (RULES, reader). Definitions only.
use Rattle.std.specs.Prelude.{◌≡◌, ◌↔◌, ℕ, ◌-◌, List, [], map, length, take, drop, Result, Err, IsOk}
use Rattle.refusal.specs.declared.Refusal.{Refusal}
use Rattle.refusal.specs.declared.Refusal.TheVariants.{BadFrame}
use Rattle.wire.specs.Bytes.{Bytes}
use Rattle.pdu.specs.Pdu.{frame_header_bytes, pdus_most, Pdu}
use Rattle.pdu.specs.Read.{payload_of, shown_all}
use Rattle.pdu.specs.Grammar.{WellFormed}
use Rattle.frame_reader.specs.declared.FrameRead.{FrameRead}
use Rattle.frame_reader.specs.Answers.{unused, count_of, pdus_in}

-- the list is these PDUs, in order, and nothing else: their fields, and their payloads where they are said to lie
pub record Listed (s : List ℕ) (ps : List Pdu) (r : Result FrameRead Refusal) : Type 0 where
  pub count_is : count_of r ≡ length ps
  pub fields : take (count_of r) (pdus_in r) ≡ shown_all frame_header_bytes ps
  pub payloads : map (payload_of s) (take (count_of r) (pdus_in r)) ≡ map (λ (p : Pdu). p.payload) ps
  pub rest_unused : drop (count_of r) (pdus_in r) ≡ unused (pdus_most - count_of r)

pub record Reads (s : List ℕ) (r : Result FrameRead Refusal) : Type 0 where
  -- it is refused with 12 exactly if the bytes are no well-formed frame, of any PDUs
  pub answers_12 : Bytes s → (r ≡ Err BadFrame) ↔ ((ps : List Pdu) → WellFormed s ps → ⊥)
  -- there is no other refusal, and a refused list is empty
  pub refused_empty : (x : Refusal) → r ≡ Err x → (x ≡ BadFrame) × Listed s [] r
  -- a well-formed frame is read, and the list has its PDUs
  pub lists_frame : (ps : List Pdu) → WellFormed s ps → IsOk r × Listed s ps r
  -- what is read is a well-formed frame of the PDUs in the list
  pub frame_listed : Bytes s → IsOk r → (ps : List Pdu) × WellFormed s ps × Listed s ps r
