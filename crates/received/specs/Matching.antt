-- What is found of a frame that came back, PDU by PDU, against the handles that were kept (RULES, received). Definitions only.
use Rattle.std.specs.Prelude.{ℕ, suc, ◌+◌, ◌%◌, List, [], ◌∷◌, length, get_or, eqb, Result, Ok, Err, ⊤}
use Rattle.refusal.specs.Said.{pick}
use Rattle.refusal.specs.declared.Refusal.{Refusal}
use Rattle.refusal.specs.declared.Refusal.TheVariants.{BadArgument, WrongFrame, WrongCommand, WrongIndex, WrongLength}
use Rattle.wire.specs.Bytes.{le16}
use Rattle.pdu.specs.declared.PduFields.{PduFields}
use Rattle.pdu.specs.Pdu.{pdu_overhead, frame_header_bytes, flags_at}
use Rattle.pdu.specs.Read.{length_of, pdu_end, rightly, headed, seen_at}
use Rattle.created_frame.specs.declared.PduResponseHandle.{PduResponseHandle}
use Rattle.received.specs.declared.ReceivedPdu.{ReceivedPdu}

-- the numbers of a handle
abbrev pub handle_numbers : ℕ
handle_numbers = 4

-- the handles in a row of numbers, which has them as a push says them: start, whole size, index, command; what is over makes none
unfoldable pub handles_in : List ℕ → List PduResponseHandle
handles_in [] = []
handles_in (a ∷ []) = []
handles_in (a ∷ b ∷ []) = []
handles_in (a ∷ b ∷ c ∷ []) = []
handles_in (start ∷ size ∷ index ∷ command ∷ row) = record { start = start; size = size; index = index; command = command } ∷ handles_in row

-- .. the handle of four numbers
abbrev pub handle_of : List ℕ → PduResponseHandle
handle_of c = record { start = get_or c 0 0; size = get_or c 1 0; index = get_or c 2 0; command = get_or c 3 0 }

-- what is found of one PDU: it is right, or its first fault
abbrev pub Verdict : Type 0
Verdict = Result ⊤ Refusal

abbrev pub right : Verdict
right = Ok tt

-- what is given of a PDU: where its payload lies, how long it is, and its working counter
abbrev pub came_back : PduFields → ReceivedPdu
came_back v = record { place = v.place; len = v.len; counter = v.counter }

-- the k-th PDU's command, index and length against its handle's; a handle's start isn't compared
unfoldable pub compared : PduResponseHandle → ℕ → ℕ → ℕ → ℕ → Verdict
compared h command index len k =
    pick (eqb command h.command)
    (pick (eqb index h.index) (pick (eqb (len + pdu_overhead) h.size) right (Err (WrongLength k))) (Err (WrongIndex k)))
    (Err (WrongCommand k))

-- .. after its end; the handles are those from the k-th on, and a PDU without one is a frame's fault too
unfoldable pub judged : List PduResponseHandle → List ℕ → ℕ → ℕ → ℕ → Verdict
judged [] s i end k = Err (WrongFrame k)
judged (h ∷ hs) s i end k =
    let v = seen_at s i in
    pick (rightly i end (le16 s (i + flags_at))) (compared h v.command v.index v.len k) (Err (WrongFrame k))

-- what is found of a frame: a fault, or what came back of its PDUs
pub data Receiving : Type 0 where
  refused : Refusal → Receiving
  got : List ReceivedPdu → Receiving

abbrev pub unless : Verdict → Receiving → Receiving
unless (Ok d) r = r
unless (Err x) r = refused x

abbrev pub more : ReceivedPdu → Receiving → Receiving
more p (refused x) = refused x
more p (got ps) = got (p ∷ ps)

-- the PDUs of s from i to `end`, the k-th first, against the handles from the k-th on: the first fault counts; where the PDUs end, a handle more has no PDU that ends rightly
unfoldable pub matched_at : List PduResponseHandle → List ℕ → ℕ → ℕ → ℕ → Receiving
matched_at [] s i end k = pick (eqb i end) (got []) (refused (WrongFrame k))
matched_at (h ∷ hs) s i end k =
    unless (judged (h ∷ hs) s i end k) (more (came_back (seen_at s i)) (matched_at hs s (pdu_end i (le16 s (i + flags_at))) end (suc k)))

-- a whole frame
unfoldable pub matched : List PduResponseHandle → List ℕ → Receiving
matched hs s = pick (headed s) (matched_at hs s frame_header_bytes (length_of (le16 s 0) + frame_header_bytes) 0) (refused (WrongFrame 0))

-- .. for a row of handles; numbers that are no row of handles are 14
unfoldable pub received_of : List ℕ → List ℕ → Receiving
received_of row s = pick (eqb (length row % handle_numbers) 0) (matched (handles_in row) s) (refused BadArgument)
