-- What `read_frame` does, said of its own result: the contract's equations carry what is read over to the answer and the list, and `Exactly` says what is read.
use mathlib.Core.Path.{◌≡◌, refl, sym, ap, ◌∙◌}
use Prim.Native.Nat.{ℕ, ◌-◌}
use mathlib.Core.List.{List, [], map}
use lib.ListN.{length, take, drop}
use lib.Seq.{take_at, drop_at}
use Rattle.std.specs.Prelude.{Result, Ok, Err, IsOk}
use Rattle.refusal.specs.Said.{gives, refuses, number_of, values_of, said_of}
use Rattle.refusal.specs.declared.Refusal.{Refusal}
use Rattle.refusal.specs.declared.Refusal.TheVariants.{BadFrame}
use Rattle.refusal.proofs.Unique.{gives_none}
use Rattle.pdu.specs.declared.PduFields.{PduFields}
use Rattle.pdu.specs.Pdu.{pdus_most, Pdu}
use Rattle.pdu.specs.Read.{Reading, read, refused, read_of, payload_of, shown_all, pdus_of}
use Rattle.pdu.proofs.Reading.{shown-length}
use Rattle.frame_reader.specs.declared.FrameRead.{FrameRead}
use Rattle.frame_reader.specs.Answers.{said_frame, count_of, pdus_in, read_said, unused, padded}
use Rattle.frame_reader.specs.Reads.{Listed, Reads}
use Rattle.frame_reader.proofs.Laws.{Says}
use Rattle.frame_reader.proofs.Unique.{is-frame, same_refusal}
use Rattle.frame_reader.proofs.Exactly.{says, Lists, accepted, well-accepted, refused_none, none-refused}

module _ (s : List ℕ) (r : Result FrameRead Refusal) (met : Says (read_of s) r) where
  abbrev vs : List PduFields
  vs = pdus_of (read_of s)

  counted : count_of r ≡ length vs
  counted = met.1.0

  -- ---- the list

  taken_is : take (count_of r) (pdus_in r) ≡ vs
  unfolding padded
  taken_is = rw met.1.1 (take_at vs (unused (pdus_most - length vs)) (count_of r) (sym counted))

  rest-is : drop (count_of r) (pdus_in r) ≡ unused (pdus_most - count_of r)
  unfolding padded
  rest-is =
      ap (λ (l : List PduFields). drop (count_of r) l) met.1.1
      ∙ drop_at vs (unused (pdus_most - length vs)) (count_of r) (sym counted)
      ∙ ap (λ (n : ℕ). unused (pdus_most - n)) (sym counted)

  listed : (ps : List Pdu) → Lists s ps → Listed s ps r
  listed ps l =
      record {
        count_is = counted ∙ ap length l.0 ∙ shown-length 2 ps;
        fields = taken_is ∙ l.0;
        payloads = ap (λ (l : List PduFields). map (payload_of s) l) taken_is ∙ l.1;
        rest_unused = rest-is;
      }

  -- ---- the answer

  frame-if : says s ≡ gives [] → IsOk r
  frame-if e = is-frame r (met.0 ∙ e)

  says_frame : IsOk r → says s ≡ gives []
  says_frame k = sym met.0 ∙ go r k
    where
      go : (r : Result FrameRead Refusal) → IsOk r → said_frame r ≡ gives []
      go (Ok f) k = refl
      go (Err x) k = cc

  refused-if : says s ≡ refuses 12 [] → r ≡ Err BadFrame
  refused-if e = go r (met.0 ∙ e)
    where
      go : (r : Result FrameRead Refusal) → said_frame r ≡ refuses 12 [] → r ≡ Err BadFrame
      go (Ok f) e = absurd (gives_none 12 [] [] (sym e))
      go (Err x) e = ap Err (same_refusal x BadFrame e)

  says_of : (x : Refusal) → r ≡ Err x → says s ≡ said_of x
  says_of x p = sym met.0 ∙ ap said_frame p

  -- what is refused was no frame
  nothing_read : (x : Refusal) → r ≡ Err x → read_of s ≡ refused
  unfolding read_said
  nothing_read x p = go (read_of s) refl
    where
      go : (v : Reading) → read_of s ≡ v → read_of s ≡ refused
      go refused e = e
      go (read us) e = absurd (gives_none (number_of x) (values_of x) [] (sym (says_of x p) ∙ ap read_said e))

  none-listed : read_of s ≡ refused → Lists s []
  unfolding shown_all
  none-listed e = (ap pdus_of e, ap (λ (v : Reading). map (payload_of s) (pdus_of v)) e)

  says-12 : read_of s ≡ refused → says s ≡ refuses 12 []
  unfolding read_said
  says-12 e = ap read_said e

  empty : (x : Refusal) → r ≡ Err x → (x ≡ BadFrame) × Listed s [] r
  empty x p =
      let e = nothing_read x p in
      let q : ◌≡◌ {A = Result FrameRead Refusal} (Err x) (Err BadFrame) = sym p ∙ refused-if (says-12 e) in
      (let z : x ≡ BadFrame = cc in z, listed [] (none-listed e))

  -- THE THEOREM
  pub reads : Reads s r
  reads =
      record {
        answers_12 = λ known. (λ p. refused_none s (says_of BadFrame p), λ none. refused-if (none-refused s known none));
        refused_empty = empty;
        lists_frame = λ ps w. let a = well-accepted s ps w in (frame-if a.0, listed ps a.1);
        frame_listed = λ known p. let a = accepted s known (says_frame p) in (a.0, a.1, listed a.0 a.2);
      }
