-- An answer is known from what is said of it and its list, so the promise of `read_frame` allows one result.
use mathlib.Core.Path.{◌≡◌, refl, sym, ap, ◌∙◌}
use Prim.Native.Nat.{ℕ}
use mathlib.Core.List.{List, []}
use Rattle.std.specs.Prelude.{Result, Ok, Err, IsOk, ⊤}
use Rattle.refusal.specs.Said.{gives, number_of, values_of, said_of}
use Rattle.refusal.specs.declared.Refusal.{Refusal}
use Rattle.refusal.proofs.Unique.{gives_none, done_unique}
use Rattle.pdu.specs.declared.PduFields.{PduFields}
use Rattle.pdu.specs.Read.{Reading}
use Rattle.frame_reader.specs.Answers.{said_frame, count_of, pdus_in}
use Rattle.frame_reader.specs.declared.FrameRead.{FrameRead}
use Rattle.frame_reader.proofs.Laws.{Says}

-- a refusal is known from what it says
pub same_refusal : (x y : Refusal) → said_of x ≡ said_of y → x ≡ y
same_refusal x y e =
    let d : ◌≡◌ {A = Result ⊤ Refusal} (Err x) (Err y) = done_unique (Err x) (Err y) (said_of y) e refl in
    cc

-- what is said as a frame is one
pub is-frame : (r : Result FrameRead Refusal) → said_frame r ≡ gives [] → IsOk r
is-frame (Ok f) e = refl
is-frame (Err x) e = absurd (gives_none (number_of x) (values_of x) [] e)

pub frame_unique : (a b : Result FrameRead Refusal) → said_frame a ≡ said_frame b → count_of a ≡ count_of b → pdus_in a ≡ pdus_in b → a ≡ b
frame_unique (Ok f) (Ok g) e n l =
    ap (λ (z : ℕ). Ok (record { count = z; pdus = f.pdus })) n ∙ ap (λ (z : List PduFields). Ok (record { count = g.count; pdus = z })) l
frame_unique (Ok f) (Err y) e n l = absurd (gives_none (number_of y) (values_of y) [] (sym e))
frame_unique (Err x) (Ok g) e n l = absurd (gives_none (number_of x) (values_of x) [] e)
frame_unique (Err x) (Err y) e n l = ap Err (same_refusal x y e)

-- any two results that `read_frame` may give are equal
pub read-frame_unique : (v : Reading) (a b : Result FrameRead Refusal) → Says v a → Says v b → a ≡ b
read-frame_unique v a b p q = frame_unique a b (p.0 ∙ sym q.0) (p.1.0 ∙ sym q.1.0) (p.1.1 ∙ sym q.1.1)
