-- The reader's answer and the grammar: it says 12 exactly where the bytes are no well-formed frame, and else lists that frame's PDUs. By pdu's grammar, both ways.
use mathlib.Core.Path.{◌≡◌, refl, ap, ◌∙◌}
use Prim.Native.Nat.{ℕ}
use native.Mathlib.Omega.{arith}
use mathlib.Core.List.{List, [], map}
use Rattle.refusal.specs.Said.{Said, gives, refuses}
use Rattle.wire.specs.Bytes.{Bytes}
use Rattle.pdu.specs.Pdu.{Pdu}
use Rattle.pdu.specs.Read.{Reading, read, refused, read_of, payload_of, shown_all, pdus_of}
use Rattle.pdu.specs.Grammar.{WellFormed}
use Rattle.pdu.proofs.Reading.{well-read, well-payloads}
use Rattle.pdu.proofs.Grammar.{accepted-well, broken_refused, refused_broken}
use Rattle.pdu.proofs.Bench.{bench_frame, bench_pdus, bench_read}
use Rattle.frame_reader.specs.Answers.{read_said}

-- what the reader says of s, and the PDUs that it lists
abbrev pub says : List ℕ → Said
says s = read_said (read_of s)

abbrev pub Lists : List ℕ → List Pdu → Type 0
Lists s ps = (pdus_of (read_of s) ≡ shown_all 2 ps) × (map (payload_of s) (pdus_of (read_of s)) ≡ map (λ (p : Pdu). p.payload) ps)

said_read : (v : Reading) → read_said v ≡ gives [] → v ≡ read (pdus_of v)
unfolding read_said
said_read refused e = let z : ◌≡◌ {A = ℕ} 0 1 = cc in absurd (omega arith)
said_read (read vs) e = refl

said-refused : (v : Reading) → read_said v ≡ refuses 12 [] → v ≡ refused
unfolding read_said
said-refused refused e = refl
said-refused (read vs) e = let z : ◌≡◌ {A = ℕ} 0 1 = cc in absurd (omega arith)

-- what is accepted is a well-formed frame with the PDUs listed
pub accepted : (s : List ℕ) → Bytes s → says s ≡ gives [] → (ps : List Pdu) × WellFormed s ps × Lists s ps
accepted s bytes e =
    let w = accepted-well s bytes (pdus_of (read_of s)) (said_read (read_of s) e) in
    (w.0, w.1, (w.2, w.3))

-- no well-formed frame is refused, and its PDUs are listed
pub well-accepted : (s : List ℕ) (ps : List Pdu) → WellFormed s ps → (says s ≡ gives []) × Lists s ps
unfolding read_said
well-accepted s ps w =
    let r = well-read s ps w in
    (ap read_said r, (ap pdus_of r, ap (λ (v : Reading). map (payload_of s) (pdus_of v)) r ∙ well-payloads s ps w))

-- what is refused is no frame, and what is no frame is refused with 12
pub refused_none : (s : List ℕ) → says s ≡ refuses 12 [] → (ps : List Pdu) → WellFormed s ps → ⊥
refused_none s e = refused_broken s (said-refused (read_of s) e)

pub none-refused : (s : List ℕ) → Bytes s → ((ps : List Pdu) → WellFormed s ps → ⊥) → says s ≡ refuses 12 []
unfolding read_said
none-refused s bytes none = ap read_said (broken_refused s bytes none)

-- the frame of the bench (RULES, bench)
pub bench_accepted : (says bench_frame ≡ gives []) × (pdus_of (read_of bench_frame) ≡ shown_all 2 bench_pdus)
unfolding read_said
bench_accepted = (ap read_said bench_read, ap pdus_of bench_read)
