-- An answer is known from what it says, by an inverse: so the promise on a frame's header allows one result.
use mathlib.Core.Path.{◌≡◌, refl, sym, ap, ◌∙◌}
use mathlib.Core.List.{List}
use Prim.Native.Nat.{ℕ}
use Rattle.std.specs.Prelude.{Result, Ok, Err}
use Rattle.refusal.specs.Said.{Said, gives, absent, refuses}
use Rattle.refusal.specs.declared.Refusal.{Refusal}
use Rattle.refusal.proofs.Unique.{refusal_of, back}
use Rattle.pdu.specs.Answers.{said_header, header_bytes_of, header_said, header_left}

-- the answer, from what it says and from its bytes
unfoldable header_from : Said → List ℕ → Result (List ℕ) Refusal
header_from (gives l) b = Ok b
header_from absent b = Ok b
header_from (refuses n l) b = Err (refusal_of n l)

header-back : (r : Result (List ℕ) Refusal) → header_from (said_header r) (header_bytes_of r) ≡ r
unfolding header_from
header-back (Ok b) = refl
header-back (Err x) = ap Err (back x)

-- any two results that `frame_header` may give are equal
pub frame-header_unique : (used : ℕ) (a b : Result (List ℕ) Refusal) → (said_header a ≡ header_said used) × (header_bytes_of a ≡ header_left used)
    → (said_header b ≡ header_said used) × (header_bytes_of b ≡ header_left used) → a ≡ b
frame-header_unique used a b p q =
    let e : said_header a ≡ said_header b = p.0 ∙ sym q.0 in
    let f : header_bytes_of a ≡ header_bytes_of b = p.1 ∙ sym q.1 in
    sym (header-back a) ∙ ap (λ (s : Said). header_from s (header_bytes_of a)) e ∙ ap (λ (l : List ℕ). header_from (said_header b) l) f ∙ header-back b
