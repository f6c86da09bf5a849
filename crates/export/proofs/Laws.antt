-- Laws of what is told: what says the same is told the same, so an export's proof shows only that its values are the answer's.
use Prim.Native.Nat.{ℕ, ◌≤◌, ◌<◌, min}
use mathlib.Core.Path.{◌≡◌, refl, sym, ap, ◌∙◌}
use native.Mathlib.Omega.{arith}
use lib.ListN.{length, take, length-take}
use mathlib.Core.Bool.{Bool, true, false}
use mathlib.Core.List.{List, [], ◌∷◌, ◌++◌}
use borrow.Author.Tests.{lt-ltb, le-ltb}
use Rattle.refusal.specs.Said.{Said, gives, absent, refuses, pick}
use Rattle.created_frame.specs.declared.Builder.{Builder}
use Rattle.pdu.specs.Pdu.{frame_header_bytes}
use Rattle.pdu.specs.Answers.{header_said}
use Rattle.wire.specs.Bytes.{bit, laid}
use Rattle.wire.proofs.Laws.{laid_none}
use Rattle.created_frame.specs.Answers.{state_values}
use Rattle.export.proofs.Flat.{laid_on}
use Rattle.export.specs.Told.{code_of, row_over, state_over, bytes_over, header_told}

-- what says the same is told the same
pub told : (s t : Said) (r : ℕ) (before after : List ℕ) → s ≡ t → (r ≡ code_of s) × (after ≡ row_over before s)
    → (r ≡ code_of t) × (after ≡ row_over before t)
told s t r before after e h = (h.0 ∙ ap code_of e, h.1 ∙ ap (row_over before) e)

-- .. also beside what else is lent
pub told_beside : (X : Type 0) (s t : Said) (r : ℕ) (before after : List ℕ) → X → s ≡ t → (r ≡ code_of s) × (after ≡ row_over before s)
    → (r ≡ code_of t) × (X × (after ≡ row_over before t))
told_beside X s t r before after x e h = (h.0 ∙ ap code_of e, (x, h.1 ∙ ap (row_over before) e))

-- .. and with the builder's state
pub state-told : (s t : Said) (b d : Builder) (i j : ℕ) (before after : List ℕ) → s ≡ t → (b ≡ d) × (i ≡ j) → after ≡ state_over before b i s
    → after ≡ state_over before d j t
state-told s t b d i j before after e f h = rw (← e, ← f.0, ← f.1) h

-- bytes that are lent
pub told-bytes : (s t : Said) (r : ℕ) (xs ys before after : List ℕ) → s ≡ t → xs ≡ ys → (r ≡ code_of s) × (after ≡ bytes_over before s xs)
    → (r ≡ code_of t) × (after ≡ bytes_over before t ys)
told-bytes s t r xs ys before after e f h = (h.0 ∙ ap code_of e, rw (← e, ← f) h.1)

-- a frame's header where there is no room for it, and where there is
pub header-short : (used room : ℕ) → room < frame_header_bytes → refuses 14 [] ≡ header_told used room
unfolding header_told
header-short used room h = rw (lt-ltb room frame_header_bytes h)

pub header-room : (used room : ℕ) → frame_header_bytes ≤ room → header_said used ≡ header_told used room
unfolding header_told
header-room used room h = rw (le-ltb room frame_header_bytes h)

-- ---- a refusal

-- its values are no more than its row has
pub few_values : (n : ℕ) (xs vs : List ℕ) → n ≡ length vs → take n xs ≡ vs → n ≤ length xs
few_values n xs vs c e =
    let a : length (take n xs) ≡ length vs = ap length e in
    let b : length (take n xs) ≡ min n (length xs) = length-take n xs in
    omega arith

-- ---- a push

-- what is given is laid behind the state and the next index
pub state_laid : (row before after kept vs : List ℕ) (b : Builder) (next : ℕ) → kept ≡ state_values b ++ next ∷ [] → before ≡ laid row 0 kept → after ≡ laid before 4 vs
    → after ≡ state_over row b next (gives vs)
unfolding state_over
state_laid row before after kept vs b next k e f = f ∙ rw (e, k) (laid_on row 0 (state_values b ++ next ∷ []) vs)
