-- A call on strings gives plain ASCII, no longer than its room, and what was plain is given as it was stored:
-- by induction on the bytes, and since every place found fits the room.
use Prim.Native.Nat.{ℕ, ◌≤◌}
use native.Mathlib.Omega.{arith}
use mathlib.Core.Path.{◌≡◌, refl}
use mathlib.Core.List.{List, [], ◌∷◌}
use mathlib.Core.Bool.{Bool, true, false}
use lib.ListN.{length, get_or}
use lib.Dec.{eqb, ltb}
use borrow.Author.Tests.{lt-ltb, ne_eqb, ltb-true, eqb-false}
use Rattle.refusal.specs.Said.{Said, gives, absent, refuses, on2, pick}
use Rattle.wire.specs.Bytes.{span}
use Rattle.wire.proofs.Laws.{length-span}
use Rattle.strings.specs.Strings.{sought_at, ascii_end, question_mark, ascii, shown, text_said, fits, bounded, text_for, string_said}
use Rattle.strings.specs.Plain.{Plain}
use Rattle.strings.specs.Answers.{Small}
use Rattle.strings.proofs.Laws.{length-shown, small_sought}

-- ---- what is shown

shown_plain : (l : List ℕ) → Plain (shown l)
unfolding shown Plain ascii
shown_plain [] = tt
shown_plain (b ∷ l) = go (eqb b 0) (ltb b ascii_end) refl refl (shown_plain l)
  where
    go : (t u : Bool) → eqb b 0 ≡ t → ltb b ascii_end ≡ u → Plain (shown l) → Plain (pick t (shown l) (pick u b question_mark ∷ shown l))
    go true u z a h = h
    go false true z a h =
        let n : b ≡ 0 → ⊥ = eqb-false b 0 z in
        (omega arith, ltb-true b ascii_end a, h)
    go false false z a h = (omega arith, omega arith, h)

pub plain_shown : (l : List ℕ) → Plain l → shown l ≡ l
unfolding shown Plain ascii
plain_shown [] h = refl
plain_shown (b ∷ l) h =
    let n : eqb b 0 ≡ false = ne_eqb b 0 (λ z. omega (arith, h.0)) in
    rw (n, lt-ltb b ascii_end h.1, plain_shown l h.2)

-- ---- what is given

text_given : (image : List ℕ) (k : ℕ) (place : Said) (text : List ℕ) → Small k place → text_for image k place ≡ gives text → Plain text × (length text ≤ k)
unfolding text_for bounded text_said on2
text_given image k place text s e = go (fits image k) place s e
  where
    stored : (p n : ℕ) → n ≤ k → gives (shown (span image p n)) ≡ gives text → Plain text × (length text ≤ k)
    stored p n h e =
        let q : shown (span image p n) ≡ text = cc in
        rw (← q) (shown_plain (span image p n), omega (arith, length-shown (span image p n), length-span image p n))

    never : {n : ℕ} {v : List ℕ} → refuses n v ≡ gives text → Plain text × (length text ≤ k)
    never e = let z : ◌≡◌ {A = ℕ} 0 1 = cc in absurd (omega arith)

    go : (t : Bool) (place : Said) → Small k place → pick t (on2 place (λ p n. gives (shown (span image p n)))) (refuses 14 []) ≡ gives text → Plain text × (length text ≤ k)
    go true (gives l) s e = stored (get_or l 0 0) (get_or l 1 0) s.0 e
    go true absent s e = let z : ◌≡◌ {A = ℕ} 0 1 = cc in absurd (omega arith)
    go true (refuses n v) s e = never e
    go false place s e = never e

-- the string of an index is plain and fits its room
pub string_given : (image : List ℕ) (index k : ℕ) (text : List ℕ) → string_said image index k ≡ gives text → Plain text × (length text ≤ k)
unfolding string_said
string_given image index k text e = text_given image k (sought_at image index k) text (small_sought image index k) e
