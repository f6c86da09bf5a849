-- Laws of `walked_of`, `placed`, `padded` and `listing`: one for each way out of the cycle, and from the places that it leaves to the answer.
use mathlib.Core.Path.{◌≡◌, refl, ap, ◌∙◌, sym}
use Rattle.std.specs.Prelude.{Option, Some, None, Result, Ok, Err}
use Prim.Native.Nat.{ℕ, suc, ◌+◌, ◌-◌, ◌≤◌, ◌<◌}
use native.Mathlib.Omega.{arith}
use native.Mathlib.Numerals.{add-one}
use native.Mathlib.Nat.{add-suc, suc-add, add-zero}
use mathlib.Core.List.{List, [], ◌∷◌, ◌++◌, append_assoc, map, map-append}
use lib.ListN.{length, set, take, drop, get_or, replicate, take-append-drop, length-take, length-map}
use lib.Seq.{take-suc, set_at, take_at}
use Rattle.pdu.specs.declared.PduFields.{PduFields}
use Rattle.refusal.specs.Said.{pick}
use Rattle.wire.specs.Bytes.{le16}
use mathlib.Core.Bool.{Bool, true, false}
use lib.Dec.{eqb}
use Rattle.pdu.specs.Read.{Places, bad, good, before, length_of, headed, places_at, seen_at, frame_of, Reading, seen_all, read_of, pdus_of}
use Rattle.pdu.proofs.Laws.{Few, few-places}
use Rattle.refusal.specs.declared.Refusal.{Refusal}
use Rattle.refusal.specs.declared.Refusal.TheVariants.{BadFrame}
use Rattle.frame_reader.specs.declared.FrameRead.{FrameRead}
use Rattle.frame_reader.specs.Answers.{said_frame, count_of, pdus_in, read_said, no_pdu, unused, padded}
use Rattle.frame_reader.specs.Walk.{walked_of, placed, stored, listing}

-- ---- the ways out of the cycle: what it says, and the places

module _ (k : ℕ) (out : List ℕ) where
  pub walk_bad : (None ≡ walked_of k bad) × (out ≡ placed k bad out)
  unfolding walked_of placed
  walk_bad = (refl, refl)

  pub walk_last : (p : ℕ) → (Some (k + 1) ≡ walked_of k (good (p ∷ []))) × (set out k p ≡ placed k (good (p ∷ [])) out)
  unfolding walked_of placed stored
  walk_last p = (refl, refl)

-- what is behind is bad, and so is the whole
pub walk_behind : (R : Places) (k p : ℕ) (w : Option ℕ) (out after : List ℕ) → w ≡ None → w ≡ walked_of (k + 1) R → after ≡ placed (k + 1) R out
    → (w ≡ walked_of k (before p R)) × (after ≡ placed k (before p R) out)
unfolding walked_of placed
walk_behind bad k p w out after e q r = (q, r)
walk_behind (good l) k p w out after e q r =
    let z : ◌≡◌ {A = ℕ} 0 1 = cc in absurd (omega arith)

-- what is behind is good, and p comes before it
pub walk_more : (R : Places) (k p n : ℕ) (w : Option ℕ) (out after : List ℕ) → w ≡ Some n → w ≡ walked_of (k + 1) R → after ≡ placed (k + 1) R out
    → (w ≡ walked_of k (before p R)) × (set after k p ≡ placed k (before p R) out)
unfolding walked_of placed stored
walk_more bad k p n w out after e q r =
    let z : ◌≡◌ {A = ℕ} 0 1 = cc in absurd (omega arith)
walk_more (good l) k p n w out after e q r =
    let s : k + 1 + length l ≡ k + suc (length l) = omega arith in
    (q ∙ ap Some s, ap (λ (x : List ℕ). set x k p) r)

-- ---- the list

-- one PDU more
pub padded-more : (F : ℕ → PduFields) (P : List ℕ) (k : ℕ) (p : PduFields) → k < length P → k < 170 → p ≡ F (get_or P k 0)
    → set (padded (map F (take k P))) k p ≡ padded (map F (take (k + 1) P))
unfolding padded unused
padded-more F P k p h b e =
    let s : 170 - k ≡ suc (170 - (k + 1)) = omega arith in
    let len : length (map F (take k P)) ≡ k = length-map (take k P) F ∙ simp length-take (omega arith) in
    let next : length (map F (take (k + 1) P)) ≡ k + 1 = length-map (take (k + 1) P) F ∙ simp length-take (omega arith) in
    rw (next, len, s)
    (set_at (map F (take k P)) no_pdu (replicate (170 - (k + 1)) no_pdu) p k len
    ∙ rw (add-one, take-suc P k 0 h, map-append, append_assoc, e) refl)

-- places stored, as a cut and a paste
stored_split : (l : List ℕ) (k : ℕ) (out : List ℕ) → k + length l ≤ length out → stored k l out ≡ take k out ++ (l ++ drop (k + length l) out)
unfolding stored
stored_split [] k out h = rw add-zero (sym (take-append-drop k out))
stored_split (p ∷ l) k out h =
    let lt : k < length out = omega arith in
    let len : length (take k out) ≡ k = simp length-take (omega arith) in
    rw (stored_split l (k + 1) out (omega arith), add-one, suc-add, add-suc, take-suc out k 0 lt, append_assoc)
    (set_at (take k out) (get_or out k 0) (l ++ drop (suc (k + length l)) out) p k len)

-- ---- from the walk to the answer

few_more : (R : Places) (a : ℕ) → Few R a → a ≤ 2047 → Few R 2047
unfolding Few
few_more bad a f h = tt
few_more (good l) a f h = omega arith

-- a frame has few enough PDUs for the list
few_frame : (s : List ℕ) → Few (frame_of s) 2047
unfolding frame_of Few
few_frame s = go (headed s) (eqb n 0)
  where
    n : ℕ
    n = length_of (le16 s 0)

    go : (t u : Bool) → Few (pick t (pick u (good []) (places_at (length s) s 2 (n + 2))) bad) 2047
    go true true = omega arith
    go true false = few_more (places_at (length s) s 2 (n + 2)) (n + 2 - 2) (few-places (length s) s 2 (n + 2)) (omega arith)
    go false u = tt

-- the answer by places says what is read
abbrev pub Says : Reading → Result FrameRead Refusal → Type 0
Says v r = (said_frame r ≡ read_said v) × ((count_of r ≡ length (pdus_of v)) × (pdus_in r ≡ padded (pdus_of v)))

says-places : (s : List ℕ) (R : Places) → Says (seen_all s R) (listing s R)
unfolding listing read_said
says-places s bad = (refl, (refl, refl))
says-places s (good l) = (refl, (sym (length-map l (seen_at s)), refl))

pub says-read : (s : List ℕ) (r : Result FrameRead Refusal) → r ≡ listing s (frame_of s) → Says (read_of s) r
unfolding read_of
says-read s r e = rw e (says-places s (frame_of s))

module _ (s : List ℕ) (w : Option ℕ) (said : w ≡ walked_of 0 (frame_of s)) where
  -- what the walk finds has room in the list, and listing it says what is read
  pub read_found : (m : ℕ) (out after : List ℕ) → length out ≡ 170 → after ≡ placed 0 (frame_of s) out → w ≡ Some m
      → (m ≤ 170) × ((r : FrameRead) → Ok r ≡ listing s (good (take m after)) → Says (read_of s) (Ok r))
  unfolding walked_of placed Few
  read_found m out after len r e = go (frame_of s) refl (few_frame s) said r
    where
      go : (R : Places) → frame_of s ≡ R → Few R 2047 → w ≡ walked_of 0 R → after ≡ placed 0 R out
          → (m ≤ 170) × ((r : FrameRead) → Ok r ≡ listing s (good (take m after)) → Says (read_of s) (Ok r))
      go bad is f q r' = let z : ◌≡◌ {A = ℕ} 0 1 = cc in absurd (omega arith)
      go (good l) is f q r' =
          let e0 : m ≡ 0 + length l = cc in
          let em : m ≡ length l = omega arith in
          let lm : take m after ≡ l = rw (r', stored_split l 0 out (omega arith)) (take_at l (drop (0 + length l) out) m (sym em)) in
          (omega arith, λ r listed. says-read s (Ok r) (listed ∙ ap (λ (x : List ℕ). listing s (good x)) lm ∙ ap (listing s) (sym is)))

  -- where it finds a fault, refusal 12 says it
  pub read_fault : w ≡ None → Says (read_of s) (Err BadFrame)
  unfolding walked_of listing
  read_fault e = go (frame_of s) refl said
    where
      go : (R : Places) → frame_of s ≡ R → w ≡ walked_of 0 R → Says (read_of s) (Err BadFrame)
      go bad is q = says-read s (Err BadFrame) (ap (listing s) (sym is))
      go (good l) is q = let z : ◌≡◌ {A = ℕ} 0 1 = cc in absurd (omega arith)
