-- Laws of the definitions: the handles in a row, a verdict, the walk's steps and its end, the list that grows. One for each way that a test goes.
use mathlib.Core.Path.{◌≡◌, refl, ap, sym, ◌∙◌}
use Rattle.std.specs.Prelude.{Result, Ok, Err}
use Rattle.std.specs.Simd.{first_chunks}
use Rattle.std.proofs.lemmas.List.{drop_all}
use mathlib.Core.Bool.{Bool, true, false}
use Prim.Native.Nat.{ℕ, suc, ◌+◌, ◌-◌, ◌*◌, ◌%◌, ◌/◌, ◌≤◌, ◌<◌}
use native.Mathlib.Omega.{arith}
use native.Mathlib.Numerals.{add-one}
use mathlib.Core.List.{List, [], ◌∷◌, ◌++◌, map, append_assoc, append-nil}
use lib.ListN.{length, set, get_or, drop, replicate, length-append, length-drop, length-map, get_or-map}
use lib.Seq.{drop-cons, set_at}
use borrow.Author.Tests.{eq-eqb, ne_eqb}
use Rattle.refusal.specs.declared.Refusal.{Refusal}
use Rattle.refusal.specs.declared.Refusal.TheVariants.{BadArgument, WrongFrame}
use Rattle.wire.specs.Bytes.{byte_at, le16}
use Rattle.pdu.specs.Read.{length_of, pdu_end, rightly, headed, seen_at}
use Rattle.pdu.proofs.Laws.{rightly-short, rightly-fits}
use Rattle.created_frame.specs.declared.PduResponseHandle.{PduResponseHandle}
use Rattle.received.specs.declared.ReceivedPdu.{ReceivedPdu}
use Rattle.received.specs.declared.Received.{Received}
use Rattle.received.specs.Matching.{Verdict, right, handles_in, handle_of, came_back, compared, judged, Receiving, refused, got, more, matched_at, matched, received_of}
use Rattle.received.specs.Answers.{none_pdu, unused, padded, told}

-- ---- the handles in a row

-- the numbers of the k-th
abbrev pub handle_at : List ℕ → ℕ → PduResponseHandle
handle_at row k =
    record { start = get_or row (4 * k) 0; size = get_or row (4 * k + 1) 0; index = get_or row (4 * k + 2) 0; command = get_or row (4 * k + 3) 0 }

few-none : (l : List ℕ) → length l < 4 → handles_in l ≡ []
unfolding handles_in
few-none [] h = refl
few-none (a ∷ []) h = refl
few-none (a ∷ b ∷ []) h = refl
few-none (a ∷ b ∷ c ∷ []) h = refl
few-none (a ∷ b ∷ c ∷ d ∷ l) h = absurd (let z : ⊥ = omega arith in z)

module _ (row : List ℕ) (k : ℕ) where
  pub handles_none : length row < 4 * k + 4 → handles_in (drop (4 * k) row) ≡ []
  handles_none h = few-none (drop (4 * k) row) (simp length-drop (omega arith))

  pub handles_some : 4 * k + 4 ≤ length row → handles_in (drop (4 * k) row) ≡ handle_at row k ∷ handles_in (drop (4 * (k + 1)) row)
  unfolding handles_in
  handles_some h =
      let n = 4 * k in
      let a : suc n ≡ n + 1 = omega arith in
      let b : suc (n + 1) ≡ n + 2 = omega arith in
      let c : suc (n + 2) ≡ n + 3 = omega arith in
      let d : suc (n + 3) ≡ 4 * (k + 1) = omega arith in
      let p0 : n < length row = omega arith in
      let p1 : n + 1 < length row = omega arith in
      let p2 : n + 2 < length row = omega arith in
      let p3 : n + 3 < length row = omega arith in
      let s3 : drop (n + 3) row ≡ get_or row (n + 3) 0 ∷ drop (4 * (k + 1)) row = drop-cons row (n + 3) 0 p3 ∙ rw d refl in
      let s2 : drop (n + 2) row ≡ get_or row (n + 2) 0 ∷ get_or row (n + 3) 0 ∷ drop (4 * (k + 1)) row =
      drop-cons row (n + 2) 0 p2 ∙ rw c (ap (λ (z : List ℕ). get_or row (n + 2) 0 ∷ z) s3) in
      let s1 : drop (n + 1) row ≡ get_or row (n + 1) 0 ∷ get_or row (n + 2) 0 ∷ get_or row (n + 3) 0 ∷ drop (4 * (k + 1)) row =
      drop-cons row (n + 1) 0 p1 ∙ rw b (ap (λ (z : List ℕ). get_or row (n + 1) 0 ∷ z) s2) in
      let s0 : drop n row ≡ get_or row n 0 ∷ get_or row (n + 1) 0 ∷ get_or row (n + 2) 0 ∷ get_or row (n + 3) 0 ∷ drop (4 * (k + 1)) row =
      drop-cons row n 0 p0 ∙ rw a (ap (λ (z : List ℕ). get_or row n 0 ∷ z) s1) in
      ap handles_in s0

-- the handles of a row, four numbers at a time
pub chunks_handles : (row : List ℕ) → map handle_of (first_chunks 4 (length row / 4) row) ≡ handles_in row
unfolding handles_in
chunks_handles [] = refl
chunks_handles (a ∷ []) = refl
chunks_handles (a ∷ b ∷ []) = refl
chunks_handles (a ∷ b ∷ c ∷ []) = refl
chunks_handles (a ∷ b ∷ c ∷ d ∷ row) =
    let n : length (a ∷ b ∷ c ∷ d ∷ row) / 4 ≡ suc (length row / 4) = omega arith in
    rw n (ap (λ (l : List PduResponseHandle). handle_of (a ∷ b ∷ c ∷ d ∷ []) ∷ l) (chunks_handles row))

-- those from the k-th on
pub handle_here : (rows : List (List ℕ)) (k : ℕ) (d : List ℕ) → k < length rows → drop k (map handle_of rows) ≡ handle_of (get_or rows k d) ∷ drop (k + 1) (map handle_of rows)
handle_here rows k d lt =
    let more : k < length (map handle_of rows) = simp length-map lt in
    rw (add-one, ← get_or-map handle_of rows k d) (drop-cons (map handle_of rows) k (handle_of d) more)

pub handles_over : (rows : List (List ℕ)) (k : ℕ) → length rows ≤ k → drop k (map handle_of rows) ≡ []
handles_over rows k le = drop_all k (map handle_of rows) (simp length-map le)

-- ---- a verdict

-- command, index and length are the handle's
pub compared_same : (h : PduResponseHandle) (command index len k : ℕ) → command ≡ h.command → index ≡ h.index → len + 12 ≡ h.size → compared h command index len k ≡ right
unfolding compared
compared_same h command index len k a b c = rw (eq-eqb command h.command a, eq-eqb index h.index b, eq-eqb (len + 12) h.size c) refl

-- it does not end rightly
pub judged_end : (hs : List PduResponseHandle) (s : List ℕ) (i end k : ℕ) → rightly i end (le16 s (i + 6)) ≡ false → Err (WrongFrame k) ≡ judged hs s i end k
unfolding judged
judged_end [] s i end k r = refl
judged_end (h ∷ hs) s i end k r = rw r

module _ (row s : List ℕ) (i end k : ℕ) where
  abbrev hs : List PduResponseHandle
  hs = handles_in (drop (4 * k) row)

  -- it has no handle
  pub judged-none : length row < 4 * k + 4 → Err (WrongFrame k) ≡ judged hs s i end k
  unfolding judged
  judged-none h = rw (handles_none row k h)

  -- else the handle is compared
  pub judged-compared : (v : Verdict) → 4 * k + 4 ≤ length row → rightly i end (le16 s (i + 6)) ≡ true
      → v ≡ compared (record { start = 0; size = get_or row (4 * k + 1) 0; index = get_or row (4 * k + 2) 0; command = get_or row (4 * k + 3) 0 }) (byte_at s i) (byte_at s (i + 1)) (length_of (le16 s (i + 6))) k
      → v ≡ judged hs s i end k
  unfolding judged compared seen_at
  judged-compared v h r e = e ∙ rw (handles_some row k h, r)

  -- what is right has a handle and ends rightly
  pub right-ends : judged hs s i end k ≡ right → (4 * k + 4 ≤ length row) × (rightly i end (le16 s (i + 6)) ≡ true)
  right-ends e = go (rightly i end (le16 s (i + 6))) refl
    where
      none : length row < 4 * k + 4 → ⊥
      none h = let a = judged-none h in let z : ◌≡◌ {A = ℕ} 0 1 = cc in omega arith

      go : (b : Bool) → rightly i end (le16 s (i + 6)) ≡ b → (4 * k + 4 ≤ length row) × (rightly i end (le16 s (i + 6)) ≡ true)
      go true r = (omega (arith, none), r)
      go false r = let a = judged_end hs s i end k r in let z : ◌≡◌ {A = ℕ} 0 1 = cc in absurd (omega arith)

-- .. so it lies within the end
pub right-fits : (h : PduResponseHandle) (s : List ℕ) (i end k : ℕ) → judged (h ∷ []) s i end k ≡ right → pdu_end i (le16 s (i + 6)) ≤ end
right-fits h s i end k e = rightly-fits i end (le16 s (i + 6)) (go (rightly i end (le16 s (i + 6))) refl)
  where
    go : (b : Bool) → rightly i end (le16 s (i + 6)) ≡ b → rightly i end (le16 s (i + 6)) ≡ true
    go true r = r
    go false r = let a = judged_end (h ∷ []) s i end k r in let z : ◌≡◌ {A = ℕ} 0 1 = cc in absurd (omega arith)

-- what came back tells where the next PDU starts
pub next-is : (s : List ℕ) (i : ℕ) (p : ReceivedPdu) → p ≡ came_back (seen_at s i) → i + (12 + p.len) ≡ pdu_end i (le16 s (i + 6))
unfolding seen_at
next-is s i p e = ap (λ (z : ReceivedPdu). i + (12 + z.len)) e

-- ---- the walk

-- a PDU without a handle
pub walk_missing : (s : List ℕ) (i end k : ℕ) → i < end → matched_at [] s i end k ≡ refused (WrongFrame k)
unfolding matched_at
walk_missing s i end k lt = rw (ne_eqb i end (λ z. omega arith))

-- a fault ends the walk
pub walk_wrong : (hs : List PduResponseHandle) (s : List ℕ) (i end k : ℕ) (x : Refusal) → i < end → judged hs s i end k ≡ Err x → matched_at hs s i end k ≡ refused x
unfolding judged matched_at
walk_wrong [] s i end k x lt e =
    let q : WrongFrame k ≡ x = cc in
    walk_missing s i end k lt ∙ ap refused q
walk_wrong (h ∷ hs) s i end k x lt e = rw e refl

-- at its end no handle is left, or that is the fault
pub walk_spare : (h : PduResponseHandle) (hs : List PduResponseHandle) (s : List ℕ) (end k : ℕ) → matched_at (h ∷ hs) s end end k ≡ refused (WrongFrame k)
unfolding matched_at
walk_spare h hs s end k =
    rw (← judged_end (h ∷ hs) s end end k (rightly-short end end (le16 s (end + 6)) (omega arith)))

pub walk_done : (s : List ℕ) (end k : ℕ) → matched_at [] s end end k ≡ got []
unfolding matched_at
walk_done s end k = rw (eq-eqb end end refl)

-- the k-th is right, and the rest follows
walk_step : (h : PduResponseHandle) (hs : List PduResponseHandle) (s : List ℕ) (i end k : ℕ) → judged (h ∷ hs) s i end k ≡ right
    → matched_at (h ∷ hs) s i end k ≡ more (came_back (seen_at s i)) (matched_at hs s (pdu_end i (le16 s (i + 6))) end (suc k))
unfolding matched_at
walk_step h hs s i end k v = rw v refl

pub walk_right : (row s : List ℕ) (i end k : ℕ) → judged (handles_in (drop (4 * k) row)) s i end k ≡ right
    → matched_at (handles_in (drop (4 * k) row)) s i end k
    ≡ more (came_back (seen_at s i)) (matched_at (handles_in (drop (4 * (k + 1)) row)) s (pdu_end i (le16 s (i + 6))) end (k + 1))
walk_right row s i end k e =
    let t = handles_some row k (right-ends row s i end k e).0 in
    let hs = handles_in (drop (4 * (k + 1)) row) in
    let v : judged (handle_at row k ∷ hs) s i end k ≡ right = ap (λ (l : List PduResponseHandle). judged l s i end k) (sym t) ∙ e in
    ap (λ (l : List PduResponseHandle). matched_at l s i end k) t ∙ walk_step (handle_at row k) hs s i end k v ∙ rw (add-one k) refl

-- ---- the list

-- those that were found before the rest
abbrev pub ahead : List ReceivedPdu → Receiving → Receiving
ahead l (refused x) = refused x
ahead l (got m) = got (l ++ m)

ahead_none : (r : Receiving) → ahead [] r ≡ r
ahead_none (refused x) = refl
ahead_none (got m) = refl

ahead_more : (l : List ReceivedPdu) (p : ReceivedPdu) (r : Receiving) → ahead l (more p r) ≡ ahead (l ++ (p ∷ [])) r
ahead_more l p (refused x) = refl
ahead_more l p (got m) = ap got (sym (append_assoc l (p ∷ []) m))

padded-more : (l : List ReceivedPdu) (k : ℕ) (p : ReceivedPdu) → length l ≡ k → k < 170 → set (padded l) k p ≡ padded (l ++ (p ∷ []))
unfolding padded unused
padded-more l k p len b =
    let n : length (l ++ (p ∷ [])) ≡ k + 1 = length-append l (p ∷ []) ∙ rw len refl in
    let s : 170 - k ≡ suc (170 - (k + 1)) = omega arith in
    rw (n, len, s) (set_at l none_pdu (replicate (170 - (k + 1)) none_pdu) p k len ∙ sym (append_assoc l (p ∷ []) (replicate (170 - (k + 1)) none_pdu)))

-- ---- what the loop keeps: those found so far, before what the rest gives, are the whole

pub record Going (hs : List PduResponseHandle) (s : List ℕ) (end at k : ℕ) (pdus : List ReceivedPdu) : Type 0 where
  pub so_far : List ReceivedPdu
  pub listed : pdus ≡ padded so_far
  pub counted : length so_far ≡ k
  pub whole : ahead so_far (matched_at (drop k hs) s at end k) ≡ matched_at hs s 2 end 0

pub going_start : (hs : List PduResponseHandle) (s : List ℕ) (end : ℕ) (pdus : List ReceivedPdu) → pdus ≡ padded [] → Going hs s end 2 0 pdus
going_start hs s end pdus e = record { so_far = []; listed = e; counted = refl; whole = ahead_none (matched_at hs s 2 end 0) }

-- a verdict asks for the first handle alone
judged_first : (h : PduResponseHandle) (rest : List PduResponseHandle) (s : List ℕ) (i end k : ℕ) → judged (h ∷ rest) s i end k ≡ judged (h ∷ []) s i end k
unfolding judged
judged_first h rest s i end k = refl

module _ {hs : List PduResponseHandle} {s : List ℕ} {end at k : ℕ} {pdus : List ReceivedPdu} (g : Going hs s end at k pdus) where
  -- what the rest gives is known, and so is the whole
  ends : (r : Receiving) → matched_at (drop k hs) s at end k ≡ r → ahead g.so_far r ≡ matched_at hs s 2 end 0
  ends r e = ap (ahead g.so_far) (sym e) ∙ g.whole

  -- the k-th handle is h
  module _ (h : PduResponseHandle) (here : drop k hs ≡ h ∷ drop (k + 1) hs) where
    pub going_next : (p : ReceivedPdu) (next : ℕ) → k < 170 → judged (h ∷ []) s at end k ≡ right → p ≡ came_back (seen_at s at)
        → next ≡ pdu_end at (le16 s (at + 6)) → Going hs s end next (k + 1) (set pdus k p)
    going_next p next b v e to =
        let step : matched_at (drop k hs) s at end k ≡ more (came_back (seen_at s at)) (matched_at (drop (k + 1) hs) s (pdu_end at (le16 s (at + 6))) end (k + 1)) =
        rw here (walk_step h (drop (k + 1) hs) s at end k (judged_first h (drop (k + 1) hs) s at end k ∙ v) ∙ ap (λ (n : ℕ). more (came_back (seen_at s at)) (matched_at (drop (k + 1) hs) s (pdu_end at (le16 s (at + 6))) end n)) (sym (add-one k))) in
        record {
          so_far = g.so_far ++ (p ∷ []);
          listed = ap (λ (l : List ReceivedPdu). set l k p) g.listed ∙ padded-more g.so_far k p g.counted b;
          counted = length-append g.so_far (p ∷ []) ∙ rw g.counted refl;
          whole = rw (to, e) (sym (ahead_more g.so_far (came_back (seen_at s at)) (matched_at (drop (k + 1) hs) s (pdu_end at (le16 s (at + 6))) end (k + 1))) ∙ ends _ step);
        }

    -- the ways out
    pub going_wrong : (x : Refusal) → judged (h ∷ []) s at end k ≡ Err x → told (matched_at hs s 2 end 0) ≡ Err x
    unfolding told matched_at
    going_wrong x e =
        let v : judged (h ∷ drop (k + 1) hs) s at end k ≡ Err x = judged_first h (drop (k + 1) hs) s at end k ∙ e in
        let fault : matched_at (drop k hs) s at end k ≡ refused x = rw here (rw v refl) in
        ap told (sym (ends (refused x) fault))

  module _ (none : drop k hs ≡ []) where
    pub going_missing : at < end → told (matched_at hs s 2 end 0) ≡ Err (WrongFrame k)
    unfolding told
    going_missing lt =
        let fault : matched_at (drop k hs) s at end k ≡ refused (WrongFrame k) = rw none (walk_missing s at end k lt) in
        ap told (sym (ends (refused (WrongFrame k)) fault))

    pub going_done : at ≡ end → told (matched_at hs s 2 end 0) ≡ Ok (record { count = k; pdus = pdus })
    unfolding told
    going_done e =
        let done : matched_at (drop k hs) s at end k ≡ got [] = rw (none, e) (walk_done s end k) in
        ap told (sym (ends (got []) done) ∙ ap got (append-nil g.so_far)) ∙ rw (← g.counted, ← g.listed) refl

-- ---- the call's ways out

module _ (row s : List ℕ) (r : Result Received Refusal) where
  pub receive_bad : (length row % 4 ≡ 0 → ⊥) → r ≡ told (refused BadArgument) → r ≡ told (received_of row s)
  unfolding received_of
  receive_bad n q = rw (ne_eqb (length row % 4) 0 n) q

  pub receive_headless : length row % 4 ≡ 0 → headed s ≡ false → r ≡ told (refused (WrongFrame 0)) → r ≡ told (received_of row s)
  unfolding received_of matched
  receive_headless e h q = rw (eq-eqb (length row % 4) 0 e, h) q

  pub receive_matched : (end : ℕ) → length row % 4 ≡ 0 → headed s ≡ true → end ≡ length_of (le16 s 0) + 2 → r ≡ told (matched_at (handles_in row) s 2 end 0)
      → r ≡ told (received_of row s)
  unfolding received_of matched
  receive_matched end e h to q = rw (eq-eqb (length row % 4) 0 e, h, ← to) q
