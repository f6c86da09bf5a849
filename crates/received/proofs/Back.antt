-- Which frames are accepted: a frame of PDUs that are the handles', and no other. One way by induction over the PDUs, the other over the handles, to the places that the reader finds.
use mathlib.Core.Path.{◌≡◌, refl, ap, sym, ◌∙◌}
use Rattle.std.specs.Prelude.{Ok, Err}
use mathlib.Core.Bool.{Bool, true, false}
use Prim.Native.Nat.{ℕ, suc, ◌+◌, ◌-◌, ◌≤◌, ◌<◌}
use native.Mathlib.Omega.{arith}
use mathlib.Core.List.{List, [], ◌∷◌, map}
use lib.ListN.{length}
use lib.Dec.{eqb}
use borrow.Author.Tests.{eqb-true, eqb-false, leb-true, leb-false}
use Rattle.refusal.specs.Said.{pick}
use Rattle.refusal.specs.declared.Refusal.{Refusal}
use Rattle.refusal.specs.declared.Refusal.TheVariants.{WrongFrame, WrongCommand, WrongIndex, WrongLength}
use Rattle.wire.specs.Bytes.{le16}
use Rattle.pdu.specs.declared.PduFields.{PduFields}
use Rattle.pdu.specs.Pdu.{Pdu, follows, layout}
use Rattle.pdu.specs.Read.{length_of, pdu_end, rightly, Places, good, before, body_at, places_at, seen_at, shown, shown_all, starts}
use Rattle.pdu.proofs.Laws.{rightly-last, rightly-more, rightly-fits, body-last, body_more, places_step}
use Rattle.pdu.proofs.Rows.{layout-none, layout-length}
use Rattle.created_frame.specs.declared.PduResponseHandle.{PduResponseHandle}
use Rattle.received.specs.declared.ReceivedPdu.{ReceivedPdu}
use Rattle.received.specs.Matching.{Verdict, right, came_back, compared, judged, Receiving, refused, got, unless, more, matched_at}
use Rattle.received.specs.Receives.{Stood, Each, Alike}
use Rattle.received.proofs.Laws.{compared_same, walk_missing, walk_spare, walk_done}

-- what came back at these places
abbrev pub back_at : List ℕ → List ℕ → List ReceivedPdu
back_at s l = map came_back (map (seen_at s) l)

-- ---- PDUs that stand from i on as they are shown, up to what isn't compared

unfoldable pub Stands : List ℕ → ℕ → List Pdu → Type 0
Stands s i [] = Unit {0}
Stands s i (p ∷ ps) = Stood (shown i p (follows ps)) (seen_at s i) × Stands s (i + (12 + length p.payload)) ps

module _ (s : List ℕ) (i end : ℕ) (p : Pdu) where
  abbrev flags : ℕ
  flags = le16 s (i + 6)

  -- such a one ends rightly
  stood-ends : (ps : List Pdu) → end ≡ i + (12 + length p.payload + length (layout ps)) → Stood (shown i p (follows ps)) (seen_at s i) → rightly i end flags ≡ true
  unfolding seen_at
  stood-ends [] e t =
      let n : length_of flags ≡ length p.payload = t.length_same in
      let m : flags < 32768 = leb-false 32768 flags t.more_same in
      rightly-last i end flags m (omega (arith, layout-none))
  stood-ends (q ∷ ps) e t =
      let n : length_of flags ≡ length p.payload = t.length_same in
      let m : 32768 ≤ flags = leb-true 32768 flags t.more_same in
      rightly-more i end flags m (omega (arith, layout-length q ps))

  stood-right : (h : PduResponseHandle) (hs : List PduResponseHandle) (k m : ℕ) → Stood (shown i p m) (seen_at s i) → rightly i end flags ≡ true
      → p.command ≡ h.command → p.index ≡ h.index → length p.payload + 12 ≡ h.size → judged (h ∷ hs) s i end k ≡ right
  unfolding judged
  stood-right h hs k m t r a b c =
      let v = seen_at s i in
      let x : v.len + 12 ≡ h.size = ap (λ (z : ℕ). z + 12) t.length_same ∙ c in
      rw r (compared_same h v.command v.index v.len k (t.command_same ∙ a) (t.index_same ∙ b) x)

  stood-step : (h : PduResponseHandle) (hs : List PduResponseHandle) (k m : ℕ) → judged (h ∷ hs) s i end k ≡ right → Stood (shown i p m) (seen_at s i)
      → (l : List ReceivedPdu) → matched_at hs s (i + (12 + length p.payload)) end (suc k) ≡ got l → matched_at (h ∷ hs) s i end k ≡ got (came_back (seen_at s i) ∷ l)
  unfolding matched_at seen_at
  stood-step h hs k m v t l rest =
      let n : length_of flags ≡ length p.payload = t.length_same in
      rw (v, n, rest) refl

pub all_got : (ps : List Pdu) (hs : List PduResponseHandle) (s : List ℕ) (i end k : ℕ) → end ≡ i + length (layout ps) → Stands s i ps → Alike hs ps
    → matched_at hs s i end k ≡ got (back_at s (starts i ps))
unfolding Stands Alike starts
all_got [] [] s i end k e t a =
    let q : i ≡ end = omega (arith, layout-none) in
    rw q (walk_done s end k)
all_got [] (h ∷ hs) s i end k e t a = absurd a
all_got (p ∷ ps) [] s i end k e t a = absurd a
all_got (p ∷ ps) (h ∷ hs) s i end k e t a =
    let l = length p.payload in
    let r = stood-ends s i end p ps (omega (arith, layout-length p ps)) t.0 in
    let v = stood-right s i end p h hs k (follows ps) t.0 r a.0 a.1 a.2 in
    let rest = all_got ps hs s (i + (12 + l)) end (suc k) (omega (arith, layout-length p ps)) t.1 a.3 in
    stood-step s i end p h hs k (follows ps) v t.0 (back_at s (starts (i + (12 + l)) ps)) rest

-- where the PDUs of f are seen as they are shown, those that stood stand in s
pub stood_stands : (ps : List Pdu) (f s : List ℕ) (i : ℕ) → map (seen_at f) (starts i ps) ≡ shown_all i ps → Each (λ j. Stood (seen_at f j) (seen_at s j)) (starts i ps) → Stands s i ps
unfolding Stands Each starts shown_all
stood_stands [] f s i e t = tt
stood_stands (p ∷ ps) f s i e t =
    let a : seen_at f i ≡ shown i p (follows ps) = cc in
    let b : map (seen_at f) (starts (i + (12 + length p.payload)) ps) ≡ shown_all (i + (12 + length p.payload)) ps = cc in
    (rw (← a) t.0, stood_stands ps f s (i + (12 + length p.payload)) b t.1)

-- .. in f itself all stand
each_stood : (s l : List ℕ) → Each (λ j. Stood (seen_at s j) (seen_at s j)) l
unfolding Each
each_stood s [] = tt
each_stood s (j ∷ l) = (record { command_same = refl; index_same = refl; length_same = refl; more_same = refl }, each_stood s l)

pub itself_stands : (ps : List Pdu) (s : List ℕ) (i : ℕ) → map (seen_at s) (starts i ps) ≡ shown_all i ps → Stands s i ps
itself_stands ps s i e = stood_stands ps s s i e (each_stood s (starts i ps))

-- ---- what is accepted

unless-got : (v : Verdict) (r : Receiving) (l : List ReceivedPdu) → unless v r ≡ got l → (v ≡ right) × (r ≡ got l)
unless-got (Ok d) r l e = (refl, e)
unless-got (Err x) r l e = let z : ◌≡◌ {A = ℕ} 0 1 = cc in absurd (omega arith)

more-got : (p : ReceivedPdu) (r : Receiving) (l : List ReceivedPdu) → more p r ≡ got l → (m : List ReceivedPdu) × (r ≡ got m) × (l ≡ p ∷ m)
more-got p (refused x) l e = let z : ◌≡◌ {A = ℕ} 0 1 = cc in absurd (omega arith)
more-got p (got m) l e = (m, refl, cc)

refused_not : (x : Refusal) (l : List ReceivedPdu) → refused x ≡ got l → ⊥
refused_not x l e = let z : ◌≡◌ {A = ℕ} 0 1 = cc in omega arith

wrong_not : (x : Refusal) → ◌≡◌ {A = Verdict} (Err x) right → ⊥
wrong_not x e = let z : ◌≡◌ {A = ℕ} 0 1 = cc in omega arith

-- commands, indices and lengths as they are seen
unfoldable pub SeenAlike : List PduResponseHandle → List PduFields → Type 0
SeenAlike [] [] = Unit {0}
SeenAlike [] (v ∷ vs) = ⊥
SeenAlike (h ∷ hs) [] = ⊥
SeenAlike (h ∷ hs) (v ∷ vs) = (v.command ≡ h.command) × (v.index ≡ h.index) × (v.len + 12 ≡ h.size) × SeenAlike hs vs

pub seen_alike : (hs : List PduResponseHandle) (i : ℕ) (ps : List Pdu) → SeenAlike hs (shown_all i ps) → Alike hs ps
unfolding SeenAlike Alike shown_all
seen_alike [] i [] a = tt
seen_alike [] i (p ∷ ps) a = a
seen_alike (h ∷ hs) i [] a = a
seen_alike (h ∷ hs) i (p ∷ ps) a = (a.0, a.1, a.2, seen_alike hs (i + (12 + length p.payload)) ps a.3)

compared-right : (h : PduResponseHandle) (command index len k : ℕ) → compared h command index len k ≡ right → (command ≡ h.command) × (index ≡ h.index) × (len + 12 ≡ h.size)
unfolding compared
compared-right h command index len k = go (eqb command h.command) (eqb index h.index) (eqb (len + 12) h.size) refl refl refl
  where
    go : (a b c : Bool) → eqb command h.command ≡ a → eqb index h.index ≡ b → eqb (len + 12) h.size ≡ c
        → pick a (pick b (pick c right (Err (WrongLength k))) (Err (WrongIndex k))) (Err (WrongCommand k)) ≡ right
        → (command ≡ h.command) × (index ≡ h.index) × (len + 12 ≡ h.size)
    go true true true p q r e = (eqb-true _ _ p, eqb-true _ _ q, eqb-true _ _ r)
    go true true false p q r e = absurd (wrong_not _ e)
    go true false c p q r e = absurd (wrong_not _ e)
    go false b c p q r e = absurd (wrong_not _ e)

judged-right : (h : PduResponseHandle) (hs : List PduResponseHandle) (s : List ℕ) (i end k : ℕ) → judged (h ∷ hs) s i end k ≡ right
    → let v = seen_at s i in
    (rightly i end (le16 s (i + 6)) ≡ true) × (v.command ≡ h.command) × (v.index ≡ h.index) × (v.len + 12 ≡ h.size)
unfolding judged
judged-right h hs s i end k e = go (rightly i end (le16 s (i + 6))) refl e
  where
    go : (b : Bool) → rightly i end (le16 s (i + 6)) ≡ b → pick b (compared h (seen_at s i).command (seen_at s i).index (seen_at s i).len k) (Err (WrongFrame k)) ≡ right
        → (rightly i end (le16 s (i + 6)) ≡ true) × ((seen_at s i).command ≡ h.command) × ((seen_at s i).index ≡ h.index) × ((seen_at s i).len + 12 ≡ h.size)
    go true r q = let t = compared-right h (seen_at s i).command (seen_at s i).index (seen_at s i).len k q in (r, t.0, t.1, t.2)
    go false r q = absurd (wrong_not _ q)

-- at the end no handle is left
pub ended : (hs : List PduResponseHandle) (s : List ℕ) (end k : ℕ) (l : List ReceivedPdu) → matched_at hs s end end k ≡ got l → (hs ≡ []) × (l ≡ [])
ended [] s end k l e = let q : got [] ≡ got l = sym (walk_done s end k) ∙ e in let z : l ≡ [] = cc in (refl, z)
ended (h ∷ hs) s end k l e = absurd (refused_not _ l (sym (walk_spare h hs s end k) ∙ e))

-- the places that the reader finds, and what came back at them
pub record Found (hs : List PduResponseHandle) (s : List ℕ) (l : List ReceivedPdu) (R : Places) : Type 0 where
  pub at : List ℕ
  pub good_is : R ≡ good at
  pub given_is : l ≡ back_at s at
  pub alike : SeenAlike hs (map (seen_at s) at)

found-last : (h : PduResponseHandle) (hs : List PduResponseHandle) (s : List ℕ) (i : ℕ) (l : List ReceivedPdu) (R : Places)
    → ((seen_at s i).command ≡ h.command) × ((seen_at s i).index ≡ h.index) × ((seen_at s i).len + 12 ≡ h.size)
    → R ≡ good (i ∷ []) → hs ≡ [] → l ≡ came_back (seen_at s i) ∷ [] → Found (h ∷ hs) s l R
unfolding SeenAlike
found-last h hs s i l R t g e q = record { at = i ∷ []; good_is = g; given_is = q; alike = rw e (t.0, t.1, t.2, tt) }

found-more : (h : PduResponseHandle) (hs : List PduResponseHandle) (s : List ℕ) (i : ℕ) (m l : List ReceivedPdu) (R S : Places)
    → ((seen_at s i).command ≡ h.command) × ((seen_at s i).index ≡ h.index) × ((seen_at s i).len + 12 ≡ h.size)
    → R ≡ before i S → l ≡ came_back (seen_at s i) ∷ m → Found hs s m S → Found (h ∷ hs) s l R
unfolding SeenAlike
found-more h hs s i m l R S t g q f =
    record {
      at = i ∷ f.at;
      good_is = g ∙ ap (before i) f.good_is;
      given_is = q ∙ ap (λ (z : List ReceivedPdu). came_back (seen_at s i) ∷ z) f.given_is;
      alike = (t.0, t.1, t.2, f.alike);
    }

pub found : (hs : List PduResponseHandle) (s : List ℕ) (i end k f : ℕ) (l : List ReceivedPdu) → i < end → end - i ≤ f → matched_at hs s i end k ≡ got l → Found hs s l (places_at f s i end)
unfolding matched_at
found [] s i end k f l lt fuel e = absurd (refused_not (WrongFrame k) l (sym (walk_missing s i end k lt) ∙ e))
found (h ∷ hs) s i end k f l lt fuel e =
    let flags = le16 s (i + 6) in
    let u = unless-got (judged (h ∷ hs) s i end k) _ l e in
    let m = more-got (came_back (seen_at s i)) _ l u.1 in
    let j = judged-right h hs s i end k u.0 in
    let fits : pdu_end i flags ≤ end = rightly-fits i end flags j.0 in
    let d = places_step f s i end (omega arith) fuel in
    go (eqb (pdu_end i flags) end) refl d m j fits (λ g past left. found hs s (pdu_end i flags) end (suc k) g m.0 past left m.1)
  where
    go : (b : Bool) → eqb (pdu_end i (le16 s (i + 6))) end ≡ b
        → (d : (g : ℕ) × (end - (i + 10) ≤ g) × (places_at f s i end ≡ body_at (λ next. places_at g s next end) i end (le16 s (i + 6))))
        → (m : (m : List ReceivedPdu) × (matched_at hs s (pdu_end i (le16 s (i + 6))) end (suc k) ≡ got m) × (l ≡ came_back (seen_at s i) ∷ m))
        → (rightly i end (le16 s (i + 6)) ≡ true) × ((seen_at s i).command ≡ h.command) × ((seen_at s i).index ≡ h.index) × ((seen_at s i).len + 12 ≡ h.size)
        → pdu_end i (le16 s (i + 6)) ≤ end
        → ((g : ℕ) → pdu_end i (le16 s (i + 6)) < end → end - pdu_end i (le16 s (i + 6)) ≤ g → Found hs s m.0 (places_at g s (pdu_end i (le16 s (i + 6))) end))
        → Found (h ∷ hs) s l (places_at f s i end)
    go true b d m j fits rest =
        let flags = le16 s (i + 6) in
        let q : pdu_end i flags ≡ end = eqb-true _ _ b in
        let z = ended hs s end (suc k) m.0 (ap (λ (z : ℕ). matched_at hs s z end (suc k)) (sym q) ∙ m.1) in
        found-last h hs s i l _ (j.1, j.2, j.3) (d.2 ∙ body-last _ i end flags j.0 q) z.0 (m.2 ∙ ap (λ (y : List ReceivedPdu). came_back (seen_at s i) ∷ y) z.1)
    go false b d m j fits rest =
        let flags = le16 s (i + 6) in
        let n : pdu_end i flags ≡ end → ⊥ = eqb-false _ _ b in
        let past : pdu_end i flags < end = omega (arith, n) in
        let g : end - (i + 10) ≤ d.0 = d.1 in
        let left : end - pdu_end i flags ≤ d.0 = omega arith in
        found-more h hs s i m.0 l _ _ (j.1, j.2, j.3) (d.2 ∙ body_more _ i end flags j.0 n) m.2 (rest d.0 past left)
