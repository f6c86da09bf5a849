-- The reader takes exactly the well-formed frames: of bytes that it takes, the PDU at each place is spelled out, and laid again it is those bytes.
use mathlib.Core.Path.{◌≡◌, refl, ap, sym, ◌∙◌}
use mathlib.Core.Bool.{Bool, true, false}
use Prim.Native.Nat.{ℕ, zero, suc, ◌+◌, ◌-◌, ◌*◌, ◌/◌, ◌%◌, ◌≤◌, ◌<◌}
use native.Mathlib.Omega.{arith}
use native.Mathlib.Nat.{add_assoc, add-zero}
use mathlib.Core.List.{List, [], ◌∷◌, ◌++◌, map}
use lib.ListN.{length, take, drop, length-drop, take-append-drop}
use lib.Dec.{eqb}
use lib.Seq.{drop-cons, drop-drop, take-add, take-append-add, length-take-le}
use borrow.Author.Tests.{leb-true, eqb-true, eqb-false}
use Rattle.refusal.specs.Said.{pick}
use Rattle.refusal.proofs.Tests.{both}
use Rattle.wire.specs.Bytes.{byte_at, le16, bytes16, Bytes}
use Rattle.wire.proofs.Laws.{le16-fits, le32-fits}
use Rattle.pdu.specs.declared.PduFields.{PduFields}
use Rattle.pdu.specs.Pdu.{Pdu, Fits, head, pdu_bytes, layout, AllFit}
use Rattle.pdu.specs.Read.{length_of, pdu_end, rightly, Places, good, bad, before, body_at, places_at, headed, frame_of, payload_of, Reading, read, refused, seen_all, read_of, starts, shown_all}
use Rattle.pdu.specs.Grammar.{pdu_from, WellFormed}
use Rattle.pdu.proofs.Laws.{rightly-fits, rightly-ends, rightly_goes}
use Rattle.pdu.proofs.Rows.{layout-one}
use Rattle.pdu.proofs.Reading.{well-read, well-payloads}

-- ---- the bytes at a place, one by one

-- k bytes from i + j on
abbrev stretch : List ℕ → ℕ → ℕ → ℕ → List ℕ
stretch s i j zero = []
stretch s i j (suc k) = byte_at s (i + j) ∷ stretch s i (suc j) k

stretch-drop : (s : List ℕ) (i j k : ℕ) → i + (j + k) ≤ length s → drop (i + j) s ≡ stretch s i j k ++ drop (i + (j + k)) s
unfolding byte_at
stretch-drop s i j zero h = rw (add-zero j) refl
stretch-drop s i j (suc k) h =
    let lt : i + j < length s = omega arith in
    let e : suc (i + j) ≡ i + suc j = omega arith in
    let f : j + suc k ≡ suc j + k = omega arith in
    drop-cons s (i + j) 255 lt ∙ rw (e, f) (ap (λ (z : List ℕ). byte_at s (i + j) ∷ z) (stretch-drop s i (suc j) k (omega arith)))

-- a number's bytes, joined and taken apart again
word_bytes : (a b : ℕ) → a < 256 → b < 256 → let x = a + 256 * b in (x % 256 ≡ a) × (x / 256 % 256 ≡ b)
word_bytes a b p q = (omega arith, omega arith)

long-bytes : (a b c d : ℕ) → a < 256 → b < 256 → c < 256 → d < 256
    → let x = (a + 256 * b) + 65536 * (c + 256 * d) in
    (x % 256 ≡ a) × (x / 256 % 256 ≡ b) × (x / 65536 % 256 ≡ c) × (x / 16777216 % 256 ≡ d)
long-bytes a b c d p q r t = (omega arith, omega arith, omega arith, omega arith)

-- the flags' parts make the flags
flag_parts : (w : ℕ) → w < 65536 → w % 2048 + 2048 * (w / 2048 % 16) + 32768 * (w / 32768) ≡ w
flag_parts w h = omega arith

-- ---- the PDU at a place

module _ (s : List ℕ) (bytes : Bytes s) (i : ℕ) where
  abbrev flags : ℕ
  flags = le16 s (i + 6)

  abbrev n : ℕ
  n = length_of (le16 s (i + 6))

  byte : (k : ℕ) → byte_at s k < 256
  unfolding Bytes
  byte k = bytes k

  module _ (h : i + (12 + n) ≤ length s) where
    payload-length : length (pdu_from s i).payload ≡ n
    payload-length = length-take-le n (drop (i + 10) s) (simp length-drop (omega arith))

    head-is : head (pdu_from s i) (flags / 32768) ≡ stretch s i 0 10
    head-is =
        let x = long-bytes (byte_at s (i + 2)) (byte_at s (i + 2 + 1)) (byte_at s (i + 2 + 2)) (byte_at s (i + 2 + 2 + 1)) (byte _) (byte _) (byte _) (byte _) in
        let f = flag_parts flags (le16-fits s bytes (i + 6)) in
        let y = word_bytes (byte_at s (i + 6)) (byte_at s (i + 6 + 1)) (byte _) (byte _) in
        let z = word_bytes (byte_at s (i + 8)) (byte_at s (i + 8 + 1)) (byte _) (byte _) in
        let a3 : i + 2 + 1 ≡ i + 3 = omega arith in
        let a4 : i + 2 + 2 ≡ i + 4 = omega arith in
        let a5 : i + 2 + 2 + 1 ≡ i + 5 = omega arith in
        let a7 : i + 6 + 1 ≡ i + 7 = omega arith in
        let a9 : i + 8 + 1 ≡ i + 9 = omega arith in
        rw (payload-length, x.0, x.1, x.2, x.3, f, y.0, y.1, z.0, z.1, add-zero i, a3, a5, a4, a7, a9) refl

    -- the bytes at i are those of that PDU
    piece : take (12 + n) (drop i s) ≡ pdu_bytes (pdu_from s i) (flags / 32768)
    piece =
        let x = drop (i + 10) s in
        let j = i + (10 + n) in
        let d : drop i s ≡ stretch s i 0 10 ++ x = ap (λ (z : ℕ). drop z s) (sym (add-zero i)) ∙ stretch-drop s i 0 10 (omega arith) in
        let k : 12 + n ≡ 10 + (n + 2) = omega arith in
        let r : drop n x ≡ drop j s = drop-drop n (i + 10) s ∙ ap (λ (z : ℕ). drop z s) (add_assoc i 10 n) in
        let c : drop j s ≡ byte_at s j ∷ byte_at s (j + 1) ∷ drop (j + 2) s =
        ap (λ (z : ℕ). drop z s) (sym (add-zero j)) ∙ stretch-drop s j 0 2 (omega arith) ∙ rw (add-zero j) refl in
        let y = word_bytes (byte_at s j) (byte_at s (j + 1)) (byte _) (byte _) in
        let w : take 2 (drop n x) ≡ bytes16 (pdu_from s i).counter = ap (λ (z : List ℕ). take 2 z) (r ∙ c) ∙ rw (y.0, y.1) refl in
        ap (λ (z : ℕ). take z (drop i s)) k ∙ ap (λ (z : List ℕ). take (10 + (n + 2)) z) d
        ∙ take-append-add (stretch s i 0 10) x (n + 2) ∙ ap (λ (z : List ℕ). stretch s i 0 10 ++ z) (take-add n 2 x ∙ ap (λ (z : List ℕ). take n x ++ z) w)
        ∙ ap (λ (z : List ℕ). z ++ (take n x ++ bytes16 (pdu_from s i).counter)) (sym head-is)

    from-fits : Fits (pdu_from s i)
    from-fits =
        record {
          address_fits = le32-fits s bytes (i + 2);
          extra_fits = omega arith;
          irq_fits = le16-fits s bytes (i + 8);
          payload_fits = rw payload-length (omega arith);
          counter_fits = le16-fits s bytes (i + (10 + n));
        }

-- ---- the PDUs of s from i to `end`, which start at l

record Parsed (s : List ℕ) (i end : ℕ) (l : List ℕ) : Type 0 where
  first : Pdu
  others : List Pdu
  fit : AllFit (first ∷ others)
  places_are : l ≡ starts i (first ∷ others)
  bytes_are : take (end - i) (drop i s) ≡ layout (first ∷ others)

before-good : (i : ℕ) (R : Places) (l : List ℕ) → before i R ≡ good l → (t : List ℕ) × (R ≡ good t) × (l ≡ i ∷ t)
before-good i bad l e = let z : ◌≡◌ {A = ℕ} 0 1 = cc in absurd (omega arith)
before-good i (good t) l e = (t, refl, cc)

module _ (s : List ℕ) (bytes : Bytes s) (i end : ℕ) (inside : end ≤ length s) where
  abbrev w : ℕ
  w = le16 s (i + 6)

  parse-last : pdu_end i w ≡ end → w < 32768 → Parsed s i end (i ∷ [])
  unfolding AllFit starts
  parse-last e lt =
      let h : i + (12 + length_of w) ≤ length s = omega arith in
      let m : w / 32768 ≡ 0 = omega arith in
      let d : end - i ≡ 12 + length_of w = omega arith in
      record {
        first = pdu_from s i;
        others = [];
        fit = (from-fits s bytes i h, tt);
        places_are = refl;
        bytes_are = rw d (piece s bytes i h ∙ rw m (sym (layout-one (pdu_from s i))));
      }

  parse-more : (l : List ℕ) → pdu_end i w ≤ end → 32768 ≤ w → Parsed s (pdu_end i w) end l → Parsed s i end (i ∷ l)
  unfolding AllFit starts layout
  parse-more l le ge r =
      let k = length_of w in
      let h : i + (12 + k) ≤ length s = omega arith in
      let m : w / 32768 ≡ 1 = omega (arith, le16-fits s bytes (i + 6)) in
      let d : end - i ≡ (12 + k) + (end - pdu_end i w) = omega arith in
      let pl : length (pdu_from s i).payload ≡ k = payload-length s bytes i h in
      record {
        first = pdu_from s i;
        others = r.first ∷ r.others;
        fit = (from-fits s bytes i h, r.fit);
        places_are = ap (λ (z : List ℕ). i ∷ z) (r.places_are ∙ rw pl refl);
        bytes_are =
            ap (λ (z : ℕ). take z (drop i s)) d ∙ take-add (12 + k) (end - pdu_end i w) (drop i s)
            ∙ ap (λ (z : List ℕ). take (12 + k) (drop i s) ++ take (end - pdu_end i w) z) (drop-drop (12 + k) i s)
            ∙ rw (piece s bytes i h, m, r.bytes_are) refl;
      }

  parse-step : (b c : Bool) (R : Places) (l : List ℕ) → rightly i end w ≡ b → eqb (pdu_end i w) end ≡ c
      → ((t : List ℕ) → R ≡ good t → Parsed s (pdu_end i w) end t)
      → pick b (before i (pick c (good []) R)) bad ≡ good l → Parsed s i end l
  parse-step true true R l r q rest e =
      let a : i ∷ [] ≡ l = cc in
      let x : pdu_end i w ≡ end = eqb-true _ _ q in
      rw (← a) (parse-last x (rightly-ends i end w r x))
  parse-step true false R l r q rest e =
      let t = before-good i R l e in
      rw t.2 (parse-more t.0 (rightly-fits i end w r) (rightly_goes i end w r (eqb-false (pdu_end i w) end q)) (rest t.0 t.1))
  parse-step false c R l r q rest e = let z : ◌≡◌ {A = ℕ} 0 1 = cc in absurd (omega arith)

parsed : (s : List ℕ) → Bytes s → (f i end : ℕ) (l : List ℕ) → end ≤ length s → places_at f s i end ≡ good l → Parsed s i end l
unfolding places_at body_at
parsed s bytes zero i end l h e = let z : ◌≡◌ {A = ℕ} 0 1 = cc in absurd (omega arith)
parsed s bytes (suc f) i end l h e =
    parse-step s bytes i end h (rightly i end (le16 s (i + 6))) (eqb (pdu_end i (le16 s (i + 6))) end) (places_at f s (pdu_end i (le16 s (i + 6))) end) l refl refl
    (λ t q. parsed s bytes f (pdu_end i (le16 s (i + 6))) end t h q) e

-- ---- a whole frame

module _ (s : List ℕ) (bytes : Bytes s) where
  abbrev long : ℕ
  long = length_of (le16 s 0)

  -- the tests on the header hold
  pub headed-holds : headed s ≡ true → (2 ≤ length s) × (le16 s 0 / 4096 ≡ 1) × (long + 2 ≤ length s)
  unfolding headed
  headed-holds e =
      let p = both _ _ e in
      let q = both _ _ p.0 in
      (leb-true _ _ q.0, eqb-true _ _ q.1, leb-true _ _ p.1)

  whole-step : (b c : Bool) (R : Places) (l : List ℕ) → headed s ≡ b → eqb long 0 ≡ c
      → (long + 2 ≤ length s → R ≡ good l → Parsed s 2 (long + 2) l)
      → pick b (pick c (good []) R) bad ≡ good l → (ps : List Pdu) × WellFormed s ps × (l ≡ starts 2 ps)
  unfolding layout AllFit starts
  whole-step true true R l h c rest e =
      let q : l ≡ [] = cc in
      let t = headed-holds h in
      ([], record { after = drop 2 s; fit = tt; header_there = t.0; type_one = t.1; length_is = eqb-true _ _ c; pdus = refl }, q)
  whole-step true false R l h c rest e =
      let t = headed-holds h in
      let p = rest t.2 e in
      let d : long + 2 - 2 ≡ long = omega arith in
      let fits : long + 2 ≤ length s = t.2 in
      let b : take long (drop 2 s) ≡ layout (p.first ∷ p.others) = ap (λ (z : ℕ). take z (drop 2 s)) (sym d) ∙ p.bytes_are in
      let k : length (layout (p.first ∷ p.others)) ≡ long = ap length (sym b) ∙ length-take-le long (drop 2 s) (simp length-drop (omega arith)) in (
        p.first ∷ p.others,
        record {
          after = drop long (drop 2 s);
          fit = p.fit;
          header_there = t.0;
          type_one = t.1;
          length_is = sym k;
          pdus = sym (take-append-drop long (drop 2 s)) ∙ ap (λ (z : List ℕ). z ++ drop long (drop 2 s)) b;
        },
        p.places_are,
      )
  whole-step false c R l h q rest e = let z : ◌≡◌ {A = ℕ} 0 1 = cc in absurd (omega arith)

  -- bytes that are taken for a frame are a well-formed one, whose PDUs start at the places found
  taken-well : (l : List ℕ) → frame_of s ≡ good l → (ps : List Pdu) × WellFormed s ps × (l ≡ starts 2 ps)
  unfolding frame_of
  taken-well l e =
      whole-step (headed s) (eqb long 0) (places_at (length s) s 2 (long + 2)) l refl refl (λ h q. parsed s bytes (length s) 2 (long + 2) l h q) e

  -- ---- THE THEOREMS: what is accepted is a well-formed frame, read as its PDUs with their payloads; what is refused is no well-formed frame

  read_step : (R : Places) (vs : List PduFields) → frame_of s ≡ R → seen_all s R ≡ read vs → (l : List ℕ) × (frame_of s ≡ good l)
  read_step bad vs f e = let z : ◌≡◌ {A = ℕ} 0 1 = cc in absurd (omega arith)
  read_step (good l) vs f e = (l, f)

  pub accepted-well : (vs : List PduFields) → read_of s ≡ read vs
      → (ps : List Pdu) × WellFormed s ps × (vs ≡ shown_all 2 ps) × (map (payload_of s) vs ≡ map (λ (p : Pdu). p.payload) ps)
  unfolding read_of
  accepted-well vs e =
      let f = read_step (frame_of s) vs refl e in
      let w = taken-well f.0 f.1 in
      let q : read vs ≡ read (shown_all 2 w.0) = sym e ∙ well-read s w.0 w.1 in
      let v : vs ≡ shown_all 2 w.0 = cc in
      (w.0, w.1, v, ap (map (payload_of s)) v ∙ well-payloads s w.0 w.1)

  pub broken_refused : ((ps : List Pdu) → WellFormed s ps → ⊥) → read_of s ≡ refused
  broken_refused none = go (read_of s) refl
    where
      go : (r : Reading) → read_of s ≡ r → read_of s ≡ refused
      go refused e = e
      go (read vs) e = let w = accepted-well vs e in absurd (none w.0 w.1)

pub refused_broken : (s : List ℕ) → read_of s ≡ refused → (ps : List Pdu) → WellFormed s ps → ⊥
refused_broken s e ps w =
    let r = well-read s ps w in
    let z : ◌≡◌ {A = ℕ} 0 1 = cc in
    omega arith
