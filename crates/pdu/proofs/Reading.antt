-- PDUs laid one after the other are read back, each where it starts, with all its fields and payload bytes: by induction over the row, what stands before it growing.
use mathlib.Core.Path.{◌≡◌, refl, ap, sym, ◌∙◌}
use mathlib.Core.Bool.{true}
use Prim.Native.Nat.{ℕ, zero, suc, ◌+◌, ◌-◌, ◌*◌, ◌/◌, ◌%◌, ◌≤◌, ◌<◌}
use native.Mathlib.Omega.{arith}
use native.Mathlib.Nat.{add-zero}
use mathlib.Core.List.{List, [], ◌∷◌, ◌++◌, append_assoc, map}
use lib.ListN.{length, take, length-append, take-append-drop}
use lib.Dec.{leb, eqb}
use lib.Seq.{drop-append-add, take_at, length-take-le}
use borrow.Author.Tests.{le-leb, lt-leb}
use Rattle.wire.specs.Bytes.{byte_at, le16, le32, bytes16}
use Rattle.wire.proofs.Laws.{byte-behind, bytes32-back}
use Rattle.pdu.specs.declared.PduFields.{PduFields}
use Rattle.pdu.specs.Pdu.{Pdu, Fits, flags_of, head, pdu_bytes, follows, layout, AllFit, frame_header}
use Rattle.pdu.specs.Read.{length_of, pdu_end, rightly, good, before, places_at, frame_of, seen_at, payload_of, read, read_of, shown, shown_all, starts, with_more}
use Rattle.pdu.specs.Grammar.{pdu_from, WellFormed}
use Rattle.pdu.proofs.Laws.{rightly-last, rightly-more, body-last, body_more, places_step, frame-none, frame-some, read_as}
use Rattle.pdu.proofs.Rows.{pdu_length, layout-none, layout-one, layout-length, follows-most}

-- ---- flags

module _ (n e m : ℕ) (nb : n < 2048) (eb : e < 16) where
  flags-length : length_of (flags_of n e m) ≡ n
  flags-length = omega arith

  flags-extra : flags_of n e m / 2048 % 16 ≡ e
  flags-extra =
      let q : flags_of n e m / 2048 ≡ e + 16 * m = omega arith in
      rw q (omega arith)

  flags-circulated : flags_of n e m / 16384 % 2 ≡ e / 8
  flags-circulated = omega arith

flags-more : (n e m : ℕ) → n < 2048 → e < 16 → m ≤ 1 → leb 32768 (flags_of n e m) ≡ eqb m 1
flags-more n e zero nb eb mb = lt-leb 32768 (flags_of n e 0) (omega arith)
flags-more n e (suc zero) nb eb mb = le-leb 32768 (flags_of n e 1) (omega arith)
flags-more n e (suc (suc m)) nb eb mb = absurd (omega arith)

-- more-follows stands where it should
rightly-laid : (ps : List Pdu) (p : Pdu) (i end : ℕ) → Fits p → end ≡ i + (12 + length p.payload + length (layout ps))
    → rightly i end (flags_of (length p.payload) p.extra (follows ps)) ≡ true
rightly-laid [] p i end fit e =
    let l = length p.payload in
    let x : p.extra < 16 = fit.extra_fits in
    let y : l < 2048 = fit.payload_fits in
    let z = flags-length l p.extra 0 y x in
    rightly-last i end (flags_of l p.extra 0) (omega arith) (omega (arith, layout-none))
rightly-laid (q ∷ ps) p i end fit e =
    let l = length p.payload in
    let x : p.extra < 16 = fit.extra_fits in
    let y : l < 2048 = fit.payload_fits in
    let z = flags-length l p.extra 1 y x in
    rightly-more i end (flags_of l p.extra 1) (omega arith) (omega (arith, layout-length q ps))

-- ---- the bytes of a PDU, where they stand in a frame

module _ (pre t : List ℕ) (p : Pdu) (m : ℕ) (fit : Fits p) (mb : m ≤ 1) (s : List ℕ) (e : s ≡ pre ++ (pdu_bytes p m ++ t)) (i : ℕ) (at : i ≡ length pre) where
  here : (j k : ℕ) → j ≡ i + k → byte_at s j ≡ byte_at (pdu_bytes p m ++ t) k
  here j k h = rw (h, e, at) (byte-behind pre (pdu_bytes p m ++ t) k)

  flags-of : le16 s (i + 6) ≡ flags_of (length p.payload) p.extra m
  unfolding byte_at
  flags-of = rw (here (i + 6) 6 refl, here (i + 6 + 1) 7 (omega arith)) (omega (arith, fit.payload_fits, fit.extra_fits))

  address-of : le32 s (i + 2) ≡ p.address
  unfolding byte_at
  address-of =
      rw (here (i + 2) 2 refl, here (i + 2 + 1) 3 (omega arith), here (i + 2 + 2) 4 (omega arith), here (i + 2 + 2 + 1) 5 (omega arith)) (bytes32-back p.address fit.address_fits)

  irq-of : le16 s (i + 8) ≡ p.irq
  unfolding byte_at
  irq-of = rw (here (i + 8) 8 refl, here (i + 8 + 1) 9 (omega arith)) (omega (arith, fit.irq_fits))

  behind : (k : ℕ) → byte_at (pdu_bytes p m ++ t) (10 + (length p.payload + k)) ≡ byte_at (bytes16 p.counter ++ t) k
  behind k =
      ap (λ (l : List ℕ). byte_at (head p m ++ l) (10 + (length p.payload + k))) (append_assoc p.payload (bytes16 p.counter) t)
      ∙ byte-behind (head p m) (p.payload ++ (bytes16 p.counter ++ t)) (length p.payload + k)
      ∙ byte-behind p.payload (bytes16 p.counter ++ t) k

  counter-of : le16 s (i + (10 + length p.payload)) ≡ p.counter
  unfolding byte_at
  counter-of =
      let n = length p.payload in
      let a : byte_at s (i + (10 + n)) ≡ p.counter % 256 = here (i + (10 + n)) (10 + (n + 0)) (omega arith) ∙ behind 0 in
      let b : byte_at s (i + (10 + n) + 1) ≡ p.counter / 256 % 256 = here (i + (10 + n) + 1) (10 + (n + 1)) (omega arith) ∙ behind 1 in
      omega (arith, fit.counter_fits)

  payload-of : payload_of s (shown i p m) ≡ p.payload
  unfolding payload_of
  payload-of =
      rw (e, at, drop-append-add pre (pdu_bytes p m ++ t) 10, append_assoc p.payload (bytes16 p.counter) t) (take_at p.payload (bytes16 p.counter ++ t) (length p.payload) refl)

  stands_at : pdu_from s i ≡ p
  unfolding byte_at payload_of
  stands_at =
      let l = length p.payload in
      let n = flags-length l p.extra m fit.payload_fits fit.extra_fits in
      let x = flags-extra l p.extra m fit.payload_fits fit.extra_fits in
      rw (flags-of, n, x, here (i + 1) 1 refl, address-of, irq-of, counter-of, payload-of, here i 0 (omega arith)) refl

  seen-at : seen_at s i ≡ shown i p m
  unfolding seen_at byte_at
  seen-at =
      let l = length p.payload in
      let n = flags-length l p.extra m fit.payload_fits fit.extra_fits in
      let c = flags-circulated l p.extra m fit.payload_fits fit.extra_fits in
      let f = flags-more l p.extra m fit.payload_fits fit.extra_fits mb in
      rw (flags-of, n, c, f, here (i + 1) 1 refl, address-of, irq-of, counter-of, here i 0 (omega arith)) refl

-- ---- a row of PDUs from i on

-- their places
places : (ps : List Pdu) (p : Pdu) (pre t s : List ℕ) (f i end : ℕ) → AllFit (p ∷ ps) → s ≡ pre ++ (layout (p ∷ ps) ++ t) → i ≡ length pre
    → end ≡ i + length (layout (p ∷ ps)) → end - i ≤ f → places_at f s i end ≡ good (starts i (p ∷ ps))
unfolding AllFit layout starts
places [] p pre t s f i end fit e at to fuel =
    let l = length p.payload in
    let len : length (layout (p ∷ [])) ≡ 12 + l + length (layout []) = layout-length p [] in
    let none = layout-none in
    let fl = flags-of pre t p 0 fit.0 (omega arith) s (e ∙ ap (λ (z : List ℕ). pre ++ (z ++ t)) (layout-one p)) i at in
    let n = flags-length l p.extra 0 fit.0.payload_fits fit.0.extra_fits in
    let d = places_step f s i end (omega arith) fuel in
    rw (d.2, fl) (body-last _ i end (flags_of l p.extra 0) (rightly-laid [] p i end fit.0 (omega arith)) (omega arith))
places (q ∷ ps) p pre t s f i end fit e at to fuel =
    let l = length p.payload in
    let len : length (layout (p ∷ q ∷ ps)) ≡ 12 + l + length (layout (q ∷ ps)) = layout-length p (q ∷ ps) in
    let here : s ≡ pre ++ (pdu_bytes p 1 ++ (layout (q ∷ ps) ++ t)) = e ∙ ap (λ (z : List ℕ). pre ++ z) (append_assoc (pdu_bytes p 1) (layout (q ∷ ps)) t) in
    let fl = flags-of pre (layout (q ∷ ps) ++ t) p 1 fit.0 (omega arith) s here i at in
    let n = flags-length l p.extra 1 fit.0.payload_fits fit.0.extra_fits in
    let d = places_step f s i end (omega arith) fuel in
    let g : end - (i + 10) ≤ d.0 = d.1 in
    let more : 12 ≤ length (layout (q ∷ ps)) = omega (arith, layout-length q ps) in
    let k : pdu_end i (flags_of l p.extra 1) ≡ i + (12 + l) = omega arith in
    let rest = places ps q (pre ++ pdu_bytes p 1) t s d.0 (i + (12 + l)) end fit.1
    (here ∙ sym (append_assoc pre (pdu_bytes p 1) (layout (q ∷ ps) ++ t)))
    (omega (arith, length-append pre (pdu_bytes p 1), pdu_length p 1))
    (omega arith)
    (omega arith) in
    rw (d.2, fl) (body_more _ i end (flags_of l p.extra 1) (rightly-laid (q ∷ ps) p i end fit.0 (omega arith)) (λ z. omega arith) ∙ ap (before i) (ap (λ (z : ℕ). places_at d.0 s z end) k ∙ rest))

-- what is seen at them, their payloads, and the PDUs themselves
seen_all_lem : (ps : List Pdu) (pre t s : List ℕ) (i : ℕ) → AllFit ps → s ≡ pre ++ (layout ps ++ t) → i ≡ length pre
    → (map (seen_at s) (starts i ps) ≡ shown_all i ps) × (map (payload_of s) (shown_all i ps) ≡ map (λ (p : Pdu). p.payload) ps)
    × (map (pdu_from s) (starts i ps) ≡ ps)
unfolding AllFit layout starts shown_all
seen_all_lem [] pre t s i fit e at = (refl, refl, refl)
seen_all_lem (p ∷ ps) pre t s i fit e at =
    let m = follows ps in
    let here : s ≡ pre ++ (pdu_bytes p m ++ (layout ps ++ t)) = e ∙ ap (λ (z : List ℕ). pre ++ z) (append_assoc (pdu_bytes p m) (layout ps) t) in
    let one = seen-at pre (layout ps ++ t) p m fit.0 (follows-most ps) s here i at in
    let bytes = payload-of pre (layout ps ++ t) p m fit.0 (follows-most ps) s here i at in
    let itself = stands_at pre (layout ps ++ t) p m fit.0 (follows-most ps) s here i at in
    let rest = seen_all_lem ps (pre ++ pdu_bytes p m) t s (i + (12 + length p.payload)) fit.1
    (here ∙ sym (append_assoc pre (pdu_bytes p m) (layout ps ++ t)))
    (omega (arith, length-append pre (pdu_bytes p m), pdu_length p m)) in
    (rw (one, rest.0) refl, rw (bytes, rest.1) refl, rw (itself, rest.2) refl)

-- ---- a frame of PDUs

module _ (s : List ℕ) (ps : List Pdu) (w : WellFormed s ps) where
  two : length (take 2 s) ≡ 2
  two = length-take-le 2 s w.header_there

  split : s ≡ take 2 s ++ (layout ps ++ w.after)
  split = sym (take-append-drop 2 s) ∙ ap (λ (z : List ℕ). take 2 s ++ z) w.pdus

  split-length : length s ≡ 2 + (length (layout ps) + length w.after)
  split-length =
      ap length split ∙ length-append (take 2 s) (layout ps ++ w.after)
      ∙ (let t = two in let a = length-append (layout ps) w.after in omega arith)

well-places : (s : List ℕ) (ps : List Pdu) → WellFormed s ps → frame_of s ≡ good (starts 2 ps)
unfolding starts
well-places s [] w = frame-none s w.header_there w.type_one (w.length_is ∙ layout-none)
well-places s (p ∷ ps) w =
    let k = length (layout (p ∷ ps)) in
    let n : length_of (le16 s 0) ≡ k = w.length_is in
    let pos : 0 < k = omega (arith, layout-length p ps) in
    let fits : k + 2 ≤ length s = omega (arith, split-length s (p ∷ ps) w) in
    frame-some s w.header_there w.type_one (omega arith) (λ z. omega arith)
    ∙ places ps p (take 2 s) w.after s (length s) 2 (length_of (le16 s 0) + 2) w.fit (split s (p ∷ ps) w) (sym (two s (p ∷ ps) w)) (omega arith) (omega arith)

-- its PDUs are seen where they start
pub well_seen : (s : List ℕ) (ps : List Pdu) → WellFormed s ps → map (seen_at s) (starts 2 ps) ≡ shown_all 2 ps
well_seen s ps w = (seen_all_lem ps (take 2 s) w.after s 2 w.fit (split s ps w) (sym (two s ps w))).0

-- its length lies within the bytes
pub well-fits : (s : List ℕ) (ps : List Pdu) → WellFormed s ps → length_of (le16 s 0) + 2 ≤ length s
well-fits s ps w = let n : length_of (le16 s 0) ≡ length (layout ps) = w.length_is in omega (arith, split-length s ps w)

-- no well-formed frame is refused: its PDUs are read, in order, with all fields
pub well-read : (s : List ℕ) (ps : List Pdu) → WellFormed s ps → read_of s ≡ read (shown_all 2 ps)
well-read s ps w = read_as s (starts 2 ps) (shown_all 2 ps) (well-places s ps w) (well_seen s ps w)

-- .. and their payloads are where they are said to be
pub well-payloads : (s : List ℕ) (ps : List Pdu) → WellFormed s ps → map (payload_of s) (shown_all 2 ps) ≡ map (λ (p : Pdu). p.payload) ps
well-payloads s ps w = (seen_all_lem ps (take 2 s) w.after s 2 w.fit (split s ps w) (sym (two s ps w))).1

-- bytes are a frame of one row of PDUs only
pub well-one : (s : List ℕ) (ps qs : List Pdu) → WellFormed s ps → WellFormed s qs → ps ≡ qs
well-one s ps qs v w =
    let a : good (starts 2 ps) ≡ good (starts 2 qs) = sym (well-places s ps v) ∙ well-places s qs w in
    let b : starts 2 ps ≡ starts 2 qs = cc in
    sym (stands s ps v) ∙ ap (map (pdu_from s)) b ∙ stands s qs w
  where
    stands : (s : List ℕ) (ps : List Pdu) (w : WellFormed s ps) → map (pdu_from s) (starts 2 ps) ≡ ps
    stands s ps w = (seen_all_lem ps (take 2 s) w.after s 2 w.fit (split s ps w) (sym (two s ps w))).2

-- ---- a frame that is built: the header, PDUs, and whatever comes after

head-word : (n : ℕ) (l : List ℕ) → n < 2048 → le16 (frame_header n ++ l) 0 ≡ n + 4096
unfolding byte_at
head-word n l h = omega arith

module _ (ps : List Pdu) (t : List ℕ) (fit : AllFit ps) (h : length (layout ps) < 2048) where
  pub frame-well : WellFormed (frame_header (length (layout ps)) ++ (layout ps ++ t)) ps
  frame-well =
      let w = head-word (length (layout ps)) (layout ps ++ t) h in
      record { after = t; fit = fit; header_there = omega arith; type_one = rw w (omega arith); length_is = rw w (omega arith); pdus = refl }

  pub frame-read : read_of (frame_header (length (layout ps)) ++ (layout ps ++ t)) ≡ read (shown_all 2 ps)
  frame-read = well-read _ ps frame-well

  pub frame-payloads : map (payload_of (frame_header (length (layout ps)) ++ (layout ps ++ t))) (shown_all 2 ps) ≡ map (λ (p : Pdu). p.payload) ps
  frame-payloads = well-payloads _ ps frame-well

-- ---- PDUs behind others

pub shown-length : (i : ℕ) (ps : List Pdu) → length (shown_all i ps) ≡ length ps
unfolding shown_all
shown-length i [] = refl
shown-length i (p ∷ ps) = ap suc (shown-length (i + (12 + length p.payload)) ps)

-- the others are seen as before, with more-follows set in the last of them
pub shown-append : (ps : List Pdu) (q : Pdu) (qs : List Pdu) (i : ℕ) → shown_all i (ps ++ (q ∷ qs)) ≡ with_more (shown_all i ps) ++ shown_all (i + length (layout ps)) (q ∷ qs)
unfolding shown_all with_more
shown-append [] q qs i = rw (layout-none, add-zero i) refl
shown-append (p ∷ []) q qs i =
    let k : i + length (layout (p ∷ [])) ≡ i + (12 + length p.payload) = omega (arith, layout-length p [], layout-none) in
    rw k refl
shown-append (p ∷ r ∷ ps) q qs i =
    let k : i + length (layout (p ∷ r ∷ ps)) ≡ i + (12 + length p.payload) + length (layout (r ∷ ps)) = omega (arith, layout-length p (r ∷ ps)) in
    rw k (ap (λ (z : List PduFields). shown i p 1 ∷ z) (shown-append (r ∷ ps) q qs (i + (12 + length p.payload))))

more-length : (vs : List PduFields) → length (with_more vs) ≡ length vs
unfolding with_more
more-length [] = refl
more-length (v ∷ []) = refl
more-length (v ∷ w ∷ vs) = ap suc (more-length (w ∷ vs))

pub shown-front : (i : ℕ) (ps : List Pdu) (q : Pdu) (qs : List Pdu) → take (length ps) (shown_all i (ps ++ (q ∷ qs))) ≡ with_more (shown_all i ps)
shown-front i ps q qs = rw (shown-append ps q qs i) (take_at (with_more (shown_all i ps)) _ (length ps) (more-length (shown_all i ps) ∙ shown-length i ps))
