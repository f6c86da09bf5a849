-- What our builder leaves in an area is read back. A push turns a row of PDUs and zeros into that row with one more, and fewer zeros; the rest is induction over the calls.
use Rattle.std.proofs.Common.{◌≡◌, ℕ, suc, ◌+◌, ◌-◌, ◌*◌, ◌/◌, ◌%◌, ◌<◌, ◌≤◌, max, Bool, true, false, eqb, ◌≢◌, List, [], ◌∷◌, ◌++◌, map, length, take, drop, set, replicate, sym, refl, ap, ◌∙◌, append_assoc, append-nil, suc-add, zero-add, arith, length-append, length-take, take_at, drop_at, ne_eqb, le-leb, leb-true}
use borrow.Author.Tests.{eqb-false}
use lib.ListN.{length-replicate, replicate-append-replicate}
use Rattle.refusal.specs.Said.{pick}
use Rattle.wire.specs.Bytes.{byte_at, overlay}
use Rattle.wire.proofs.Laws.{byte-behind}
use Rattle.wire.proofs.Overlay.{overlay-behind}
use Rattle.pdu.specs.Pdu.{area_most, Pdu, Fits, flags_of, header_of, head, pdu_bytes, layout, chained, last_at, AllFit, frame_header}
use Rattle.pdu.specs.Read.{read_of, read, shown_all, payload_of}
use Rattle.pdu.specs.Grammar.{WellFormed}
use Rattle.pdu.proofs.Rows.{pdu_length, layout-none, layout-length, append-length, chained-length, counted, last_in, layout_snoc, last_snoc, fit_append}
use Rattle.pdu.proofs.Reading.{frame-well, frame-read, frame-payloads}
use Rattle.created_frame.specs.declared.Builder.{Builder}
use Rattle.created_frame.specs.Frame.{more_on, more, marked, sound, acceptable, room, with_pdu, grown, fresh, after_open, pushed_builder, after_push, taken, rest_builder, after_rest}
use Rattle.created_frame.proofs.Whole.{pdu_behind}
use Rattle.created_frame.specs.Built.{made, push_adds, rest_adds, Ours, just_opened, then_pushed, then_rest, Built, Call, a_push, a_rest, Kept, opened_with, called, adds, run, run_adds, Addressed}

-- ---- more-follows set in a row of PDUs

set-behind : (xs ys : List ℕ) (k v : ℕ) → set (xs ++ ys) (length xs + k) v ≡ xs ++ set ys k v
set-behind [] ys k v = rw zero-add
set-behind (x ∷ xs) ys k v = rw suc-add (ap (λ (l : List ℕ). x ∷ l) (set-behind xs ys k v))

more-behind : (xs ys : List ℕ) (k : ℕ) → more (xs ++ ys) (length xs + k) ≡ xs ++ more ys k
unfolding more
more-behind xs ys k = rw (byte-behind xs ys k) (set-behind xs ys k (more_on (byte_at ys k)))

-- bit 15 of the flags is bit 7 of their second byte
flags-set : (l extra : ℕ) → l < 2048 → extra < 16
    → (flags_of l extra 0 % 256 ≡ flags_of l extra 1 % 256) × (more_on (flags_of l extra 0 / 256 % 256) ≡ flags_of l extra 1 / 256 % 256)
flags-set l extra h g = (omega arith, omega arith)

more-one : (p : Pdu) (rest : List ℕ) → Fits p → more ((pdu_bytes p 0 ++ []) ++ rest) (0 + 7) ≡ (pdu_bytes p 1 ++ []) ++ rest
unfolding more byte_at
more-one p rest fit =
    let e = flags-set (length p.payload) p.extra fit.payload_fits fit.extra_fits in
    rw (e.0, e.1) refl

-- more-follows set in the last one stands in all of them
more-layout : (ps : List Pdu) (p : Pdu) (rest : List ℕ) → AllFit (p ∷ ps) → more (layout (p ∷ ps) ++ rest) (last_at (p ∷ ps) + 7) ≡ chained (p ∷ ps) ++ rest
unfolding layout chained last_at AllFit
more-layout [] p rest fit = more-one p rest fit.0
more-layout (q ∷ ps) p rest fit =
    let e : 12 + length p.payload + last_at (q ∷ ps) + 7 ≡ length (pdu_bytes p 1) + (last_at (q ∷ ps) + 7) = omega (arith, pdu_length p 1) in
    rw (e, append_assoc (pdu_bytes p 1) (layout (q ∷ ps)) rest) (more-behind (pdu_bytes p 1) (layout (q ∷ ps) ++ rest) (last_at (q ∷ ps) + 7)
    ∙ ap (λ (l : List ℕ). pdu_bytes p 1 ++ l) (more-layout ps q rest fit.1) ∙ sym (append_assoc (pdu_bytes p 1) (chained (q ∷ ps)) rest))

marked-layout : (ps : List Pdu) (rest : List ℕ) → AllFit ps → marked (layout ps ++ rest) (length ps) (last_at ps) ≡ chained ps ++ rest
unfolding marked layout chained
marked-layout [] rest fit = refl
marked-layout (p ∷ ps) rest fit = rw (ne_eqb (suc (length ps)) 0 (λ z. omega arith)) (more-layout ps p rest fit)

-- ---- a PDU laid over zeros

abbrev zeros : ℕ → List ℕ
zeros n = replicate n 0

drop-zeros : (k n : ℕ) → drop k (zeros (k + n)) ≡ zeros n
drop-zeros k n = rw (← replicate-append-replicate {A = ℕ} k n 0) (drop_at (zeros k) (zeros n) k (length-replicate {A = ℕ} k 0))

pub made-length : (index command address : ℕ) (bytes : List ℕ) (len : ℕ) → length bytes ≤ len → length (made index command address bytes len).payload ≡ len
made-length index command address bytes len h = simp (length-append, length-replicate) (omega arith)

header-head : (index command address : ℕ) (bytes : List ℕ) (len : ℕ) → length bytes ≤ len
    → header_of command index address len 0 ≡ head (made index command address bytes len) 0
header-head index command address bytes len h =
    let p = made index command address bytes len in
    let e : len ≡ flags_of (length p.payload) 0 0 = omega (arith, made-length index command address bytes len h) in
    ap (λ (z : ℕ). header_of command index address z 0) e

-- the header and the given bytes laid over zeros are the PDU, and zeros
pdu_zeros : (index command address : ℕ) (bytes : List ℕ) (len free : ℕ) → length bytes ≤ len
    → let ys = header_of command index address len 0 ++ bytes in
    ys ++ drop (length ys) (zeros (len + 12 + free)) ≡ pdu_bytes (made index command address bytes len) 0 ++ zeros free
pdu_zeros index command address bytes len free h =
    let gap = len - length bytes in
    let k : length (header_of command index address len 0 ++ bytes) ≡ 10 + length bytes = length-append (header_of command index address len 0) bytes in
    let n : len + 12 + free ≡ 10 + length bytes + (gap + suc (suc free)) = omega arith in
    let d : drop (10 + length bytes) (zeros (10 + length bytes + (gap + suc (suc free)))) ≡ zeros gap ++ (0 ∷ 0 ∷ zeros free) =
    drop-zeros (10 + length bytes) (gap + suc (suc free)) ∙ sym (replicate-append-replicate {A = ℕ} gap (suc (suc free)) 0) in
    rw (k, n, d) (ap (λ (l : List ℕ). (l ++ bytes) ++ (zeros gap ++ (0 ∷ 0 ∷ zeros free))) (header-head index command address bytes len h) ∙ simp append_assoc)

-- ---- areas that our builder made

module _ (ps : List Pdu) (xs : List ℕ) (b : Builder) (h : Built ps xs b) where
  pub built-length : length xs ≡ b.used + h.free
  built-length = ap length h.bytes ∙ length-append (layout ps) (zeros h.free) ∙ rw (length-replicate {A = ℕ} h.free 0, h.used_is) refl

  module _ (index command address : ℕ) (given : List ℕ) (len : ℕ) (a : address < 4294967296) (le : length given ≤ len) (fits : b.used + (len + 12) ≤ length xs) where
    abbrev q : Pdu
    q = made index command address given len

    made-fits : Fits q
    made-fits =
        let l : length xs ≤ 2047 = h.small in
        record { address_fits = a; extra_fits = omega arith; irq_fits = omega arith; payload_fits = rw (made-length index command address given len le) (omega arith); counter_fits = omega arith }

    one-fits : AllFit (q ∷ [])
    unfolding AllFit
    one-fits = (made-fits, tt)

    laid_one : with_pdu xs b index command address len given ≡ layout (ps ++ (q ∷ [])) ++ zeros (h.free - (len + 12))
    laid_one =
        let bl : length xs ≡ b.used + h.free = built-length in
        let f : h.free ≡ len + 12 + (h.free - (len + 12)) = omega arith in
        let m : marked xs b.count b.last ≡ chained ps ++ zeros h.free =
        ap (λ (z : List ℕ). marked z b.count b.last) h.bytes ∙ rw (h.count_is, h.last_is) (marked-layout ps (zeros h.free) h.fit) in
        let u : b.used ≡ length (chained ps) = h.used_is ∙ sym (chained-length ps) in
        let ys = header_of command index address len 0 ++ given in
        let o : overlay (marked xs b.count b.last) b.used ys ≡ chained ps ++ (ys ++ drop (length ys) (zeros h.free)) =
        rw (m, u) (overlay-behind (chained ps) (zeros h.free) ys) in
        let z : ys ++ drop (length ys) (zeros h.free) ≡ pdu_bytes q 0 ++ zeros (h.free - (len + 12)) =
        ap (λ (k : ℕ). ys ++ drop (length ys) (zeros k)) f ∙ pdu_zeros index command address given len (h.free - (len + 12)) le in
        pdu_behind xs b index command address len given ∙ o ∙ ap (λ (t : List ℕ). chained ps ++ t) z ∙ sym (append_assoc (chained ps) (pdu_bytes q 0) (zeros (h.free - (len + 12))))
        ∙ ap (λ (t : List ℕ). t ++ zeros (h.free - (len + 12))) (sym (layout_snoc ps q))

    -- one PDU more
    built-more : Built (ps ++ (q ∷ [])) (with_pdu xs b index command address len given) (grown b len)
    built-more =
        let l : length xs ≤ 2047 = h.small in
        let bl : length xs ≡ b.used + h.free = built-length in
        let n : length (layout (ps ++ (q ∷ []))) ≡ length (layout ps) + (len + 12) =
        omega (arith, append-length ps (q ∷ []), layout-length q [], layout-none, made-length index command address given len le) in
        let w : length (with_pdu xs b index command address len given) ≡ length (layout (ps ++ (q ∷ []))) + (h.free - (len + 12)) =
        ap length laid_one ∙ length-append (layout (ps ++ (q ∷ []))) (zeros (h.free - (len + 12))) ∙ rw (length-replicate {A = ℕ} (h.free - (len + 12)) 0) refl in
        record {
          free = h.free - (len + 12);
          bytes = laid_one;
          small = omega (arith, h.used_is);
          used_is = omega (arith, h.used_is);
          count_is = ap (λ (k : ℕ). k + 1) h.count_is ∙ sym (length-append ps (q ∷ []));
          last_is = h.used_is ∙ sym (last_snoc ps q);
          fit = fit_append ps (q ∷ []) h.fit one-fits;
        }

  -- it is read back: all its PDUs, in order, with all fields
  frame_is : frame_header b.used ++ take b.used xs ≡ frame_header (length (layout ps)) ++ (layout ps ++ [])
  frame_is =
      let t : take b.used xs ≡ layout ps = ap (λ (z : List ℕ). take b.used z) h.bytes ∙ take_at (layout ps) (zeros h.free) b.used (sym h.used_is) in
      rw (t, h.used_is, append-nil) refl

  short : length (layout ps) < 2048
  short =
      let l : length xs ≤ 2047 = h.small in
      omega (arith, built-length, h.used_is)

  pub built-well : WellFormed (frame_header b.used ++ take b.used xs) ps
  built-well = rw frame_is (frame-well ps [] h.fit short)

  pub built-read : read_of (frame_header b.used ++ take b.used xs) ≡ read (shown_all 2 ps)
  built-read = ap read_of frame_is ∙ frame-read ps [] h.fit short

  -- .. and payload bytes
  pub built-payloads : map (payload_of (frame_header b.used ++ take b.used xs)) (shown_all 2 ps) ≡ map (λ (p : Pdu). p.payload) ps
  built-payloads = rw frame_is (frame-payloads ps [] h.fit short)

-- ---- every area that was opened and pushed into is such a one

pub built_open : (size : ℕ) → size ≤ area_most → Built [] (zeros size) fresh
unfolding layout last_at AllFit
built_open size h =
    record { free = size; bytes = refl; small = rw (length-replicate {A = ℕ} size 0) h; used_is = refl; count_is = refl; last_is = refl; fit = tt }

module _ (ps : List Pdu) (xs : List ℕ) (b : Builder) (h : Built ps xs b) where
  unchanged : Built (ps ++ []) xs b
  unchanged = rw append-nil h

  module _ (index command address : ℕ) (given : List ℕ) (a : address < 4294967296) where
    -- by the outcomes of its tests
    push-by : (over : ℕ) (t r : Bool) → room (length xs) b (max (length given) over) ≡ r
        → let len = max (length given) over in
        Built (ps ++ pick t (pick r (made index command address given len ∷ []) []) []) (pick t (pick r (with_pdu xs b index command address len given) xs) xs) (pick t (pick r (grown b len) b) b)
    unfolding room
    push-by over true true e = built-more ps xs b h index command address given (max (length given) over) a (omega arith) (leb-true _ _ e)
    push-by over true false e = unchanged
    push-by over false r e = unchanged

    built-push : (over : ℕ)
        → Built (ps ++ push_adds (length xs) b index command address given over) (after_push xs b index command address given over) (pushed_builder (length xs) b command (length given) over)
    unfolding push_adds after_push pushed_builder
    built-push over = push-by over (acceptable (length xs) b command (length given) over) _ refl

    rest-by : (t e : Bool) → eqb (taken (length xs) b.used (length given)) 0 ≡ e
        → let n = taken (length xs) b.used (length given) in
        Built (ps ++ pick t (pick e [] (made index command address (take n given) n ∷ [])) []) (pick t (pick e xs (with_pdu xs b index command address n (take n given))) xs) (pick t (pick e b (grown b n)) b)
    rest-by true false e =
        let n = taken (length xs) b.used (length given) in
        let pos : n ≢ 0 = eqb-false n 0 e in
        built-more ps xs b h index command address (take n given) n a (simp length-take (omega arith)) (omega arith)
    rest-by true true e = unchanged
    rest-by false r e = unchanged

    pub built_rest : Built (ps ++ rest_adds (length xs) b index command address given) (after_rest xs b index command address given) (rest_builder (length xs) b command (length given))
    unfolding rest_adds after_rest rest_builder
    built_rest = rest-by (acceptable (length xs) b command (length given) 0) _ refl

pub ours-built : {ps : List Pdu} {xs : List ℕ} {b : Builder} → Ours ps xs b → Built ps xs b
unfolding after_open
ours-built (just_opened xs h) = rw (le-leb (length xs) area_most h) (built_open (length xs) h)
ours-built (then_pushed {ps = ps} {xs = xs} {b = b} index command address bytes over o a) =
    built-push ps xs b (ours-built o) index command address bytes a over
ours-built (then_rest {ps = ps} {xs = xs} {b = b} index command address bytes o a) =
    built_rest ps xs b (ours-built o) index command address bytes a

-- THE THEOREM: the header and the used bytes are a frame that is read, and it gives back the PDUs that were pushed, in order, with their payloads
pub ours-read : {ps : List Pdu} {xs : List ℕ} {b : Builder} → Ours ps xs b → read_of (frame_header b.used ++ take b.used xs) ≡ read (shown_all 2 ps)
ours-read {ps} {xs} {b} o = built-read ps xs b (ours-built o)

pub ours-payloads : {ps : List Pdu} {xs : List ℕ} {b : Builder} → Ours ps xs b
    → map (payload_of (frame_header b.used ++ take b.used xs)) (shown_all 2 ps) ≡ map (λ (p : Pdu). p.payload) ps
ours-payloads {ps} {xs} {b} o = built-payloads ps xs b (ours-built o)

-- ---- its state is never refused as 14

pub built-sound : (ps : List Pdu) (xs : List ℕ) (b : Builder) → Built ps xs b → sound (length xs) b ≡ true
unfolding sound
built-sound [] xs b h =
    let u : b.used ≡ 0 = h.used_is ∙ layout-none in
    let n : b.count ≡ 0 = h.count_is in
    simp (le-leb (length xs) 2047 h.small, u, n, le-leb 0 (length xs) (omega arith))
built-sound (p ∷ ps) xs b h =
    let l = built-length (p ∷ ps) xs b h in
    let n : b.count ≡ suc (length ps) = h.count_is in
    let e : 12 * b.count ≤ b.used = omega (arith, counted (p ∷ ps), h.used_is) in
    let f : b.last + 10 ≤ b.used = omega (arith, last_in ps p, h.used_is, h.last_is) in
    simp (le-leb (length xs) 2047 h.small, le-leb b.used (length xs) (omega arith), ne_eqb b.count 0 (λ z. omega arith), le-leb (12 * b.count) b.used e, le-leb (b.last + 10) b.used f)

pub ours-sound : {ps : List Pdu} {xs : List ℕ} {b : Builder} → Ours ps xs b → sound (length xs) b ≡ true
ours-sound {ps} {xs} {b} o = built-sound ps xs b (ours-built o)

-- ---- a row of calls

run-ours : (cs : List Call) (ps : List Pdu) (k : Kept) → Addressed cs → Ours ps k.area k.builder → Ours (ps ++ run_adds k cs) (run k cs).area (run k cs).builder
unfolding run run_adds Addressed
run-ours [] ps k a o = rw append-nil o
run-ours (a_push command address bytes over ∷ cs) ps k a o =
    let c = a_push command address bytes over in
    rw (← append_assoc ps (adds k c) (run_adds (called k c) cs)) (run-ours cs (ps ++ adds k c) (called k c) a.1 (then_pushed k.next command address bytes over o a.0))
run-ours (a_rest command address bytes ∷ cs) ps k a o =
    let c = a_rest command address bytes in
    rw (← append_assoc ps (adds k c) (run_adds (called k c) cs)) (run-ours cs (ps ++ adds k c) (called k c) a.1 (then_rest k.next command address bytes o a.0))

module _ (xs : List ℕ) (index : ℕ) (cs : List Call) (small : length xs ≤ area_most) (a : Addressed cs) where
  abbrev k : Kept
  k = run (opened_with xs index) cs

  abbrev frame : List ℕ
  frame = frame_header k.builder.used ++ take k.builder.used k.area

  run_is : Ours (run_adds (opened_with xs index) cs) k.area k.builder
  run_is = run-ours cs [] (opened_with xs index) a (just_opened xs small)

  -- THE THEOREM for a row of calls from an opened area, whatever is refused in between
  pub run-read : read_of frame ≡ read (shown_all 2 (run_adds (opened_with xs index) cs))
  run-read = ours-read run_is

  pub run-payloads : map (payload_of frame) (shown_all 2 (run_adds (opened_with xs index) cs)) ≡ map (λ (p : Pdu). p.payload) (run_adds (opened_with xs index) cs)
  run-payloads = ours-payloads run_is

  pub run-well : WellFormed frame (run_adds (opened_with xs index) cs)
  run-well = built-well (run_adds (opened_with xs index) cs) k.area k.builder (ours-built run_is)

  pub run_sound : sound (length k.area) k.builder ≡ true
  run_sound = ours-sound run_is
