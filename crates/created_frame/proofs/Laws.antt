-- Laws of the definitions that the contracts cite: what an accepted state is, how a PDU is laid, and each way out of a push.
use Rattle.std.proofs.Common.{◌≡◌, ℕ, ◌+◌, ◌*◌, ◌%◌, ◌≤◌, Bool, true, false, ◌&&◌, eqb, leb, ◌≢◌, List, length, take, refl, ap, ◌∙◌, arith, length-set, length-take, eqb-true, le-leb, leb-true}
use borrow.Author.Tests.{eqb-false}
use Rattle.refusal.specs.Said.{pick}
use Rattle.refusal.proofs.Tests.{both}
use Rattle.wire.specs.Bytes.{overlay, laid}
use Rattle.wire.proofs.Laws.{length-overlay, overlay-next, laid-whole}
use Rattle.pdu.specs.Pdu.{area_most, pdu_overhead, header_bytes, header_of}
use Rattle.created_frame.specs.declared.Builder.{Builder}
use Rattle.created_frame.specs.declared.PduResponseHandle.{PduResponseHandle}
use Rattle.created_frame.specs.declared.Push.{Push}
use Rattle.created_frame.specs.Answers.{said_pushed}
use Rattle.created_frame.specs.Bounds.{Sound, InBounds}
use Rattle.created_frame.specs.Frame.{command_most, data_most, more, marked, sound, acceptable, with_pdu, Roomy, pushed, pushed_builder, pushed_next, after_push, taken}

-- ---- what an accepted state and lengths are

-- the facts that `sound` tests, both ways
pub sound_facts : (size : ℕ) (b : Builder) → sound size b ≡ true → Sound size b
unfolding sound
sound_facts size b e =
    let t = both _ _ e in
    let v = both _ _ t.0 in
    go (eqb b.count 0) refl (leb-true _ _ v.0) (leb-true _ _ v.1) t.1
  where
    go : (t : Bool) → eqb b.count 0 ≡ t → size ≤ area_most → b.used ≤ size
        → pick t (eqb b.used 0) (leb (pdu_overhead * b.count) b.used && leb (b.last + header_bytes) b.used) ≡ true → Sound size b
    go true q s i e =
        let n : b.count ≡ 0 = eqb-true _ _ q in
        let u : b.used ≡ 0 = eqb-true _ _ e in
        record { small = s; inside = i; none_used = λ z. u; counted = omega arith; header_in = λ h. omega arith }
    go false q s i e =
        let p = both _ _ e in
        record { small = s; inside = i; none_used = λ z. absurd (eqb-false _ _ q z); counted = leb-true _ _ p.0; header_in = λ h. leb-true _ _ p.1 }

pub facts_sound : (size : ℕ) (b : Builder) → Sound size b → sound size b ≡ true
unfolding sound
facts_sound size b f = go (eqb b.count 0) refl
  where
    go : (t : Bool) → eqb b.count 0 ≡ t → sound size b ≡ true
    go true q =
        let u : b.used ≡ 0 = f.none_used (eqb-true _ _ q) in
        simp (q, u, le-leb size area_most f.small, le-leb 0 size (omega arith))
    go false q =
        let h : b.last + header_bytes ≤ b.used = f.header_in (let z : b.count ≢ 0 = eqb-false _ _ q in omega arith) in
        simp (q, le-leb size area_most f.small, le-leb b.used size f.inside, le-leb (pdu_overhead * b.count) b.used f.counted, le-leb (b.last + header_bytes) b.used h)

-- .. and those that `acceptable` tests
pub accepted : (size : ℕ) (b : Builder) (command given over : ℕ) → acceptable size b command given over ≡ true → InBounds size b command given over
unfolding acceptable
accepted size b command given over e =
    let p = both _ _ e in
    let q = both _ _ p.0 in
    let s = both _ _ q.0 in
    record { state = sound_facts size b s.0; known = leb-true _ _ s.1; given_fits = leb-true _ _ q.1; over_fits = leb-true _ _ p.1 }

pub bounds-accepted : (size : ℕ) (b : Builder) (command given over : ℕ) → InBounds size b command given over → acceptable size b command given over ≡ true
unfolding acceptable
bounds-accepted size b command given over f =
    simp (facts_sound size b f.state, le-leb command command_most f.known, le-leb given data_most f.given_fits, le-leb over data_most f.over_fits)

-- ---- how a PDU is laid

pub length_marked : (xs : List ℕ) (count last : ℕ) → length (marked xs count last) ≡ length xs
unfolding marked more
length_marked xs count last = at (eqb count 0)
  where
    at : (t : Bool) → length (pick t xs (more xs (last + 7))) ≡ length xs
    at true = refl
    at false = length-set xs (last + 7) _

-- the header laid in the marked area, and then the payload behind it
pub pdu_laid : (xs ys zs ws head bytes : List ℕ) (b : Builder) (index command address len : ℕ) → Roomy (length xs) b len (length bytes)
    → ys ≡ marked xs b.count b.last
    → head ≡ header_of command index address (len % 2048) 0
    → zs ≡ laid ys b.used head
    → ws ≡ laid zs (b.used + 10) bytes
    → ws ≡ with_pdu xs b index command address len bytes
pdu_laid xs ys zs ws head bytes b index command address len r y d z w =
    let m : len % 2048 ≡ len = omega arith in
    let h = header_of command index address len 0 in
    let l : length ys ≡ length xs = ap length y ∙ length_marked xs b.count b.last in
    let e : zs ≡ overlay ys b.used h = z ∙ rw (d, m) (laid-whole ys b.used h (omega arith)) in
    let k : length zs ≡ length ys = ap length e ∙ length-overlay ys b.used h (omega arith) in
    w ∙ laid-whole zs (b.used + 10) bytes (omega arith) ∙ rw (e, y) (overlay-next (marked xs b.count b.last) b.used h bytes (omega (arith, length_marked xs b.count b.last)))

-- where there is room for a PDU
pub has_room : (size : ℕ) (b : Builder) (len given : ℕ) → Sound size b → b.used + (len + 12) ≤ size → given ≤ len → Roomy size b len given
has_room size b len given s h g = record { small = s.small; fits = h; given_fits = g; counted = s.counted; header_in = s.header_in }

-- .. and for one of as many bytes as have room, where some have
pub rest_room : (size : ℕ) (b : Builder) (n : ℕ) (bytes : List ℕ) → Sound size b → n ≡ taken size b.used (length bytes) → (n ≡ 0 → ⊥) → Roomy size b n (length (take n bytes))
rest_room size b n bytes s e z =
    let f : b.used + (n + 12) ≤ size = omega arith in
    has_room size b n (length (take n bytes)) s f (omega (arith, length-take n bytes))

-- what has it in an area has it in the largest
pub in_largest : (size : ℕ) (b : Builder) (len given : ℕ) → Roomy size b len given → Roomy area_most b len 0
in_largest size b len given r =
    record { small = omega arith; fits = omega arith; given_fits = omega arith; counted = r.counted; header_in = r.header_in }

-- ---- what is promised of a push: the answer, the state and the index, and the area

module _ (xs : List ℕ) (b : Builder) (index command address : ℕ) (bytes : List ℕ) (over : ℕ) where
  abbrev pub Met : Push PduResponseHandle → List ℕ → Type 0
  Met r ys =
      (said_pushed r.answer ≡ pushed (length xs) b index command (length bytes) over)
      × (((r.builder ≡ pushed_builder (length xs) b command (length bytes) over) × (r.next ≡ pushed_next (length xs) b index command (length bytes) over))
      × (ys ≡ after_push xs b index command address bytes over))
