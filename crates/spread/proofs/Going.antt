-- The loop over the areas: what is done and what the rest of the run gives are the whole run.
use Rattle.std.specs.Prelude.{Ok, Option}
use mathlib.Core.Path.{◌≡◌, ◌∙◌, sym, refl, ap}
use mathlib.Core.Bool.{Bool, true, false}
use mathlib.Core.List.{List, [], ◌∷◌, ◌++◌, append_assoc, append-nil}
use Prim.Native.Nat.{ℕ, zero, suc, ◌+◌, ◌*◌, ◌-◌, ◌≤◌, ◌<◌}
use native.Mathlib.Nat.{sub-zero, suc-mul, mul-le-mul_right, zero-mul, add-sub_cancel_left}
use borrow.Rule.Slice.PartMut.{put_mid}
use Rattle.spread.proofs.Parts.{part_is, part_length}
use native.Mathlib.Numerals.{add-one}
use native.Mathlib.Omega.{arith}
use borrow.Author.Tests.{eq-eqb, ne_eqb, eqb-true}
use lib.Dec.{eqb}
use Rattle.refusal.specs.Said.{pick}
use lib.ListN.{length, take, drop, set, replicate, length-drop, length-set, take-append-drop}
use lib.Seq.{drop-drop, take-suc-set, drop-set-lt, append_snoc, length-take-le, take_all}
use Rattle.wire.specs.Bytes.{overlay}
use Rattle.wire.proofs.Laws.{length-overlay, overlay_part}
use Rattle.wire.proofs.Overlay.{take-overlay, drop-overlay}
use Rattle.created_frame.specs.declared.Builder.{Builder}
use Rattle.created_frame.specs.declared.PduResponseHandle.{PduResponseHandle}
use Rattle.created_frame.specs.declared.Push.{Push}
use Rattle.created_frame.specs.Answers.{said_rest}
use Rattle.created_frame.specs.Frame.{sound, fresh, taken, rest_pushed, rest_builder, rest_next, after_rest}
use Rattle.created_frame.proofs.States.{opened-sound}
use Rattle.created_frame.proofs.Whole.{length-after_rest}
use Rattle.cuts.proofs.Laws.{row-cap}
use Rattle.cuts.specs.Measure.{cap}
use Rattle.spread.specs.declared.Spreading.{Spreading}
use Rattle.spread.specs.Answers.{first_of}
use Rattle.spread.specs.Row.{zeroed, Run, stopped, row_from, room_in, padded, begun_state, begun_area, Fillable}
use Rattle.spread.proofs.Push.{zeroed-length, push_takes}
use Rattle.spread.proofs.Laws.{padded-none}

-- ---- what n areas have room for, the first of which has `used` used

unfoldable pub room_from : ℕ → ℕ → ℕ → ℕ
room_from zero size used = 0
room_from (suc n) size used = (size - used - 12) + n * (size - 12)

room_from_lem : (n size used : ℕ) → room_in n size used ≡ room_from n size used
unfolding room_in room_from cap
room_from_lem zero size used = refl
room_from_lem (suc n) size used = row-cap (size - used) size n

-- those after the first
room_step : (n size used : ℕ) → room_from (suc n) size used ≡ (size - used - 12) + room_from n size 0
unfolding room_from
room_step zero size used = omega arith
room_step (suc n) size used = rw (suc-mul n (size - 12)) (omega arith)

room-some : (n size used : ℕ) → 0 < room_from n size used → 0 < n
unfolding room_from
room-some zero size used h = h
room-some (suc n) size used h = omega arith

-- added up
pub room_sum : (n size used x later : ℕ) → 1 ≤ n → x ≡ size - used - 12 → later ≡ size - 12 → x + (n - 1) * later ≡ room_in n size used
unfolding room_from
room_sum zero size used x later h e f = absurd (omega arith)
room_sum (suc n) size used x later h e f =
    let k : suc n - 1 ≡ n = omega arith in
    rw (k, e, f) (sym (room_from_lem (suc n) size used))

-- area k of count areas lies in the row
pub area_in : (k count size all : ℕ) → k < count → count * size ≡ all → k * size + size ≤ all
area_in k count size all h g =
    let e : k * size + size ≡ suc k * size = sym (suc-mul k size) in
    let l : suc k * size ≤ count * size = mul-le-mul_right size h in
    omega arith

module _ (size command address : ℕ) where
  -- ---- one area more, or none

  pub row_more : (m : ℕ) (area : List ℕ) (b : Builder) (i o : ℕ) (row bytes : List ℕ) → 0 < length bytes
      → let given = length bytes in
      let t = taken size b.used given in
      let rest = row_from size command address m (zeroed size) fresh (rest_next size b i command given) (o + t) (drop size row) (drop t bytes) in
      row_from size command address (suc m) area b i o row bytes ≡
      record { areas = after_rest area b i command (address + o) bytes ++ rest.areas; states = rest_builder size b command given ∷ rest.states; next = rest.next }
  unfolding row_from
  row_more m area b i o row bytes h = rw (ne_eqb (length bytes) 0 (λ e. omega arith)) refl

  pub row_stop : (m : ℕ) (area : List ℕ) (b : Builder) (i o : ℕ) (row bytes : List ℕ) → length bytes ≡ 0
      → row_from size command address m area b i o row bytes ≡ stopped row i
  unfolding row_from
  row_stop zero area b i o row bytes h = refl
  row_stop (suc m) area b i o row bytes h = rw (eq-eqb (length bytes) 0 h) refl

module _ (count size command address : ℕ) (image : List ℕ) (whole : Run) where
  -- area k + 1, which holds `area` and has the state b, comes next, with the image's bytes from `sent` on
  pub record Going (area : List ℕ) (b : Builder) (areas : List ℕ) (states : List Builder) (k at sent i : ℕ) : Type 0 where
    pub k-most : k ≤ count
    pub at-is : at ≡ k * size
    pub sent_most : sent ≤ length image
    pub enough : length image - sent ≤ room_from (count - k) size b.used
    pub rows : count * size ≡ length areas
    pub size_most : size ≤ 2047
    pub areas_at_most : count ≤ 32
    pub given_most : length image ≤ 65535
    pub command_at_most : command ≤ 12
    pub address_most : address + length image ≤ 4294967296
    pub states-kept : length states ≡ 32
    pub states-free : drop k states ≡ replicate (32 - k) fresh
    pub row_is : take at areas ++ (row_from size command address (count - k) area b i sent (drop at areas) (drop sent image)).areas ≡ whole.areas
    pub states_are : take k states ++ (row_from size command address (count - k) area b i sent (drop at areas) (drop sent image)).states ≡ whole.states
    pub next-is : (row_from size command address (count - k) area b i sent (drop at areas) (drop sent image)).next ≡ whole.next

  module _ (area : List ℕ) (b : Builder) (areas : List ℕ) (states : List Builder) (k at sent i : ℕ) (g : Going area b areas states k at sent i) (more : sent < length image) where
    pub k_less : k < count
    k_less =
        let p : 0 < count - k = room-some (count - k) size b.used (omega (arith, g.enough)) in
        omega arith

    pub area-fits : at + size ≤ length areas
    area-fits = rw g.at-is (area_in k count size (length areas) k_less g.rows)

    module _ (ys : List ℕ) (r : Push (Option (ℕ × PduResponseHandle))) (n : ℕ) (states₁ : List Builder) (al : length area ≡ size) (sd : sound size b ≡ true)
        (e₁ : ys ≡ overlay areas at (after_rest area b i command (address + sent) (drop sent image)))
        (e₂ : said_rest r.answer ≡ rest_pushed size b i command (length (drop sent image)))
        (e₃ : (r.builder ≡ rest_builder size b command (length (drop sent image))) × (r.next ≡ rest_next size b i command (length (drop sent image))))
        (e₄ : n ≡ first_of (said_rest r.answer))
        (e₅ : states₁ ≡ set states k r.builder) where
      abbrev t : ℕ
      t = taken size b.used (length (drop sent image))

      abbrev m : ℕ
      m = count - (k + 1)

      abbrev A : List ℕ
      A = after_rest area b i command (address + sent) (drop sent image)

      abbrev R : Run
      R = row_from size command address m (zeroed size) fresh (rest_next size b i command (length (drop sent image))) (sent + t) (drop size (drop at areas)) (drop t (drop sent image))

      bytes-length : length (drop sent image) ≡ length image - sent
      bytes-length = length-drop sent image

      n-is : n ≡ t
      n-is =
          e₄ ∙ ap first_of e₂
          ∙ push_takes size b i command (length (drop sent image)) sd (omega (arith, g.command_at_most)) (omega (arith, bytes-length, g.given_most))

      A-length : length A ≡ size
      A-length = length-after_rest area b i command (address + sent) (drop sent image) ∙ al

      laid : at + length A ≤ length areas
      laid = omega (arith, A-length, area-fits)

      before : row_from size command address (count - k) area b i sent (drop at areas) (drop sent image) ≡
          record { areas = A ++ R.areas; states = rest_builder size b command (length (drop sent image)) ∷ R.states; next = R.next }
      before =
          let c : count - k ≡ suc m = omega (arith, k_less) in
          rw c (row_more size command address m area b i sent (drop at areas) (drop sent image) (omega (arith, bytes-length)))

      behind : drop (at + size) ys ≡ drop size (drop at areas)
      behind =
          ap (λ (z : List ℕ). drop (at + size) z) e₁
          ∙ ap (λ (z : ℕ). drop (at + z) (overlay areas at A)) (sym A-length)
          ∙ drop-overlay areas at A laid
          ∙ ap (λ (z : ℕ). drop (at + z) areas) A-length
          ∙ sym (drop-drop size at areas)

      same : row_from size command address m (zeroed size) fresh r.next (sent + n) (drop (at + size) ys) (drop (sent + n) image) ≡ R
      same = rw (e₃.1, n-is, behind, ← drop-drop t sent image) refl

      front : take (at + size) ys ≡ take at areas ++ A
      front =
          ap (λ (z : List ℕ). take (at + size) z) e₁
          ∙ ap (λ (z : ℕ). take (at + z) (overlay areas at A)) (sym A-length)
          ∙ take-overlay areas at A laid

      k-in : k < length states
      k-in = omega (arith, k_less, g.states-kept, g.areas_at_most)

      states-front : take (k + 1) states₁ ≡ take k states ++ (rest_builder size b command (length (drop sent image)) ∷ [])
      states-front = rw (e₅, add-one k, e₃.0) (take-suc-set states k (rest_builder size b command (length (drop sent image))) k-in)

      states-behind : drop (k + 1) states₁ ≡ replicate (32 - (k + 1)) fresh
      states-behind =
          let c : 32 - k ≡ suc (32 - (k + 1)) = omega (arith, k-in, g.states-kept) in
          ap (λ (z : List Builder). drop (k + 1) z) e₅ ∙ drop-set-lt (k + 1) states k r.builder (omega arith) ∙ sym (drop-drop 1 k states)
          ∙ ap (λ (z : List Builder). drop 1 z) g.states-free ∙ rw c refl

      enough-left : length image - (sent + n) ≤ room_from m size 0
      enough-left =
          let c : count - k ≡ suc m = omega (arith, k_less) in
          let e : length image - sent ≤ room_from (suc m) size b.used = rw c at g.enough in
          let q : n ≡ t = n-is in
          omega (arith, bytes-length, room_step m size b.used)

      going_step : Going (zeroed size) fresh ys states₁ (k + 1) (at + size) (sent + n) r.next
      going_step =
          let q : n ≡ t = n-is in
          let bl = bytes-length in
          let yl : length ys ≡ length areas = ap length e₁ ∙ length-overlay areas at A laid in
          record {
            k-most = omega (arith, k_less);
            at-is = rw (g.at-is, add-one k, suc-mul k size) refl;
            sent_most = omega arith;
            enough = enough-left;
            rows = g.rows ∙ sym yl;
            size_most = g.size_most;
            areas_at_most = g.areas_at_most;
            given_most = g.given_most;
            command_at_most = g.command_at_most;
            address_most = g.address_most;
            states-kept = ap length e₅ ∙ length-set states k r.builder ∙ g.states-kept;
            states-free = states-behind;
            row_is = rw (same, front) (append_assoc (take at areas) A R.areas ∙ ap (λ (z : Run). take at areas ++ z.areas) (sym before) ∙ g.row_is);
            states_are = rw (same, states-front) (append_snoc (take k states) _ R.states ∙ ap (λ (z : Run). take k states ++ z.states) (sym before) ∙ g.states_are);
            next-is = rw same (ap (λ (z : Run). z.next) (sym before) ∙ g.next-is);
          }

  -- what the inner function promises of a result and a row
  abbrev Carried : Spreading → List ℕ → Type 0
  Carried r ys =
      (r.answer ≡ Ok (length whole.states)) × (((r.states ≡ padded whole.states) × (r.next ≡ whole.next)) × (ys ≡ whole.areas))

  -- nothing is left: the row and the states are those of the whole run
  pub going_end : (area : List ℕ) (b : Builder) (areas : List ℕ) (states : List Builder) (k at sent i : ℕ) → Going area b areas states k at sent i → length image ≤ sent
      → Carried (record { answer = Ok k; states = states; next = i }) areas
  unfolding padded
  going_end area b areas states k at sent i g h =
      let z : length (drop sent image) ≡ 0 = length-drop sent image ∙ omega arith in
      let st = row_stop size command address (count - k) area b i sent (drop at areas) (drop sent image) z in
      let a : areas ≡ whole.areas = sym (take-append-drop at areas) ∙ ap (λ (r : Run). take at areas ++ r.areas) (sym st) ∙ g.row_is in
      let t : take k states ≡ whole.states = sym (append-nil (take k states)) ∙ ap (λ (r : Run). take k states ++ r.states) (sym st) ∙ g.states_are in
      let n : i ≡ whole.next = ap (λ (r : Run). r.next) (sym st) ∙ g.next-is in
      let l : length whole.states ≡ k = ap length (sym t) ∙ length-take-le k states (omega (arith, g.k-most, g.states-kept, g.areas_at_most)) in
      let p : states ≡ whole.states ++ replicate (32 - length whole.states) fresh =
      sym (take-append-drop k states) ∙ rw (t, g.states-free, l) refl in
      (rw l refl, ((p, n), a))

  pub going_start : (row : List ℕ) (first : Builder) (index : ℕ) → Fillable (length row) size count first command address (length image)
      → whole ≡ row_from size command address count (take size row) first index 0 row image → Going (take size row) first row (replicate 32 fresh) 0 0 0 index
  going_start row first index f e =
      record {
        k-most = omega arith;
        at-is = sym (zero-mul size);
        sent_most = omega arith;
        enough = rw (sub-zero (length image), sub-zero count, ← room_from_lem count size first.used) f.room;
        rows = f.row_whole;
        size_most = f.size_most;
        areas_at_most = f.areas_at_most;
        given_most = f.given_most;
        command_at_most = f.command_at_most;
        address_most = f.address_most;
        states-kept = refl;
        states-free = refl;
        row_is = rw (sub-zero, e) refl;
        states_are = rw (sub-zero, e) refl;
        next-is = rw (sub-zero, e) refl;
      }

-- area k comes next, which is the first as it stood, or one that is opened
module _ (count size command address : ℕ) (image : List ℕ) (whole : Run) where
  abbrev pub Before : Builder → List ℕ → List Builder → ℕ → ℕ → ℕ → Type 0
  Before first areas states k sent i =
      Going count size command address image whole (pick (eqb k 0) (take size areas) (zeroed size)) (begun_state k first) areas states k (k * size) sent i

  module _ (first : Builder) (areas : List ℕ) (states : List Builder) (k sent i : ℕ) (g : Before first areas states k sent i) (more : sent < length image) where
    abbrev begins : List ℕ
    begins = pick (eqb k 0) (take size areas) (zeroed size)

    abbrev at : ℕ
    at = k * size

    abbrev lent : List ℕ
    lent = take (at + size - at) (drop at areas)

    abbrev given : List ℕ
    given = take (length image - sent) (drop sent image)

    pub area_there : at + size ≤ length areas
    area_there = area-fits count size command address image whole begins (begun_state k first) areas states k at sent i g more

    lent_length : length lent ≡ size
    lent_length = ap length (part_is at size areas) ∙ part_length at size areas area_there

    begins-is : begun_area k lent ≡ begins
    begins-is = go (eqb k 0) refl
      where
        go : (t : Bool) → eqb k 0 ≡ t → pick t lent (zeroed (length lent)) ≡ pick t (take size areas) (zeroed size)
        go true e =
            let z : k ≡ 0 = eqb-true k 0 e in
            let n : at ≡ 0 = ap (λ (m : ℕ). m * size) z ∙ zero-mul size in
            part_is at size areas ∙ ap (λ (m : ℕ). take size (drop m areas)) n
        go false e = ap zeroed lent_length

    begins_length : length begins ≡ size
    begins_length = go (eqb k 0)
      where
        go : (t : Bool) → length (pick t (take size areas) (zeroed size)) ≡ size
        go true = length-take-le size areas (omega (arith, area_there))
        go false = zeroed-length size

    begins_sound : sound size first ≡ true → sound size (begun_state k first) ≡ true
    begins_sound sd = go (eqb k 0)
      where
        go : (t : Bool) → sound size (pick t first fresh) ≡ true
        go true = sd
        go false = opened-sound size g.size_most

    -- a push is made into it
    pub step : (b : Builder) (part left ys : List ℕ) (r : Push (Option (ℕ × PduResponseHandle))) (n : ℕ) (states₁ : List Builder) → sound size first ≡ true
        → b ≡ begun_state k first
        → part ≡ begun_area k lent
        → said_rest r.answer ≡ rest_pushed (length part) b i command (length given)
        → (r.builder ≡ rest_builder (length part) b command (length given)) × (r.next ≡ rest_next (length part) b i command (length given))
        → left ≡ after_rest part b i command (address + sent) given
        → ys ≡ put_mid at (at + size - at) areas left
        → n ≡ first_of (said_rest r.answer)
        → states₁ ≡ set states k r.builder
        → Before first ys states₁ (k + 1) (sent + n) r.next
    step b part left ys r n states₁ sd eb e₀ e₁ e₂ e₃ e₄ e₅ e₆ =
        let t : given ≡ drop sent image = take_all (length image - sent) (drop sent image) (simp length-drop (omega arith)) in
        let p : part ≡ begins = e₀ ∙ begins-is in
        let l : length part ≡ size = ap length p ∙ begins_length in
        let ll : length left ≡ at + size - at = ap length e₃ ∙ length-after_rest part b i command (address + sent) given ∙ l ∙ sym (add-sub_cancel_left at size) in
        let y : ys ≡ overlay areas at (after_rest begins (begun_state k first) i command (address + sent) (drop sent image)) =
        e₄ ∙ overlay_part at (at + size - at) areas left _ (e₃ ∙ rw (p, eb, t) refl) ll in
        let s = going_step count size command address image whole begins (begun_state k first) areas states k at sent i g more ys r n states₁ begins_length (begins_sound sd) y
        (e₁ ∙ rw (l, eb, t) refl) (e₂.0 ∙ rw (l, eb, t) refl, e₂.1 ∙ rw (l, eb, t) refl) e₅ e₆ in
        let z : eqb (k + 1) 0 ≡ false = ne_eqb (k + 1) 0 (λ e. omega arith) in
        let m : (k + 1) * size ≡ at + size = rw (add-one k, suc-mul k size) refl in
        rw (z, m) s

-- the first comes next
pub before_first : (count size command address : ℕ) (row image : List ℕ) (first : Builder) (index : ℕ) (states : List Builder)
    → Fillable (length row) size count first command address (length image) → states ≡ padded []
    → Before count size command address image (row_from size command address count (take size row) first index 0 row image) first row states 0 0 index
before_first count size command address row image first index states f e =
    rw (e, padded-none, zero-mul size) (going_start count size command address image _ row first index f refl)
