-- A spreading carries out the greedy plan: going along the areas, what a push adds is what the plan has in that area, and the rest is the plan of the rest.
use mathlib.Core.Path.{◌≡◌, refl, ap, sym, ◌∙◌}
use Prim.Native.Nat.{ℕ, zero, suc, ◌+◌, ◌*◌, ◌-◌, ◌≤◌, ◌<◌, min}
use native.Mathlib.Omega.{arith}
use native.Mathlib.Nat.{suc-mul, zero-mul, sub-zero, le_refl}
use mathlib.Core.Logic.{◌≢◌}
use mathlib.Core.Bool.{Bool, true, false}
use mathlib.Core.List.{List, [], ◌∷◌, ◌++◌, append_assoc}
use lib.ListN.{length, take, drop, length-drop}
use lib.Dec.{eqb}
use lib.Seq.{drop-drop}
use borrow.Author.Tests.{eqb-true, eqb-false, eq-eqb, ne_eqb}
use Rattle.refusal.specs.Said.{pick}
use Rattle.pdu.specs.Pdu.{Pdu}
use Rattle.cuts.specs.Cut.{Piece, last_area}
use Rattle.cuts.specs.Greedy.{piece, room, greedy_from}
use Rattle.cuts.specs.Measure.{cap}
use Rattle.cuts.proofs.Laws.{last-least}
use Rattle.cuts.proofs.Greedy.{greedy-rising, greedy_nothing}
use Rattle.created_frame.specs.declared.Builder.{Builder}
use Rattle.created_frame.specs.Frame.{sound, fresh, after, taken, rest_builder, rest_next, after_rest}
use Rattle.created_frame.specs.Built.{made, rest_adds, Built}
use Rattle.created_frame.proofs.Built.{built_open, built_rest, built-sound}
use Rattle.spread.specs.Row.{zeroed, Run, row_from}
use Rattle.spread.specs.Laid.{laid_in, laid, states_of, in_area, news_of, index_past}
use Rattle.created_frame.proofs.States.{rest_next_lem}
use Rattle.created_frame.proofs.Whole.{length-after_rest}
use Rattle.spread.proofs.Push.{zeroed-length, push_adds_lem}
use Rattle.spread.proofs.Going.{row_more, row_stop}
use Rattle.spread.proofs.Laid.{built-laid, built-state}
use Rattle.spread.proofs.Plan.{none_in, news_later}

-- ---- the plan's last area

module _ (free : ℕ → ℕ) where
  greedy-step : (d i o left : ℕ) → let t = min left (room free (suc i)) in greedy_from free (suc d) i o left ≡ piece (suc i) o t (greedy_from free d (suc i) (o + t) (left - t))
  unfolding greedy_from
  greedy-step d i o left = refl

  piece-any : (l k a o t : ℕ) (ps : List Piece) → (t ≡ 0 → last_area l ps ≡ last_area k ps) → last_area l (piece a o t ps) ≡ last_area k (piece a o t ps)
  unfolding last_area
  piece-any l k a o zero ps h = h refl
  piece-any l k a o (suc t) ps h = refl

  -- there is a piece where bytes are left that have room
  last-any : (d i o left l k : ℕ) → 0 < left → left ≤ cap free i d → last_area l (greedy_from free d i o left) ≡ last_area k (greedy_from free d i o left)
  unfolding cap
  last-any zero i o left l k pos h = absurd (omega arith)
  last-any (suc d) i o left l k pos h =
      let t = min left (room free (suc i)) in
      rw (greedy-step d i o left) (piece-any l k (suc i) o t (greedy_from free d (suc i) (o + t) (left - t)) (λ e. last-any d (suc i) (o + t) (left - t) l k (omega arith) (omega arith)))

  last-piece : (l a o t : ℕ) (ps : List Piece) → (t ≡ 0 → last_area l ps ≡ last_area a ps) → last_area l (piece a o t ps) ≡ last_area a ps
  unfolding last_area
  last-piece l a o zero ps h = h refl
  last-piece l a o (suc t) ps h = refl

  -- the first of the areas that are left is among those up to the last
  last-next : (d i o left : ℕ) → 0 < left → left ≤ cap free i (suc d)
      → let t = min left (room free (suc i)) in
      let rest = greedy_from free d (suc i) (o + t) (left - t) in
      last_area i (greedy_from free (suc d) i o left) - i ≡ suc (last_area (suc i) rest - suc i)
  unfolding cap
  last-next d i o left pos h =
      let t = min left (room free (suc i)) in
      let rest = greedy_from free d (suc i) (o + t) (left - t) in
      let e : last_area i (piece (suc i) o t rest) ≡ last_area (suc i) rest = last-piece i (suc i) o t rest (λ z. last-any d (suc i) (o + t) (left - t) i (suc i) (omega arith) (omega arith)) in
      let l : suc i ≤ last_area (suc i) rest = last-least (suc i) (suc i + d) rest (greedy-rising free d (suc i) (o + t) (left - t) (suc i) (suc i + d) (omega arith) (omega arith)) in
      rw (greedy-step d i o left) (omega arith)

-- ---- the PDUs of a piece in front, unless it is empty

module _ (command address : ℕ) (image : List ℕ) where
  piece-in : (a o t index : ℕ) (ps : List Piece) → ((j : ℕ) → in_area command address image a j ps ≡ [])
      → in_area command address image a index (piece a o t ps) ≡ pick (eqb t 0) [] (made index command (address + o) (take t (drop o image)) t ∷ [])
  unfolding in_area
  piece-in a o zero index ps none = none index
  piece-in a o (suc t) index ps none = rw (eq-eqb a a refl, none (after index), ne_eqb (suc t) 0 (λ e. omega arith)) refl

  piece-news : (d i a o t index : ℕ) (ps : List Piece) → a < suc i
      → news_of command address image d i index (piece a o t ps) ≡ news_of command address image d i (pick (eqb t 0) index (after index)) ps
  piece-news d i a o zero index ps lt = refl
  piece-news d i a o (suc t) index ps lt = rw (ne_eqb (suc t) 0 (λ e. omega arith)) (news_later command address image d i index (record { area = a; offset = o; size = suc t }) ps lt)

piece-index : (a o t index : ℕ) (ps : List Piece) → index_past index (length (piece a o t ps)) ≡ index_past (pick (eqb t 0) index (after index)) (length ps)
unfolding index_past
piece-index a o zero index ps = refl
piece-index a o (suc t) index ps = rw (ne_eqb (suc t) 0 (λ e. omega arith)) refl

-- the areas after area i have none in it
greedy-none : (command address : ℕ) (image : List ℕ) (free : ℕ → ℕ) (d i o left index : ℕ) → in_area command address image i index (greedy_from free d i o left) ≡ []
greedy-none command address image free d i o left index =
    none_in command address image i (suc i) (i + d) index (greedy_from free d i o left) (greedy-rising free d i o left (suc i) (i + d) (omega arith) (omega arith)) (omega arith)

-- ---- area by area

behind-one : (k size : ℕ) (row : List ℕ) → drop (k * size) (drop size row) ≡ drop (suc k * size) row
behind-one k size row =
    let e : size + k * size ≡ suc k * size = omega (arith, suc-mul k size) in
    drop-drop (k * size) size row ∙ ap (λ (z : ℕ). drop z row) e

built-zeroed : (size : ℕ) → size ≤ 2047 → Built [] (zeroed size) fresh
unfolding zeroed
built-zeroed size h = built_open size h

module _ (size command address : ℕ) (image : List ℕ) where
  -- what a run is that carries out the rest of a plan, from the area after area i on, which holds the PDUs `olds`
  pub record Laid (r : Run) (plan : List Piece) (i index : ℕ) (row : List ℕ) (olds : List Pdu) : Type 0 where
    pub count : ℕ
    pub ends : last_area i plan - i ≡ count
    pub areas_are : r.areas ≡ laid size olds (news_of command address image count i index plan) ++ drop (count * size) row
    pub states_are : r.states ≡ states_of olds (news_of command address image count i index plan)
    pub next-is : r.next ≡ index_past index (length plan)

  nothing_left : (i index : ℕ) (row : List ℕ) (olds : List Pdu) → Laid (record { areas = row; states = []; next = index }) [] i index row olds
  unfolding last_area news_of laid states_of index_past
  nothing_left i index row olds = record { count = 0; ends = omega arith; areas_are = rw (zero-mul size) refl; states_are = refl; next-is = refl }

  module _ (free : ℕ → ℕ) (small : size ≤ 2047) (c : command ≤ 14) (given : length image ≤ 65535) (reach : address + length image ≤ 4294967296) where
    -- one area more
    laid-step : (d i : ℕ) (area : List ℕ) (b : Builder) (index o : ℕ) (row : List ℕ) (olds : List Pdu) → Built olds area b → length area ≡ size → free (suc i) ≡ size - b.used
        → 0 < length (drop o image) → length (drop o image) ≤ cap free i (suc d)
        → let bytes = drop o image in
        let t = taken size b.used (length bytes) in
        (rest : Run) → Laid rest (greedy_from free d (suc i) (o + t) (length (drop t bytes))) (suc i) (rest_next size b index command (length bytes)) (drop size row) []
        → Laid (record { areas = after_rest area b index command (address + o) bytes ++ rest.areas; states = rest_builder size b command (length bytes) ∷ rest.states; next = rest.next })
        (greedy_from free (suc d) i o (length bytes)) i index row olds
    unfolding news_of laid states_of
    laid-step d i area b index o row olds h al fr pos enough rest ih =
        let bytes = drop o image in
        let bl : length bytes ≡ length image - o = length-drop o image in
        let most : length bytes ≤ 65535 = omega arith in
        let reached : address + o < 4294967296 = omega arith in
        let sd : sound size b ≡ true = rw al at (built-sound olds area b h) in
        let t : ℕ = taken size b.used (length bytes) in
        let tm : min (length bytes) (room free (suc i)) ≡ t = rw fr refl in
        let dl : length (drop t bytes) ≡ length bytes - t = length-drop t bytes in
        let q : List Piece = greedy_from free d (suc i) (o + t) (length (drop t bytes)) in
        let plan : greedy_from free (suc d) i o (length bytes) ≡ piece (suc i) o t q =
        greedy-step free d i o (length bytes) ∙ rw (tm, ← dl) refl in
        let k : ℕ = ih.count in
        let ends : last_area i (piece (suc i) o t q) - i ≡ suc k =
        ap (λ (z : List Piece). last_area i z - i) (sym plan) ∙ last-next free d i o (length bytes) pos enough ∙ rw (tm, ← dl) (ap suc ih.ends) in
        let nx : rest_next size b index command (length bytes) ≡ pick (eqb t 0) index (after index) = rest_next_lem size b sd index command (length bytes) c most in
        let ad : rest_adds size b index command (address + o) bytes ≡ pick (eqb t 0) [] (made index command (address + o) (take t bytes) t ∷ []) = push_adds_lem size b index command (address + o) bytes sd c most in
        let here : in_area command address image (suc i) index (piece (suc i) o t q) ≡ rest_adds size b index command (address + o) bytes =
        piece-in command address image (suc i) o t index q (λ j. greedy-none command address image free d (suc i) (o + t) (length (drop t bytes)) j) ∙ sym ad in
        let there : news_of command address image k (suc i) index (piece (suc i) o t q) ≡ news_of command address image k (suc i) (rest_next size b index command (length bytes)) q =
        piece-news command address image k (suc i) (suc i) o t index q (le_refl (suc (suc i))) ∙ rw nx refl in
        let bs : Built (olds ++ rest_adds size b index command (address + o) bytes) (after_rest area b index command (address + o) bytes) (rest_builder size b command (length bytes)) =
        rw al at (built_rest olds area b h index command (address + o) bytes reached) in
        let ll : length (after_rest area b index command (address + o) bytes) ≡ size = length-after_rest area b index command (address + o) bytes ∙ al in
        let one : after_rest area b index command (address + o) bytes ≡ laid_in size (olds ++ rest_adds size b index command (address + o) bytes) =
        rw ll at (built-laid (olds ++ rest_adds size b index command (address + o) bytes) _ _ bs) in
        let dr : drop (k * size) (drop size row) ≡ drop (suc k * size) row = behind-one k size row in
        rw plan (record {
          count = suc k;
          ends = ends;
          areas_are = rw (one, here, there, ih.areas_are, dr) (sym (append_assoc (laid_in size (olds ++ rest_adds size b index command (address + o) bytes))
              (laid size [] (news_of command address image k (suc i) (rest_next size b index command (length bytes)) q)) (drop (suc k * size) row)));
          states_are = rw (here, there, ih.states_are, built-state _ _ _ bs) refl;
          next-is = ih.next-is ∙ rw nx (sym (piece-index (suc i) o t index q));
        })

    -- THE LAW: a run carries out the greedy plan
    pub run-laid : (n i : ℕ) (area : List ℕ) (b : Builder) (index o : ℕ) (row : List ℕ) (olds : List Pdu) → Built olds area b → length area ≡ size
        → free (suc i) ≡ size - b.used → ((k : ℕ) → suc i < k → free k ≡ size) → length (drop o image) ≤ cap free i n
        → Laid (row_from size command address n area b index o row (drop o image)) (greedy_from free n i o (length (drop o image))) i index row olds
    unfolding cap
    run-laid zero i area b index o row olds h al fr later enough =
        let z : length (drop o image) ≡ 0 = omega arith in
        rw (row_stop size command address 0 area b index o row (drop o image) z, z, greedy_nothing free 0 i o) (nothing_left i index row olds)
    run-laid (suc n) i area b index o row olds h al fr later enough =
        let t = taken size b.used (length (drop o image)) in
        let dl : length (drop t (drop o image)) ≡ length (drop o image) - t = length-drop t (drop o image) in
        let dd : drop t (drop o image) ≡ drop (o + t) image = drop-drop t o image in
        let enough-left : length (drop t (drop o image)) ≤ cap free (suc i) n = omega arith in
        let ih : Laid (row_from size command address n (zeroed size) fresh (rest_next size b index command (length (drop o image))) (o + t) (drop size row) (drop t (drop o image)))
        (greedy_from free n (suc i) (o + t) (length (drop t (drop o image)))) (suc i) (rest_next size b index command (length (drop o image))) (drop size row) [] =
        rw dd (run-laid n (suc i) (zeroed size) fresh (rest_next size b index command (length (drop o image))) (o + t) (drop size row) [] (built-zeroed size small) (zeroed-length size)
        (later (suc (suc i)) (le_refl (suc (suc i))) ∙ sym (sub-zero size)) (λ k lt. later k (under lt)) (rw dd at enough-left)) in
        go (eqb (length (drop o image)) 0) refl ih
      where
        under : {j k : ℕ} → suc (suc j) < k → suc j < k
        under lt = omega arith

        go : (e : Bool) → eqb (length (drop o image)) 0 ≡ e
            → let t = taken size b.used (length (drop o image)) in
            Laid (row_from size command address n (zeroed size) fresh (rest_next size b index command (length (drop o image))) (o + t) (drop size row) (drop t (drop o image)))
            (greedy_from free n (suc i) (o + t) (length (drop t (drop o image)))) (suc i) (rest_next size b index command (length (drop o image))) (drop size row) []
            → Laid (row_from size command address (suc n) area b index o row (drop o image)) (greedy_from free (suc n) i o (length (drop o image))) i index row olds
        go true e ih =
            let z : length (drop o image) ≡ 0 = eqb-true _ _ e in
            rw (row_stop size command address (suc n) area b index o row (drop o image) z, z, greedy_nothing free (suc n) i o) (nothing_left i index row olds)
        go false e ih =
            let some : length (drop o image) ≢ 0 = eqb-false _ 0 e in
            let pos : 0 < length (drop o image) = omega arith in
            rw (row_more size command address n area b index o row (drop o image) pos) (laid-step n i area b index o row olds h al fr pos enough _ ih)
