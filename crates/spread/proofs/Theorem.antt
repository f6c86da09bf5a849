-- What a spreading is, of the rule: the run carries out the greedy plan, its areas are laid with the plan's PDUs, and these read back as the plan's pieces.
use mathlib.Core.Path.{◌≡◌, refl, sym, ap, ◌∙◌}
use mathlib.Core.Bool.{true}
use mathlib.Core.List.{List, [], ◌∷◌, ◌++◌}
use Prim.Native.Nat.{ℕ, ◌+◌, ◌-◌, ◌*◌, ◌/◌, ◌≤◌}
use native.Mathlib.Omega.{arith}
use native.Mathlib.Nat.{sub-zero, mul-le-mul_right}
use borrow.Author.Tests.{leb-true, le-leb}
use lib.ListN.{length, take, drop, length-take, length-append, length-drop}
use lib.Seq.{take-take, drop_at, length-take-le}
use Rattle.refusal.specs.Said.{Said, gives, refuses}
use Rattle.refusal.proofs.Unique.{gives_none}
use Rattle.pdu.specs.Pdu.{Pdu}
use Rattle.cuts.specs.Cut.{Piece, Permitted, last_area}
use Rattle.cuts.specs.Greedy.{greedy}
use Rattle.cuts.proofs.Laws.{rising-last, last-most, free_later}
use Rattle.cuts.proofs.Greedy.{carried, carries, greedy_best}
use Rattle.created_frame.specs.declared.Builder.{Builder}
use Rattle.created_frame.specs.Built.{Built}
use Rattle.created_frame.proofs.Built.{built-length, built-read, built-payloads}
use Rattle.spread.specs.Row.{address_end, Run, stopped, free_in, room_in, Outcome, spread_of}
use Rattle.spread.specs.Laid.{laid, states_of, news_of, index_past, Fitting}
use Rattle.spread.specs.ReadBack.{frame_of, frames_of, read_back}
use Rattle.spread.specs.Theorem.{back, Carries, Spreads}
use Rattle.spread.specs.Demand.{Bounds, Cut}
use Rattle.spread.proofs.Laws.{law, out, run, bounds, reaches, fits, ways}
use Rattle.spread.proofs.Going.{area_in}
use Rattle.spread.proofs.Laid.{count-states, length-laid, laid-accepted, all_built, laid-back, laid-earlier}
use Rattle.spread.proofs.Plan.{news-length, news-back, carried_by, carried_whole, carried_pieces, carried_numbered, carried_count, fitting}
use Rattle.spread.proofs.Greedy.{Laid, run-laid}

-- ---- any permitted plan

module _ (row : List ℕ) (size : ℕ) (first : Builder) (index command address : ℕ) (image : List ℕ) (olds : List Pdu) (m : ℕ) (plan : List Piece)
    (h : Built olds (take size row) first) (fills : size ≤ length row) (small : size ≤ 2047) (reach : address + length image ≤ address_end)
    (p : Permitted (free_in size first.used) m (length image) plan) where
  abbrev news : List (List Pdu)
  news = news_of command address image (last_area 0 plan) 0 index plan

  used-fits : first.used ≤ size
  used-fits = omega (arith, built-length olds (take size row) first h, length-take size row)

  news-fit : Fitting size olds news
  news-fit = fitting command address image (length image) reach (last_area 0 plan) m index size first.used olds plan p small h.used_is used-fits h.fit

  -- THEOREM: a run that lays a permitted plan's PDUs in the areas carries the image by it
  pub plan-carries : (r : Run) → r.areas ≡ laid size olds news ++ drop (last_area 0 plan * size) row → r.states ≡ states_of olds news → r.next ≡ index_past index (length plan)
      → Carries row size first index command address image olds plan r
  plan-carries r a s n =
      let rest : List ℕ = drop (last_area 0 plan * size) row in
      let count : first.count ≡ length olds = h.count_is in
      let b : back size first r ≡ carried_by command address image index plan =
      ap (λ (z : ℕ). read_back 0 z (frames_of size r.areas r.states)) count
      ∙ rw (a, s) (laid-back size small 0 olds news rest news-fit)
      ∙ news-back command address image plan (last_area 0 plan) 0 0 1 (last_area 0 plan) index p.chain (rising-last 0 1 m plan p.rising) (omega arith) (omega arith) in
      let f₀ : frame_of (take size row) first ≡ frame_of row first = rw (take-take first.used size row used-fits) refl in
      record {
        counted = ap length s ∙ count-states olds news ∙ news-length command address image (last_area 0 plan) 0 index plan;
        accepted = rw (a, s) (laid-accepted size small olds news rest news-fit);
        whole = rw b (carried_whole command address image index plan 0 p.chain);
        numbered = rw b (carried_numbered command address image index plan 0 p.chain);
        next_index_is = rw b (n ∙ rw (carried_count command address image index plan) refl);
        plan = rw b (carried_pieces command address image index plan 0 p.chain);
        earlier = λ f fs e. rw count (laid-earlier size small olds news rest row first f fs news-fit (rw f₀ at (built-read olds (take size row) first h)) (rw f₀ at (built-payloads olds (take size row) first h)) (rw (a, s) at e));
        areas_are = a;
        states_are = s;
        built = rw a (all_built size small olds news rest news-fit);
      }

-- ---- the rule

module _ (row : List ℕ) (size : ℕ) (first : Builder) (index command address : ℕ) (image : List ℕ) where
  abbrev free : ℕ → ℕ
  free = free_in size first.used

  abbrev pub ours : List Piece
  ours = greedy (free_in size first.used) (length row / size) (length image)

  abbrev runs : Run
  runs = run row size first index command address image

  abbrev told : Said
  told = (spread_of row size first index command address image).said

  -- there is room exactly if there is a permitted cutting
  pub room_cut : fits row size first index command address image ≡ true → Cut row size first image ours
  unfolding room_in
  room_cut f = carried free (length row / size) (length image) (leb-true _ _ f)

  pub cut-room : (ps : List Piece) → Cut row size first image ps → fits row size first index command address image ≡ true
  unfolding room_in
  cut-room ps c = le-leb _ _ (carries free (length row / size) (length image) ps c)

  module _ (l : bounds row size first index command address image ≡ true) (a : reaches row size first index command address image ≡ true) (f : fits row size first index command address image ≡ true)
      (olds : List Pdu) (h : Built olds (take size row) first) where
    facts : Bounds (length row) size first command (length image)
    facts = law (length row) size first command (length image) l

    fills : size ≤ length row
    fills = omega (arith, area_in 0 (length row / size) size (length row) facts.areas_some facts.row_whole)

    lay : Laid size command address image runs ours 0 index row olds
    unfolding room_in
    lay =
        run-laid size command address image free facts.size_most (omega (arith, facts.command_at_most)) facts.given_most (leb-true _ _ a)
        (length row / size) 0 (take size row) first index 0 row olds h (length-take-le size row fills) refl (free_later (size - first.used) size) (leb-true _ _ f)

    count_is : lay.count ≡ last_area 0 ours
    count_is = sym lay.ends ∙ sub-zero (last_area 0 ours)

    carry-ours : Carries row size first index command address image olds ours runs
    carry-ours =
        plan-carries row size first index command address image olds (length row / size) ours h fills facts.size_most (leb-true _ _ a) (room_cut f) runs
        (rw count_is at lay.areas_are) (rw count_is at lay.states_are) lay.next-is

    ends : length runs.states ≡ last_area 0 ours
    ends = carry-ours.counted

    abbrev taken : List ℕ
    taken = laid size olds (news_of command address image (last_area 0 ours) 0 index ours)

    front_length : length taken ≡ last_area 0 ours * size
    front_length =
        length-laid size facts.size_most olds _ (news-fit row size first index command address image olds (length row / size) ours h fills facts.size_most (leb-true _ _ a) (room_cut f))
        ∙ ap (λ (z : ℕ). z * size) (news-length command address image (last_area 0 ours) 0 index ours)

    inside : last_area 0 ours * size ≤ length row
    inside =
        let k : last_area 0 ours * size ≤ length row / size * size = mul-le-mul_right size (last-most 0 1 (length row / size) ours (omega arith) (room_cut f).rising) in
        omega (arith, facts.row_whole)

    spreads : Spreads row size first index command address image olds runs (length runs.states)
    spreads =
        record {
          carries = carry-ours;
          permitted = rw carry-ours.plan (room_cut f);
          last = rw carry-ours.plan (sym ends);
          least = λ ps c. rw ends (greedy_best free (length row / size) (length image) ps c).1;
          behind = rw (ends, carry-ours.areas_are) (drop_at taken (drop (last_area 0 ours * size) row) (last_area 0 ours * size) front_length);
          same_length = ap length carry-ours.areas_are ∙ length-append taken (drop (last_area 0 ours * size) row) ∙ omega (arith, front_length, length-drop (last_area 0 ours * size) row, inside);
        }

  -- ---- THE THEOREMS, of the rule

  -- an answer that is no refusal spreads the image, where the first area holds PDUs and zeros
  pub answered-built : (olds : List Pdu) (k : ℕ) → Built olds (take size row) first → told ≡ gives (k ∷ []) → Spreads row size first index command address image olds (out row size first index command address image).run k
  answered-built olds k h =
      ways row size first index command address image (λ (o : Outcome). o.said ≡ gives (k ∷ []) → Spreads row size first index command address image olds o.run k)
      (λ p e. absurd (gives_none _ _ _ e)) (λ p q e. absurd (gives_none _ _ _ e)) (λ p q r e. absurd (gives_none _ _ _ e))
      (λ p q r e. (let v : length runs.states ≡ k = cc in rw (← v) (spreads p q r olds h)))

  -- a refusal changes nothing
  pub unchanged : (number : ℕ) (l : List ℕ) → told ≡ refuses number l → (out row size first index command address image).run ≡ stopped row index
  unchanged number l =
      ways row size first index command address image (λ (o : Outcome). o.said ≡ refuses number l → o.run ≡ stopped row index)
      (λ p e. refl) (λ p q e. refl) (λ p q r e. refl) (λ p q r e. absurd (gives_none _ _ _ (sym e)))
