-- The call in one statement, from its contract alone: the rule goes out in one of four ways, and each fixes the answer and what is true of the arguments.
use Rattle.std.specs.Prelude.{Ok, Err}
use mathlib.Core.Path.{◌≡◌, refl, sym, ap, ◌∙◌}
use mathlib.Core.Logic.{◌↔◌}
use mathlib.Core.Bool.{false≢true}
use mathlib.Core.List.{List, []}
use Prim.Native.Nat.{ℕ, ◌+◌, ◌<◌}
use native.Mathlib.Omega.{arith}
use borrow.Author.Tests.{leb-true, leb-false}
use lib.ListN.{length, take}
use lib.Seq.{take_at}
use Rattle.refusal.specs.Said.{number_of, values_of}
use Rattle.refusal.specs.declared.Refusal.{Refusal}
use Rattle.refusal.specs.declared.Refusal.TheVariants.{Address, NoRoom, BadArgument}
use Rattle.pdu.specs.Pdu.{Pdu}
use Rattle.cuts.specs.Cut.{Piece, last_area}
use Rattle.created_frame.specs.declared.Builder.{Builder}
use Rattle.created_frame.specs.Built.{Built}
use Rattle.created_frame.proofs.Built.{ours-built}
use Rattle.spread.specs.declared.Spreading.{Spreading}
use Rattle.spread.specs.Row.{address_end, Run, stopped, padded, Outcome}
use Rattle.spread.specs.Answers.{said_last, Promised}
use Rattle.spread.specs.Theorem.{Spreads}
use Rattle.spread.specs.Demand.{Bounds, Reaches, Cut, Demand3}
use Rattle.spread.proofs.Laws.{law, bounds-lawful, out, ways}
use Rattle.spread.proofs.Unique.{answer_unique}
use Rattle.spread.proofs.Theorem.{ours, room_cut, cut-room, answered-built, unchanged}

-- both hold, or neither does
both_so : {P Q : Type 0} → P → Q → P ↔ Q
both_so p q = (λ x. q, λ y. p)

neither : {P Q : Type 0} → (P → ⊥) → (Q → ⊥) → P ↔ Q
neither p q = (λ x. absurd (p x), λ y. absurd (q y))

never : ◌≡◌ {A = ℕ} 0 1 → ⊥
never e = omega arith

module _ (row : List ℕ) (size : ℕ) (first : Builder) (index command address : ℕ) (image : List ℕ) (r : Spreading) (ys : List ℕ)
    (met : Promised row size first index command address image r ys) where
  abbrev Within : Type 0
  Within = Bounds (length row) size first command (length image)

  -- the four ways, with the answer and what is true of the arguments
  data Way : Type 0 where
    bad : r.answer ≡ Err BadArgument → (Within → ⊥) → Way
    past : r.answer ≡ Err Address → Within → address_end < address + length image → Way
    lacks : r.answer ≡ Err NoRoom → Within → Reaches address image → ((ps : List Piece) → Cut row size first image ps → ⊥) → Way
    lasts : (k : ℕ) → r.answer ≡ Ok k → Within → Reaches address image → Cut row size first image (ours row size first index command address image) → Way

  way : Way
  way = ways row size first index command address image (λ (o : Outcome). said_last r.answer ≡ o.said → Way)
      (λ b e. bad (answer_unique _ (Err BadArgument) _ e refl) (λ l. false≢true (sym b ∙ bounds-lawful _ _ _ _ _ l)))
      (λ b a e. past (answer_unique _ (Err Address) _ e refl) (law _ _ _ _ _ b) (leb-false _ _ a))
      (λ b a f e. lacks (answer_unique _ (Err NoRoom) _ e refl) (law _ _ _ _ _ b) (leb-true _ _ a)
      (λ ps c. false≢true (sym f ∙ cut-room row size first index command address image ps c)))
      (λ b a f e. lasts _ (answer_unique _ (Ok _) _ e refl) (law _ _ _ _ _ b) (leb-true _ _ a)
      (room_cut row size first index command address image f))
      met.0

  is-bad : Way → (r.answer ≡ Err BadArgument) ↔ (Within → ⊥)
  is-bad (bad e n) = both_so e n
  is-bad (past e b p) = neither (λ f. never cc) (λ n. n b)
  is-bad (lacks e b a n) = neither (λ f. never cc) (λ n. n b)
  is-bad (lasts k e b a c) = neither (λ f. never cc) (λ n. n b)

  is-past : Way → (r.answer ≡ Err Address) ↔ (Within × (address_end < address + length image))
  is-past (bad e n) = neither (λ f. never cc) (λ h. n h.0)
  is-past (past e b p) = both_so e (b, p)
  is-past (lacks e b a n) = neither (λ f. never cc) (λ h. omega (arith, h.1))
  is-past (lasts k e b a c) = neither (λ f. never cc) (λ h. omega (arith, h.1))

  has-no-room : Way → (r.answer ≡ Err NoRoom) ↔ (Within × Reaches address image × ((ps : List Piece) → Cut row size first image ps → ⊥))
  has-no-room (bad e n) = neither (λ f. never cc) (λ h. n h.0)
  has-no-room (past e b p) = neither (λ f. never cc) (λ h. omega (arith, h.1))
  has-no-room (lacks e b a n) = both_so e (b, a, n)
  has-no-room (lasts k e b a c) = neither (λ f. never cc) (λ h. h.2 _ c)

  is-answered : Way → ((k : ℕ) × (r.answer ≡ Ok k)) ↔ (Within × Reaches address image × ((ps : List Piece) × Cut row size first image ps))
  is-answered (bad e n) = neither (λ f. let g = f.1 in never cc) (λ h. n h.0)
  is-answered (past e b p) = neither (λ f. let g = f.1 in never cc) (λ h. omega (arith, h.1))
  is-answered (lacks e b a n) = neither (λ f. let g = f.1 in never cc) (λ h. n h.2.0 h.2.1)
  is-answered (lasts k e b a c) = both_so (k, e) (b, a, (_, c))

  -- an answer that is no refusal spreads the image, where the first area holds PDUs and zeros ..
  pub spreads-built : (olds : List Pdu) (k : ℕ) → Built olds (take size row) first → r.answer ≡ Ok k
      → Spreads row size first index command address image olds (record { areas = ys; states = take k r.states; next = r.next }) k
  unfolding padded
  spreads-built olds k h e =
      let s = answered-built row size first index command address image olds k h (sym met.0 ∙ ap said_last e) in
      let l : length (out row size first index command address image).run.states ≡ k = s.carries.counted ∙ ap (last_area 0) (sym s.carries.plan) ∙ s.last in
      let t : take k r.states ≡ (out row size first index command address image).run.states = ap (take k) met.1.0.0 ∙ take_at _ _ k l in
      rw (t, met.1.0.1, met.1.1) s

  -- .. and a refusal changes nothing
  refused : (x : Refusal) → r.answer ≡ Err x → (r.states ≡ padded []) × (r.next ≡ index) × (ys ≡ row)
  refused x e =
      let u : (out row size first index command address image).run ≡ stopped row index =
      unchanged row size first index command address image (number_of x) (values_of x) (sym met.0 ∙ ap said_last e) in
      (met.1.0.0 ∙ ap (λ (z : Run). padded z.states) u, met.1.0.1 ∙ ap (λ (z : Run). z.next) u, met.1.1 ∙ ap (λ (z : Run). z.areas) u)

  -- THE THEOREM
  pub demand3 : Demand3 row size first index command address image r ys
  demand3 =
      record {
        bad_argument = is-bad way;
        past_end = is-past way;
        no_room = has-no-room way;
        answered = is-answered way;
        spreads = λ olds k o e. spreads-built olds k (ours-built o) e;
        unchanged = refused;
      }
