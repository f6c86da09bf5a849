-- What a spreading leaves in a row: its answer is how many states there are, never more than areas, and they are laid behind the next index and that count.
use Prim.Native.Nat.{ℕ, zero, suc, ◌+◌, ◌-◌, ◌/◌, ◌≤◌}
use native.Mathlib.Omega.{arith}
use mathlib.Core.Path.{◌≡◌, refl, sym, ap, ◌∙◌}
use mathlib.Core.Bool.{Bool, true, false}
use mathlib.Core.List.{List, [], ◌∷◌, ◌++◌, flat_map}
use lib.ListN.{length, take, drop, replicate, length-append}
use lib.Seq.{take_at}
use lib.Dec.{eqb, leb}
use Rattle.refusal.specs.Said.{Said, pick}
use Rattle.wire.specs.Bytes.{laid}
use Rattle.created_frame.specs.declared.Builder.{Builder}
use Rattle.created_frame.specs.Answers.{state_values}
use Rattle.created_frame.specs.Frame.{fresh, taken, rest_builder, rest_next, after_rest}
use Rattle.spread.specs.Answers.{first_of}
use Rattle.spread.specs.Row.{areas_most, address_end, zeroed, Run, stopped, row_from, lawful, room_in, padded, Outcome, done, no, spread_of}
use Rattle.spread.proofs.Laws.{law}
use Rattle.export.proofs.Flat.{laid_on}
use Rattle.export.specs.Told.{run_over}

-- each area that is taken has one state
states-few : (size command address n : ℕ) (area : List ℕ) (b : Builder) (index o : ℕ) (row bytes : List ℕ)
    → length (row_from size command address n area b index o row bytes).states ≤ n
unfolding row_from
states-few size command address zero area b index o row bytes = omega arith
states-few size command address (suc n) area b index o row bytes =
    step (eqb (length bytes) 0) _ (states-few size command address n (zeroed size) fresh (rest_next size b index command (length bytes)) (o + taken size b.used (length bytes)) (drop size row) (drop (taken size b.used (length bytes)) bytes))
  where
    step : (t : Bool) (r : Run) → length r.states ≤ n
        → length (pick t (stopped row index)
        (record { areas = after_rest area b index command (address + o) bytes ++ r.areas; states = rest_builder size b command (length bytes) ∷ r.states; next = r.next })
        ).states ≤ suc n
    step true r h = omega arith
    step false r h = omega arith

module _ (row : List ℕ) (size : ℕ) (first : Builder) (index command address : ℕ) (image : List ℕ) where
  -- what the rule says of the three tests
  abbrev Counted : Outcome → Type 0
  Counted o = (first_of o.said ≡ length o.run.states) × (length o.run.states ≤ areas_most)

  -- the answer is how many states there are, and at most 32
  pub counted : Counted (spread_of row size first index command address image)
  unfolding spread_of
  counted = go (lawful (length row) size first command (length image)) refl (leb (address + length image) address_end) (leb (length image) (room_in (length row / size) size first.used))
    where
      go : (t : Bool) → lawful (length row) size first command (length image) ≡ t → (u v : Bool)
          → Counted (pick t (pick u (pick v
          (done (row_from size command address (length row / size) (take size row) first index 0 row image))
          (no 13 row index)) (no 1 row index)) (no 14 row index))
      go true e true true =
          let l : length row / size ≤ areas_most = (law (length row) size first command (length image) e).areas_at_most in
          (refl, omega (arith, states-few size command address (length row / size) (take size row) first index 0 row image))
      go true e true false = (refl, omega arith)
      go true e false v = (refl, omega arith)
      go false e u v = (refl, omega arith)

  -- so a number that the answer gives is that
  pub answered : (said : Said) (n : ℕ) → n ≡ first_of said → said ≡ (spread_of row size first index command address image).said
      → (n ≡ length (spread_of row size first index command address image).run.states) × (n ≤ areas_most)
  answered said n e f =
      let k : n ≡ length (spread_of row size first index command address image).run.states = e ∙ ap first_of f ∙ counted.0 in
      (k, rw k counted.1)

-- two numbers, and what is laid behind them
pub pair_behind : (row after whole zs : List ℕ) (x y n m : ℕ) → x ≡ n → y ≡ m → after ≡ laid row 0 (x ∷ y ∷ []) → whole ≡ laid after 2 zs
    → whole ≡ laid row 0 (n ∷ m ∷ zs)
pair_behind row after whole zs x y n m e f a w = w ∙ rw (a, laid_on row 0 (x ∷ y ∷ []) zs, e, f)

-- the list has so many places
pub listed-most : (l states : List Builder) (n : ℕ) → n ≡ length l → states ≡ padded l → n ≤ length states
unfolding padded
listed-most l states n few listed = rw (listed, few, length-append l (replicate (areas_most - length l) fresh)) (omega arith)

pub run_row : (run : Run) (states : List Builder) (n next : ℕ) (row whole : List ℕ) → n ≡ length run.states
    → (states ≡ padded run.states) × (next ≡ run.next) → whole ≡ laid row 0 (next ∷ n ∷ flat_map state_values (take n states)) → whole ≡ run_over row run
unfolding padded run_over
run_row run states n next row whole few h w =
    let t : take n states ≡ run.states = rw h.0 (take_at run.states (replicate (areas_most - length run.states) fresh) n (sym few)) in
    w ∙ rw (t, h.1, few)
