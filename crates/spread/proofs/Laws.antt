-- Laws of the rule: what `lawful` means, and each way out of the call.
use mathlib.Core.Path.{◌≡◌, refl, sym, ap, ◌∙◌}
use mathlib.Core.Bool.{Bool, true, false, ◌&&◌}
use mathlib.Core.List.{List, []}
use Prim.Native.Nat.{ℕ, ◌+◌, ◌*◌, ◌/◌, ◌%◌, ◌≤◌}
use native.Mathlib.Omega.{arith}
use native.Mathlib.Nat.{div-add-mod', add-zero}
use borrow.Author.Tests.{leb-true, le-leb, eqb-true, eq-eqb}
use lib.Dec.{leb}
use lib.ListN.{length, take, replicate}
use Rattle.refusal.proofs.Tests.{both}
use Rattle.created_frame.specs.declared.Builder.{Builder}
use Rattle.created_frame.specs.Frame.{fresh}
use Rattle.spread.specs.Row.{address_end, Run, row_from, lawful, room_in, padded, Outcome, done, no, spread_of, Fillable}
use Rattle.spread.specs.Demand.{Bounds}

pub padded-none : padded [] ≡ replicate 32 fresh
unfolding padded
padded-none = refl

-- ---- what is not refused as 14

whole_rows : (total size : ℕ) → total % size ≡ 0 → total / size * size ≡ total
whole_rows total size e =
    let d : total / size * size + total % size ≡ total = div-add-mod' total size in
    sym (add-zero (total / size * size)) ∙ ap (λ (z : ℕ). total / size * size + z) (sym e) ∙ d

pub law : (total size : ℕ) (first : Builder) (command given : ℕ) → lawful total size first command given ≡ true → Bounds total size first command given
unfolding lawful
law total size first command given e =
    let a = both _ _ e in
    let b = both _ _ a.0 in
    let c = both _ _ b.0 in
    let d = both _ _ c.0 in
    let f = both _ _ d.0 in
    let g = both _ _ f.0 in
    let h = both _ _ g.0 in
    let i = both _ _ h.0 in
    record {
      size_some = leb-true _ _ i.0;
      size_most = leb-true _ _ i.1;
      row_whole = whole_rows total size (eqb-true _ _ h.1);
      areas_some = leb-true _ _ g.1;
      areas_at_most = leb-true _ _ f.1;
      given_most = leb-true _ _ d.1;
      command_at_least = leb-true _ _ c.1;
      command_at_most = leb-true _ _ b.1;
      first_sound = a.1;
    }

-- .. and the other way
no_rest : (q m total : ℕ) → q + m ≡ total → q ≡ total → m ≡ 0
no_rest q m total d e = omega arith

and_so : {a b : Bool} → a ≡ true → b ≡ true → a && b ≡ true
and_so {a} {b} p q = rw (p, q) refl

pub bounds-lawful : (total size : ℕ) (first : Builder) (command given : ℕ) → Bounds total size first command given → lawful total size first command given ≡ true
unfolding lawful
bounds-lawful total size first command given b =
    let whole : total % size ≡ 0 = no_rest (total / size * size) (total % size) total (div-add-mod' total size) b.row_whole in
    and_so (and_so (and_so (and_so (and_so (and_so (and_so (and_so
    (le-leb _ _ b.size_some) (le-leb _ _ b.size_most)) (eq-eqb _ _ whole)) (le-leb _ _ b.areas_some)) (le-leb _ _ b.areas_at_most))
    (le-leb _ _ b.given_most)) (le-leb _ _ b.command_at_least)) (le-leb _ _ b.command_at_most)) b.first_sound

-- ---- the ways out

module _ (row : List ℕ) (size : ℕ) (first : Builder) (index command address : ℕ) (image : List ℕ) where
  abbrev pub out : Outcome
  out = spread_of row size first index command address image

  abbrev pub run : Run
  run = row_from size command address (length row / size) (take size row) first index 0 row image

  abbrev pub bounds : Bool
  bounds = lawful (length row) size first command (length image)

  abbrev pub reaches : Bool
  reaches = leb (address + length image) address_end

  abbrev pub fits : Bool
  fits = leb (length image) (room_in (length row / size) size first.used)

  pub refused_14 : bounds ≡ false → out ≡ no 14 row index
  unfolding spread_of
  refused_14 e = rw e refl

  pub refused_1 : bounds ≡ true → reaches ≡ false → out ≡ no 1 row index
  unfolding spread_of
  refused_1 e f = rw (e, f) refl

  pub refused_13 : bounds ≡ true → reaches ≡ true → fits ≡ false → out ≡ no 13 row index
  unfolding spread_of
  refused_13 e f g = rw (e, f, g) refl

  pub is-done : bounds ≡ true → reaches ≡ true → fits ≡ true → out ≡ done run
  unfolding spread_of
  is-done e f g = rw (e, f, g) refl

  -- what holds of each way out holds of the rule
  pub ways : (P : Outcome → Type 0)
      → (bounds ≡ false → P (no 14 row index))
      → (bounds ≡ true → reaches ≡ false → P (no 1 row index))
      → (bounds ≡ true → reaches ≡ true → fits ≡ false → P (no 13 row index))
      → (bounds ≡ true → reaches ≡ true → fits ≡ true → P (done run))
      → P out
  ways P a b c d = go bounds reaches fits refl refl refl
    where
      go : (x y z : Bool) → bounds ≡ x → reaches ≡ y → fits ≡ z → P out
      go false y z p q r = rw (refused_14 p) (a p)
      go true false z p q r = rw (refused_1 p q) (b p q)
      go true true false p q r = rw (refused_13 p q r) (c p q r)
      go true true true p q r = rw (is-done p q r) (d p q r)

  -- what is carried is within the bounds
  pub fillable : bounds ≡ true → address + length image ≤ address_end → length image ≤ room_in (length row / size) size first.used
      → Fillable (length row) size (length row / size) first command address (length image)
  fillable e f g =
      let b = law (length row) size first command (length image) e in
      record {
        size_most = b.size_most;
        row_whole = b.row_whole;
        areas_some = b.areas_some;
        areas_at_most = b.areas_at_most;
        given_most = b.given_most;
        command_at_most = b.command_at_most;
        first_sound = b.first_sound;
        address_most = f;
        room = g;
      }
