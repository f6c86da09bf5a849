-- The definitions say what the bench measured, in every case of the table: one test, computed over the whole of it, and a law that turns it into equations.
use mathlib.Core.Path.{◌≡◌, refl, ap}
use mathlib.Core.Bool.{true, false≢true}
use mathlib.Core.List.{List, [], ◌∷◌}
use Prim.Native.Nat.{ℕ}
use lib.ListN.{drop}
use borrow.Author.Tests.{eqb-true}
use Rattle.refusal.specs.Said.{Said, gives, absent, refuses, on2, on3}
use Rattle.refusal.proofs.Tests.{both}
use Rattle.wire.specs.Bytes.{byte_at, span, overlay}
use Rattle.crc.proofs.Bench.{crc_zeros, crc_digits}
use Rattle.eeprom.specs.Image.{within, in_bounds, fine}
use Rattle.eeprom.specs.Range.{new_said, byte_in, byte_said, skip_in, skip_said, exact_said}
use Rattle.category.specs.Category.{among, counted, decided, stepped, search_over, search_from, searched, category_said}
use Rattle.strings.specs.Strings.{string_past, passed_one, passed, on_exact, fitted, string_here, string_behind, string_in, sought_at, ascii, shown, text_said, fits, bounded, text_for, string_said}
use Rattle.ports.specs.Ports.{those, folded, active_ports, fresh, times_set}
use Rattle.ports.specs.Delays.{largest, smallest, breadth, delay_said, total, total_said, gap, gaps, sum_said, intermediate_said}
use Rattle.cuts.specs.Measure.{cap}
use Rattle.created_frame.specs.Frame.{sound, acceptable, room, more, marked, after_open, pushed, pushed_builder, pushed_next, after_push, rest_builder, rest_next}
use Rattle.created_frame.specs.Built.{run}
use Rattle.spread.specs.Row.{row_from, lawful, room_in, spread_of}
use Rattle.bench.specs.Agrees.{Case, same_list, same, agrees, Agreed}
use Rattle.bench.specs.Table.{empties_then_strings, two_strings, four, three, built, cases}

-- ---- a test that holds is an equation

same-list : (l m : List ℕ) → same_list l m ≡ true → l ≡ m
unfolding same_list
same-list [] [] e = refl
same-list [] (b ∷ m) e = absurd (false≢true e)
same-list (a ∷ l) [] e = absurd (false≢true e)
same-list (a ∷ l) (b ∷ m) e =
    let p = both _ _ e in
    let h : a ≡ b = eqb-true _ _ p.0 in
    rw (h, same-list l m p.1) refl

same-said : (a b : Said) → same a b ≡ true → a ≡ b
unfolding same
same-said (gives l) (gives m) e = ap gives (same-list l m e)
same-said (gives l) absent e = absurd (false≢true e)
same-said (gives l) (refuses k m) e = absurd (false≢true e)
same-said absent (gives m) e = absurd (false≢true e)
same-said absent absent e = refl
same-said absent (refuses k m) e = absurd (false≢true e)
same-said (refuses n l) (gives m) e = absurd (false≢true e)
same-said (refuses n l) absent e = absurd (false≢true e)
same-said (refuses n l) (refuses k m) e =
    let p = both _ _ e in
    let h : n ≡ k = eqb-true _ _ p.0 in
    rw (h, same-list l m p.1) refl

agreed : (cs : List Case) → agrees cs ≡ true → Agreed cs
unfolding agrees Agreed
agreed [] e = tt
agreed (c ∷ cs) e =
    let p = both _ _ e in
    (same-said c.says c.measured p.0, agreed cs p.1)

-- ---- the test holds

-- .. with any two numbers for the checksums, if they are those measured: crc's laws say that they are, and the division stays shut
with_sums : (a b : ℕ) → a ≡ 0x30 → b ≡ 0xFB
    → agrees (record { says = gives (a ∷ []); measured = gives (0x30 ∷ []) } ∷ record { says = gives (b ∷ []); measured = gives (0xFB ∷ []) } ∷ drop 2 cases) ≡ true
unfolding
    agrees same same_list cases empties_then_strings two_strings four three built
    on2 on3 byte_at span overlay
    within in_bounds fine new_said byte_in byte_said skip_in skip_said exact_said
    among counted decided stepped search_over search_from searched category_said
    string_past passed_one passed on_exact fitted string_here string_behind string_in sought_at ascii shown text_said fits bounded text_for string_said
    those folded active_ports fresh times_set largest smallest breadth delay_said total total_said gap gaps sum_said intermediate_said
    sound acceptable room more marked after_open pushed pushed_builder pushed_next after_push rest_builder rest_next run
    cap row_from lawful room_in spread_of
with_sums a b p q = rw (p, q) refl

computed : agrees cases ≡ true
unfolding cases
computed = with_sums _ _ crc_zeros crc_digits

-- THE STATEMENT: in every case of the table the definitions say what was measured
pub measured : Agreed cases
measured = agreed cases computed
