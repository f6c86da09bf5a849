-- A part of the row, and what opening it answers.
use Rattle.std.specs.Prelude.{Ok, Result}
use Rattle.refusal.specs.declared.Refusal.{Refusal}
use Rattle.pdu.specs.Pdu.{area_most}
use Rattle.created_frame.proofs.Unique.{opened_unique}
use mathlib.Core.Path.{◌≡◌, ◌∙◌, refl, ap}
use mathlib.Core.List.{List}
use Prim.Native.Nat.{ℕ, ◌+◌, ◌-◌, ◌≤◌}
use native.Mathlib.Nat.{add-sub_cancel_left}
use native.Mathlib.Omega.{arith}
use borrow.Author.Tests.{le-leb}
use lib.ListN.{length, take, drop, length-take, length-drop}
use Rattle.created_frame.specs.declared.Builder.{Builder}
use Rattle.created_frame.specs.Answers.{said_opened}
use Rattle.created_frame.specs.Frame.{fresh, opened}

pub part_is : (at size : ℕ) (xs : List ℕ) → take (at + size - at) (drop at xs) ≡ take size (drop at xs)
part_is at size xs = ap (λ (z : ℕ). take z (drop at xs)) (add-sub_cancel_left at size)

pub part_length : (at size : ℕ) (xs : List ℕ) → at + size ≤ length xs → length (take size (drop at xs)) ≡ size
part_length at size xs h = simp (length-take, length-drop) (omega arith)

-- one that is opened: it is not too long, so it gives the state of an empty one
pub opened_ok : (r : Result Builder Refusal) (n : ℕ) → n ≤ area_most → said_opened r ≡ opened n → r ≡ Ok fresh
unfolding opened
opened_ok r n k e = opened_unique r (Ok fresh) _ (e ∙ rw (le-leb n 2047 k) refl) refl
