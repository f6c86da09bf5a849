-- An answer is known from what it says, by an inverse: so the promise allows one result.
use Rattle.std.specs.Prelude.{Result}
use Rattle.refusal.specs.declared.Refusal.{Refusal}
use mathlib.Core.Path.{◌≡◌, sym, ap, ◌∙◌}
use mathlib.Core.List.{List}
use Prim.Native.Nat.{ℕ}
use Rattle.refusal.specs.Said.{Said}
use Rattle.refusal.proofs.Unique.{number_unique}
use Rattle.created_frame.specs.declared.Builder.{Builder}
use Rattle.spread.specs.declared.Spreading.{Spreading}
use Rattle.spread.specs.Answers.{said_last, Promised}

pub answer_unique : (a b : Result ℕ Refusal) (s : Said) → said_last a ≡ s → said_last b ≡ s → a ≡ b
answer_unique = number_unique

-- two results of the same arguments, of one contract
pub spread_unique : (row : List ℕ) (size : ℕ) (first : Builder) (index command address : ℕ) (image : List ℕ) (x y : Spreading) (xs ys : List ℕ)
    → Promised row size first index command address image x xs → Promised row size first index command address image y ys → x ≡ y
spread_unique row size first index command address image x y xs ys p q =
    let e : x.answer ≡ y.answer = answer_unique x.answer y.answer _ p.0 q.0 in
    let f : x.states ≡ y.states = p.1.0.0 ∙ sym q.1.0.0 in
    let g : x.next ≡ y.next = p.1.0.1 ∙ sym q.1.0.1 in
    ap (λ (z : Result ℕ Refusal). record { answer = z; states = x.states; next = x.next }) e
    ∙ ap (λ (z : List Builder). record { answer = y.answer; states = z; next = x.next }) f
    ∙ ap (λ (z : ℕ). record { answer = y.answer; states = y.states; next = z }) g
