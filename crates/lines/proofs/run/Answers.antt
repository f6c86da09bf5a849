-- `lines::run` reads digit by digit: what the rest says, read on from the value so far, is what the whole says.
use mathlib.Core.Path.{ap, ◌∙◌}
use native.Mathlib.Omega.{arith}
use borrow.Author.Rules.{rules}
use Rattle.lines.specs.Numbers.{said_number}
use Rattle.lines.proofs.Laws.{below_is, below_not, from_more, from_bad, from_over, from_end}
use Rattle.lines.proofs.run.Goals as goal

pub returns-in_err-digit : goal.returns-in_err-digit
returns-in_err-digit c =
    let l = c.loop-b in
    ap said_number c.from_residual.ensures
    ∙ from_bad l.v _ l.b-index (omega arith) (below_not 10 _ _ c.digit.ensures c.in_err-digit.was)
    ∙ l.invariant.0

pub returns-then-v-gt-NUMBER_MOST : goal.returns-then-v-gt-NUMBER_MOST
returns-then-v-gt-NUMBER_MOST c =
    let l = c.loop-b in
    let d = below_is 10 _ _ _ c.digit.ensures c.in_ok-digit.was in
    from_over _ _ c.if-v-gt-NUMBER_MOST.true ∙ from_more l.v _ _ l.b-index (omega arith) (omega (arith, d)) (omega (arith, d)) ∙ l.invariant.0

pub loop-b-preserved : goal.loop-b-preserved
loop-b-preserved c =
    let l = c.loop-b in
    let d = below_is 10 _ _ _ c.digit.ensures c.in_ok-digit.was in
    (from_more l.v _ _ l.b-index (omega arith) (omega (arith, d)) (omega (arith, d)) ∙ l.invariant.0, search rules)

pub returns : goal.returns
returns c = from_end c.loop-b.v c.args.word.now c.loop-b.b-index (omega arith) c.loop-b.invariant.1 ∙ c.loop-b.invariant.0
