-- `pass` goes string by string: passing over those left, from here, is passing over all of them.
use Rattle.std.proofs.Common.{rules, ◌-◌, ◌+◌}
use mathlib.Core.Path.{◌≡◌, ◌∙◌}
use native.Mathlib.Omega.{arith}
use Rattle.strings.proofs.Laws.{passed_none, passed-more, passed_stop}
use Rattle.strings.proofs.pass.Goals as goal

pub returns-in_err-at : goal.returns-in_err-at
returns-in_err-at c =
    let l = c.loop in
    let e = passed_stop c.args.image.now l.at.byte_pos l.at.end (c.args.s - l.counter) _ _ (omega arith) c.in_err-at.ensures ∙ l.invariant in
    search rules

pub loop-preserved : goal.loop-preserved
loop-preserved c =
    let l = c.loop in
    let e : c.args.s - (l.counter + 1) ≡ c.args.s - l.counter - 1 = omega arith in
    rw e (passed-more c.args.image.now l.at.byte_pos l.at.end (c.args.s - l.counter) _ _ (omega arith) c.in_ok-at.ensures ∙ l.invariant)

pub returns : goal.returns
returns c =
    let l = c.loop in
    passed_none c.args.image.now l.at.byte_pos l.at.end (c.args.s - l.counter) (omega arith) ∙ l.invariant
