-- `received::match_all`: those found so far, before what the rest gives, are the whole; a fault, or the end, is what the walk then says.
use Rattle.std.proofs.Common.{◌≡◌, ◌+◌, ◌∙◌, sym, ap, refl, ℕ, length, arith}
use Rattle.std.proofs.lemmas.Result.{err_from_is_err_and}
use Rattle.received.specs.Answers.{padded, unused}
use Rattle.received.proofs.Blank.{pdu_blank}
use Rattle.received.proofs.Laws.{handle_here, handles_over, right-fits, next-is, going_start, going_next, going_wrong, going_missing, going_done}
use Rattle.received.proofs.match_all.Goals as goal

pub loop-k-init : goal.loop-k-init
unfolding padded unused
loop-k-init c = (omega arith, omega arith, going_start _ _ _ _ (rw (pdu_blank _ c.default-pdus.ensures) refl))

pub returns-in_err-judge : goal.returns-in_err-judge
returns-in_err-judge c =
    let x = c.loop-k in
    let p = err_from_is_err_and c.from_residual.result c.from_residual.ensures.1 in
    rw (p.1, p.2) (sym (going_wrong x.invariant.2 _ (handle_here _ x.k _ c.loop-k-test.true) _ (sym c.judge.ensures ∙ c.in_err-judge.was)))

pub bounds-pdus-k : goal.bounds-pdus-k
bounds-pdus-k c =
    let x = c.loop-k in
    let f = right-fits _ _ x.at _ x.k (sym c.judge.ensures ∙ c.in_ok-judge.was) in
    omega arith

pub loop-k-preserved : goal.loop-k-preserved
loop-k-preserved c =
    let x = c.loop-k in
    let right = sym c.judge.ensures ∙ c.in_ok-judge.was in
    let f = right-fits _ _ x.at _ x.k right in
    let n = ap (λ (z : ℕ). x.at + (12 + z)) c.from.ensures ∙ next-is _ x.at c.came_back-pdu.result c.came_back-pdu.ensures in
    (omega arith, omega arith, going_next x.invariant.2 _ (handle_here _ x.k _ c.loop-k-test.true) c.came_back-pdu.result _ (omega arith) right c.came_back-pdu.ensures n)

pub returns-then-at-end : goal.returns-then-at-end
returns-then-at-end c =
    let x = c.loop-k in
    let e : x.k ≡ length c.args.handles.now = omega arith in
    rw (← e) (sym (going_missing x.invariant.2 (handles_over _ x.k c.loop-k-test.false) c.if-at-end.true))

pub returns : goal.returns
returns c =
    let x = c.loop-k in
    let e : x.k ≡ length c.args.handles.now = omega arith in
    rw (← e) (sym (going_done x.invariant.2 (handles_over _ x.k c.loop-k-test.false) (omega arith)))
