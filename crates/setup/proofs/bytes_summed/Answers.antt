-- `bytes_summed` goes byte by byte: after i turns the first i are the image's.
use mathlib.Core.Path.{◌≡◌}
use native.Mathlib.Omega.{arith}
use Rattle.setup.proofs.Laws.{front-more, front_all}
use borrow.Author.Rules.{rules}
use Rattle.setup.proofs.bytes_summed.Goals as goal

pub loop-i-preserved : goal.loop-i-preserved
loop-i-preserved c = (search rules, search rules, rw (c.loop-i.invariant.2, c.byte_of.ensures) (front-more _ _ _ (omega arith)))

pub returns : goal.returns
returns c =
    let l = c.loop-i in
    let e : l.i ≡ 14 = omega arith in
    rw (l.invariant.2, e) (front_all _ _ l.invariant.1)
