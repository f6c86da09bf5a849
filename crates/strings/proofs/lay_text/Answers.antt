-- `lay_text` lays the text byte by byte: after i turns the text of the first i bytes stands at the room's front.
use mathlib.Core.Path.{◌≡◌}
use native.Mathlib.Omega.{arith}
use borrow.Author.Rules.{rules}
use Rattle.strings.proofs.Laws.{laid_none, laid_next}
use Rattle.strings.proofs.lay_text.Goals as goal

pub loop-i-init : goal.loop-i-init
loop-i-init c = laid_none _ _ _

pub loop-i-preserved : goal.loop-i-preserved
loop-i-preserved c =
    let l = c.loop-i in
    let h = c.put-k.ensures in
    laid_next _ _ _ _ _ _ _ _ _ c.byte_of-b.ensures l.invariant (search rules) h.said h.lent

pub returns : goal.returns
returns c =
    let l = c.loop-i in
    let e : l.i ≡ c.args.n = omega arith in record { said = rw (← e) l.invariant.count; most = omega (arith, l.invariant.most); lent = rw (← e) l.invariant.same }
