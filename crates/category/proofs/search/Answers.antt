-- `search` goes header by header: what the search says from the header at hand on is what the whole search says.
use mathlib.Core.Path.{◌∙◌, ap, sym}
use native.Mathlib.Omega.{arith}
use Rattle.category.specs.Answers.{said_step}
use Rattle.category.proofs.Laws.{goes_first, loop_done, loop_next}
use Rattle.category.proofs.search.Goals as goal

pub loop-f-init : goal.loop-f-init
loop-f-init c = goes_first _ _

pub header-requires : goal.header-requires
header-requires c = let g = c.loop-f.invariant in (g.inside, g.few)

pub returns-in-Done : goal.returns-in-Done
returns-in-Done c = let l = c.loop-f in record { said = (loop_done _ _ _ _ l.invariant _ (ap said_step (sym c.in-Done.is) ∙ c.header.ensures)).0; last = (loop_done _ _ _ _ l.invariant _ (ap said_step (sym c.in-Done.is) ∙ c.header.ensures)).1 }

pub loop-f-smaller : goal.loop-f-smaller
loop-f-smaller c =
    let l = c.loop-f in
    omega (arith, loop_next _ _ _ _ l.invariant _ _ (ap said_step (sym c.in-Next.is) ∙ c.header.ensures))

pub loop-f-preserved : goal.loop-f-preserved
loop-f-preserved c =
    let l = c.loop-f in
    let q = loop_next _ _ _ _ l.invariant _ _ (ap said_step (sym c.in-Next.is) ∙ c.header.ensures) in
    q.1
