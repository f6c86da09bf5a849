-- `spread::carry` fills one area after the other: what is done and what is left are the whole run (Going.antt).
use Prim.Native.Nat.{◌-◌}
use lib.ListN.{take}
use Rattle.spread.specs.Row.{row_from}
use Rattle.spread.proofs.Going.{Before}
use Rattle.spread.proofs.carry.Given as goal

abbrev pub invariant-loop-sent : goal.invariant-loop-sent
invariant-loop-sent l =
    Before l.count l.size l.command l.address l.image (row_from l.size l.command l.address l.count (take l.size l.fn.areas) l.first l.index 0 l.fn.areas l.image)
    l.first l.areas l.states l.k l.sent l.next

abbrev pub decreases-loop-sent : goal.decreases-loop-sent
decreases-loop-sent l = l.count - l.k
