-- `search` goes header by header: what the search says from the header at hand on is what the whole search says.
use Prim.Native.Nat.{suc, ◌-◌}
use Rattle.category.specs.Layout.{word_most}
use Rattle.category.proofs.Laws.{Goes}
use Rattle.category.proofs.search.Given as goal

abbrev pub invariant-loop-f : goal.invariant-loop-f
invariant-loop-f l = Goes l.image l.number l.word l.empties

abbrev pub decreases-loop-f : goal.decreases-loop-f
decreases-loop-f l = suc word_most - l.word
