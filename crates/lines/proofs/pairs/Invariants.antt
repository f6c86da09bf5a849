-- `lines::pairs` lays pair behind pair: what the rest will make, from the place reached, is what the whole makes.
use mathlib.Core.Path.{◌≡◌}
use lib.ListN.{length, drop}
use Rattle.wire.specs.Bytes.{laid}
use Rattle.lines.specs.Pairs.{pairs_of}
use Rattle.lines.specs.Places.{after}
use Rattle.lines.proofs.pairs.Given as goal

abbrev pub invariant-loop-b : goal.invariant-loop-b
invariant-loop-b l = (length l.out ≡ length l.initial.out)
    × (after (length l.initial.out) l.p (length (pairs_of (drop l.b-index l.bytes))) ≡ after (length l.initial.out) l.k (length (pairs_of l.bytes)))
    × (laid l.out l.p (pairs_of (drop l.b-index l.bytes)) ≡ laid l.initial.out l.k (pairs_of l.bytes))
