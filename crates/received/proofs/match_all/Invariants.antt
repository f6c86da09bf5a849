-- `received::match_all`: those found so far, before what the rest gives, are the whole; a fault, or the end, is what the walk then says.
use Rattle.std.proofs.Common.{◌+◌, ◌*◌, ◌≤◌, map}
use Rattle.received.specs.Matching.{handle_of}
use Rattle.received.proofs.Laws.{Going}
use Rattle.received.proofs.match_all.Given as goal

abbrev pub invariant-loop-k : goal.invariant-loop-k
invariant-loop-k l = (l.at ≤ l.end) × (12 * l.k + 2 ≤ l.at) × Going (map handle_of l.handles) l.s l.end l.at l.k l.pdus
