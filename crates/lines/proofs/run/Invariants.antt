-- `lines::run` reads digit by digit: what the rest says, read on from the value so far, is what the whole says.
use mathlib.Core.Path.{◌≡◌}
use Prim.Native.Nat.{◌≤◌}
use lib.ListN.{drop}
use Rattle.lines.specs.Numbers.{number_most, number_from}
use Rattle.lines.proofs.run.Given as goal

abbrev pub invariant-loop-b : goal.invariant-loop-b
invariant-loop-b l = (number_from l.v (drop l.b-index l.word) ≡ number_from 0 l.word) × (l.v ≤ number_most)
