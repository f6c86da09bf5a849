-- The loop's invariant: the sum is that over the pairs passed, and each added less than 2 to the 32.
use Rattle.std.proofs.Common.{◌≡◌, ◌*◌, ◌≤◌}
use Rattle.ports.specs.Delays.{gaps, sum_most}
use Rattle.ports.proofs.delay.gaps_before.Given as goal

abbrev pub invariant-loop-j : goal.invariant-loop-j
invariant-loop-j l = (l.sum ≡ gaps l.p l.j) × (l.sum ≤ l.j * sum_most)
