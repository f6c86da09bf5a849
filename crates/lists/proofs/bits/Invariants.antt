-- `bits` adds entry by entry: before entry k the sum is that of the first k, at most 255 each.
use Prim.Native.Nat.{◌≤◌, ◌*◌}
use mathlib.Core.Path.{◌≡◌}
use Rattle.lists.specs.Pdos.{sum_to, entry_bits}
use Rattle.lists.proofs.bits.Given as goal

abbrev pub invariant-loop-k : goal.invariant-loop-k
invariant-loop-k l = (l.sum ≡ sum_to (entry_bits l.image l.at) l.k) × (l.sum ≤ 255 * l.k)
