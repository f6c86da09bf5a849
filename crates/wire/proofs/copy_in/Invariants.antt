-- `wire::copy_in` copies: after i turns the first i values of `dst` are those of `src`.
use mathlib.Core.Path.{◌≡◌}
use lib.ListN.{length, take}
use Rattle.wire.proofs.copy_in.Given as goal

abbrev pub invariant-loop-i : goal.invariant-loop-i
invariant-loop-i g l = (length l.dst ≡ length l.initial.dst) × (take l.i l.dst ≡ take l.i l.src)
