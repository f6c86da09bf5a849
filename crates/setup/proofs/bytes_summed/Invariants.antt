-- `bytes_summed` goes byte by byte: after i turns the first i are the image's.
use mathlib.Core.Path.{◌≡◌}
use lib.ListN.{length}
use Rattle.wire.specs.Bytes.{filled}
use Rattle.setup.proofs.bytes_summed.Given as goal

abbrev pub invariant-loop-i : goal.invariant-loop-i
invariant-loop-i l = (length l.bytes ≡ 14) × (length l.initial.bytes ≡ 14) × (l.bytes ≡ filled l.image 0 l.i l.initial.bytes)
