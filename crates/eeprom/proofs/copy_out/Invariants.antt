-- `eeprom::copy_out` fills the buffer: after i turns its first i bytes are the image's, and the rest is as it was.
use mathlib.Core.Path.{◌≡◌}
use lib.ListN.{length}
use Rattle.wire.specs.Bytes.{filled}
use Rattle.eeprom.proofs.copy_out.Given as goal

abbrev pub invariant-loop-i : goal.invariant-loop-i
invariant-loop-i l = (length l.buf ≡ length l.initial.buf) × (l.buf ≡ filled l.image l.pos l.i l.initial.buf)
