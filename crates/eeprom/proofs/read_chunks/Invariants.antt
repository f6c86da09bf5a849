-- `eeprom::read_chunks` fills the buffer chunk by chunk: after each turn its first `done` bytes are the image's.
use Prim.Native.Nat.{◌≤◌, ◌-◌}
use mathlib.Core.Path.{◌≡◌}
use lib.ListN.{length}
use Rattle.wire.specs.Bytes.{filled}
use Rattle.eeprom.specs.Image.{width_of}
use Rattle.eeprom.proofs.read_chunks.Given as goal

abbrev pub invariant-loop-done : goal.invariant-loop-done
invariant-loop-done l = (l.wide ≡ width_of l.chunk) × (4 ≤ l.wide) × (l.done ≤ length l.initial.buf) × (length l.buf ≡ length l.initial.buf) × (l.buf ≡ filled l.image l.pos l.done l.initial.buf)

abbrev pub decreases-loop-done : goal.decreases-loop-done
decreases-loop-done l = length l.initial.buf - l.done
