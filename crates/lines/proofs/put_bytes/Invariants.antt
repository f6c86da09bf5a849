-- `lines::put_bytes` lays the bytes: after j turns the room is what it was with the first j bytes of the word's over its front.
use mathlib.Core.Path.{◌≡◌}
use lib.Seq.{paste}
use Rattle.lines.specs.Pairs.{bytes_of}
use Rattle.lines.proofs.put_bytes.Given as goal

abbrev pub invariant-loop-j : goal.invariant-loop-j
invariant-loop-j l = l.room ≡ paste l.initial.room 0 (bytes_of l.word) l.j
