-- `pass` goes string by string: passing over those left, from here, is passing over all of them.
use Prim.Native.Nat.{◌-◌}
use mathlib.Core.Path.{◌≡◌}
use Rattle.strings.specs.Strings.{passed}
use Rattle.strings.proofs.pass.Given as goal

abbrev pub invariant-loop : goal.invariant-loop
invariant-loop l = passed (l.s - l.counter) l.image l.at.byte_pos l.at.end ≡ passed l.s l.image l.initial.at.byte_pos l.initial.at.end
