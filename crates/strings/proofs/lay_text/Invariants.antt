-- `lay_text` lays the text byte by byte: after i turns the text of the first i bytes stands at the room's front.
use Rattle.strings.proofs.Laws.{Laid}
use Rattle.strings.proofs.lay_text.Given as goal

abbrev pub invariant-loop-i : goal.invariant-loop-i
invariant-loop-i l = Laid l.image l.at l.i l.initial.room l.room l.k
