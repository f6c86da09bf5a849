-- `lines::word_end` goes on from `from` to the end of the word there; past the line it stays.
use native.Mathlib.Omega.{arith}
use mathlib.Core.Logic.{inl, inr}
use Rattle.lines.proofs.Laws.{word-within, end_in, end_past}
use Rattle.lines.proofs.word_end.Goals as goal

pub overflow_add-result : goal.overflow_add-result
overflow_add-result c = omega (arith, c.in-Some.ensures.lookup.0, word-within c.in-Some.rest.now)

pub returns-in-Some : goal.returns-in-Some
returns-in-Some c = end_in c.args.line.now c.in-Some.rest.now _ _ c.in-Some.ensures.lookup.0.2 c.word_length.ensures

pub returns-in-None : goal.returns-in-None
returns-in-None c = elim c.in-None.ensures.lookup.0 [ inl h ↦ end_past _ _ h | inr h ↦ absurd (omega arith) ]
