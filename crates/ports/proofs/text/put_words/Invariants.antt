-- The loop's invariant: the words of the places passed lie behind each other, and the next goes behind them.
use Rattle.std.proofs.Common.{◌≡◌, ◌+◌, ◌*◌, ◌≤◌, length}
use Rattle.ports.specs.Display.{opening, word_most, words}
use Rattle.wire.proofs.Stretch.{Front}
use Rattle.ports.proofs.text.put_words.Given as goal

abbrev pub invariant-loop-q : goal.invariant-loop-q
invariant-loop-q l = (l.at ≤ length opening + word_most * l.q-index) × (length l.buf ≡ length l.initial.buf) × Front l.initial.buf (length opening) (words l.fn.p l.q-index) l.buf l.at
