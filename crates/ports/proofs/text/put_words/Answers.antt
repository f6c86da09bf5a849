-- The loop's invariant: the words of the places passed lie behind each other, and the next goes behind them.
use Rattle.std.proofs.Common.{◌≡◌, length, refl, arith, rules}
use Rattle.ports.specs.Display.{opening, words}
use Rattle.ports.specs.Ports.{port_count}
use Rattle.wire.proofs.Stretch.{Front, front-start}
use Rattle.ports.proofs.Words.{word_next}
use Rattle.ports.proofs.text.put_words.Goals as goal

pub loop-q-init : goal.loop-q-init
unfolding words
loop-q-init c = (search rules, refl, front-start c.args.buf.now (length opening))

pub loop-q-preserved : goal.loop-q-preserved
loop-q-preserved c = (search rules, search rules, word_next c.args.p c.loop-q.invariant.2 (search rules) c.requires refl c.put_word-at.ensures.buf_after c.put_word-at.ensures.value.0)

pub returns : goal.returns
returns c = let e : c.loop-q.q-index ≡ port_count = omega arith in let f : Front c.args.buf.now (length opening) (words c.args.p port_count) c.loop-q.buf c.loop-q.at = rw e at c.loop-q.invariant.2 in record { value = f.next; buf_after = f.so_far }
