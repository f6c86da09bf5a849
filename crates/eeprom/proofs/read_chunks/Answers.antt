-- `eeprom::read_chunks` fills the buffer chunk by chunk: after each turn its first `done` bytes are the image's.
use borrow.Author.Rules.{rules}
use native.Mathlib.Nat.{le_of_eq}
use mathlib.Core.Path.{◌≡◌, refl}
use lib.ListN.{length}
use Rattle.wire.proofs.Laws.{filled_none}
use Rattle.wire.proofs.Stretch.{filled_next}
use Rattle.eeprom.proofs.Chunks.{width-least, filled_all}
use Rattle.eeprom.proofs.read_chunks.Goals as goal

pub loop-done-init : goal.loop-done-init
loop-done-init c =
    let a = c.args in
    (c.width-wide.ensures, (let w = width-least a.chunk in search rules), search rules, search rules, filled_none _ _ _)

pub loop-done-preserved : goal.loop-done-preserved
loop-done-preserved c =
    let l = c.loop-done in
    (l.invariant.0, l.invariant.1, search rules, search rules, rw (c.lay_chunk.ensures, l.invariant.4) (filled_next _ _ _ _ _))

pub returns : goal.returns
returns c =
    let l = c.loop-done in
    let a = c.args in
    let e : l.done ≡ length a.buf.now = search rules in
    rw (l.invariant.4, e) (filled_all a.image.now a.pos _ a.buf.now (le_of_eq refl))
