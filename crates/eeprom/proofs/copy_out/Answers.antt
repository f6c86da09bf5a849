-- `eeprom::copy_out` fills the buffer: after i turns its first i bytes are the image's, and the rest is as it was.
use borrow.Author.Rules.{rules}
use native.Mathlib.Omega.{arith}
use Rattle.wire.proofs.Laws.{filled_more}
use Rattle.eeprom.proofs.Chunks.{filled_all}
use native.Mathlib.Nat.{le_of_eq}
use mathlib.Core.Path.{◌≡◌, refl}
use lib.ListN.{length}
use Rattle.eeprom.proofs.copy_out.Goals as goal

pub loop-i-preserved : goal.loop-i-preserved
loop-i-preserved c = (search rules, rw (c.loop-i.invariant.1, c.byte_at.ensures) (filled_more _ _ _ _ (omega arith)))

pub returns : goal.returns
returns c =
    let l = c.loop-i in
    let e : l.i ≡ length c.args.buf.now = omega arith in
    rw (l.invariant.1, e) (filled_all c.args.image.now c.args.pos _ c.args.buf.now (le_of_eq refl))
