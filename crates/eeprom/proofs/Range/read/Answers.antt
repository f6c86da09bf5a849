-- `Range::read` fills as much of the buffer as it takes.
use borrow.Author.Rules.{rules}
use Prim.Native.Nat.{◌≤◌}
use lib.ListN.{length}
use Rattle.std.proofs.lemmas.List.{length-take-le}
use Rattle.wire.specs.Bytes.{filled}
use Rattle.eeprom.specs.Range.{read_buf}
use Rattle.eeprom.proofs.Range.read.Goals as goal

pub returns-clause-lent : goal.returns-clause-lent
unfolding read_buf filled
returns-clause-lent c =
    let h : c.min-n.result ≤ length c.args.buf.now = search rules in
    rw (c.in_ok-checked.ensures, c.read_chunks.ensures, length-take-le _ _ h, c.min-n.ensures, c.left.ensures)
