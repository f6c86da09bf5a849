-- `Range::read_exact` is a read, and the test that it took all; the range is where the read stands.
use mathlib.Core.Path.{ap, sym, ◌∙◌}
use lib.ListN.{length}
use Rattle.refusal.specs.Said.{on3}
use Rattle.eeprom.specs.Answers.{said_reading}
use Rattle.eeprom.proofs.Laws.{exact_reads, told, exact_stands}
use Rattle.eeprom.proofs.Range.read_exact.Goals as goal

pub returns-in-Ok : goal.returns-in-Ok
unfolding on3 told
returns-in-Ok c =
    let r = c.read.ensures in
    let a = c.args in
    let s = ap said_reading (sym c.in-Ok.is) ∙ r.said in record { said = rw (exact_reads a.image.now a.self.byte_pos a.self.end (length a.buf.now), ← s) c.all_of.ensures; stands = ap (told a.self) s ∙ sym (exact_stands a.image.now a.self (length a.buf.now)); lent = r.lent }

pub returns-in-Err : goal.returns-in-Err
unfolding on3 told
returns-in-Err c =
    let r = c.read.ensures in
    let a = c.args in
    let s = ap said_reading (sym c.in-Err.is) ∙ r.said in record { said = rw (exact_reads a.image.now a.self.byte_pos a.self.end (length a.buf.now), ← s); stands = ap (told a.self) s ∙ sym (exact_stands a.image.now a.self (length a.buf.now)); lent = r.lent }
