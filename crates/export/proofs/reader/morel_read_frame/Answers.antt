-- `morel_read_frame` lays the count, then the PDUs behind it; a refused frame has none.
use mathlib.Core.Path.{ap, ◌∙◌}
use Rattle.export.specs.Told.{pdus_over}
use Rattle.export.proofs.Pdus.{pdus-most, read-pdus, read-none}
use Rattle.export.proofs.reader.morel_read_frame.Goals as goal

pub shared_ref_as_front-put_pdus : goal.shared_ref_as_front-put_pdus
shared_ref_as_front-put_pdus c = rw c.in-Ok.ensures.count (pdus-most _)

pub put_pdus-requires : goal.put_pdus-requires
put_pdus-requires c = rw (read-pdus _ _ _ c.in-Ok.ensures.count c.in-Ok.ensures.pdus) (pdus-most _)

pub returns-in-Ok-clause-lent : goal.returns-in-Ok-clause-lent
returns-in-Ok-clause-lent c = c.put_pdus.ensures ∙ ap (pdus_over c.args.out.now) (read-pdus _ _ _ c.in-Ok.ensures.count c.in-Ok.ensures.pdus)

pub returns-in-Err-clause-lent : goal.returns-in-Err-clause-lent
returns-in-Err-clause-lent c = c.put_pdus-in-Err.ensures ∙ ap (pdus_over c.args.out.now) (read-none _ c.in-Err.ensures.count)
