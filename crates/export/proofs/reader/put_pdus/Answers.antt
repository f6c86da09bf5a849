-- `put_pdus` lays the count, then the PDUs behind it.
use mathlib.Core.Path.{◌∙◌}
use Rattle.export.specs.Told.{pdus_over}
use Rattle.export.proofs.Flat.{laid_on}
use Rattle.export.proofs.reader.put_pdus.Goals as goal

pub returns : goal.returns
unfolding pdus_over
returns c = c.put_all.ensures ∙ rw c.lay.ensures (laid_on c.args.out.now 0 _ _)
