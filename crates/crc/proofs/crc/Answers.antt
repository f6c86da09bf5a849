-- `crc::crc` lends its table. The table's rule is shown here, once: the definition's table is computed, and is the constant of the code at all 256 entries.
use mathlib.Core.Path.{refl}
use Rattle.crc.specs.Steps.{shifted, shifted_by, entries_from}
use Rattle.crc.proofs.crc.Goals as goal

pub by_table-requires : goal.by_table-requires
unfolding shifted shifted_by entries_from
by_table-requires c = refl
