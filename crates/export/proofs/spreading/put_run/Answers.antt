-- `put_run` lays the states behind the two numbers.
use mathlib.Core.Path.{refl}
use Rattle.export.proofs.States.{pair_behind}
use Rattle.export.proofs.spreading.put_run.Goals as goal

pub returns : goal.returns
returns c = pair_behind _ _ _ _ _ _ _ _ c.from.ensures refl c.lay.ensures c.put_all.ensures
