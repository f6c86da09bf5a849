-- `fmmu_mappings` gives what was read into blank places.
use mathlib.Core.Path.{refl}
use Rattle.lists.specs.Fmmus.{ex_of}
use Rattle.lists.proofs.Laws.{listed, unlisted}
use Rattle.lists.proofs.fmmu_mappings.Goals as goal

pub returns-in_err-count : goal.returns-in_err-count
unfolding ex_of
returns-in_err-count c = unlisted _ _ _ _ _ _ _ c.in_err-count.ensures.said c.from_residual.ensures.1

pub returns : goal.returns
unfolding ex_of
returns c = listed _ _ _ _ _ _ _ c.in_ok-count.ensures.said c.in_ok-count.ensures.laid refl
