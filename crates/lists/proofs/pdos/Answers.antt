-- `pdos` gives what was read into blank places.
use Rattle.lists.specs.Pdos.{pdos_of}
use Rattle.lists.proofs.Laws.{listed, unlisted}
use Rattle.lists.proofs.Blank.{pdo_blank}
use Rattle.lists.proofs.pdos.Goals as goal

pub returns-in_err-count : goal.returns-in_err-count
unfolding pdos_of
returns-in_err-count c = unlisted _ _ _ _ _ _ _ c.in_err-count.ensures.said c.from_residual.ensures.1

pub returns : goal.returns
unfolding pdos_of
returns c = listed _ _ _ _ _ _ _ c.in_ok-count.ensures.said c.in_ok-count.ensures.laid (pdo_blank _ c.default-blank.ensures)
