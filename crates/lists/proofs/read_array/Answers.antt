-- `read_array` hands on a refusal of the search.
use Rattle.lists.proofs.Laws.{unsought_said}
use Rattle.lists.proofs.read_array.Goals as goal

pub returns-in_err-found-clause-said : goal.returns-in_err-found-clause-said
returns-in_err-found-clause-said g c = unsought_said _ _ _ _ _ c.in_err-found.ensures c.from_residual.ensures.1
