-- `read_records` hands on a refusal of the search.
use Rattle.lists.proofs.Laws.{unsought}
use Rattle.lists.proofs.read_records.Goals as goal

pub returns-in_err-found : goal.returns-in_err-found
returns-in_err-found g c =
    let u = unsought _ _ _ _ _ _ c.in_err-found.ensures c.from_residual.ensures.1 in
    record { said = u.0; lent = u.1 }
