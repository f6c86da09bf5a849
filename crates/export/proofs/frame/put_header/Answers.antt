-- `put_header` lays the two bytes where there are some.
use Rattle.export.specs.Told.{bytes_over}
use Rattle.export.proofs.frame.put_header.Goals as goal

pub returns-in-Ok-clause-lent : goal.returns-in-Ok-clause-lent
unfolding bytes_over
returns-in-Ok-clause-lent c =
    rw (← c.frame_header.ensures.0, ← c.frame_header.ensures.1, c.in-Ok.is) c.lay.ensures

pub returns-in-Err-clause-lent : goal.returns-in-Err-clause-lent
unfolding bytes_over
returns-in-Err-clause-lent c = rw (← c.frame_header.ensures.0, c.in-Err.is)
