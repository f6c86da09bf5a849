-- `distributed_clocks` gives what was read into blank places.
use Rattle.lists.proofs.Laws.{listed, unlisted}
use Rattle.clock.specs.Clocks.{clocks_of}
use Rattle.clock.proofs.Blank.{clock_blank}
use Rattle.clock.proofs.distributed_clocks.Goals as goal

pub returns-in_err-count : goal.returns-in_err-count
unfolding clocks_of
returns-in_err-count c = unlisted _ _ _ _ _ _ _ c.in_err-count.ensures.said c.from_residual.ensures.1

pub returns : goal.returns
unfolding clocks_of
returns c = listed _ _ _ _ _ _ _ c.in_ok-count.ensures.said c.in_ok-count.ensures.laid (clock_blank _ c.default-blank.ensures)
