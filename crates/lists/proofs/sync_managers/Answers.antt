-- `sync_managers` gives what was read into blank places.
use Rattle.lists.specs.SyncManagers.{sms_of}
use Rattle.lists.proofs.Laws.{listed, unlisted}
use Rattle.lists.proofs.Blank.{sm_blank}
use Rattle.lists.proofs.sync_managers.Goals as goal

pub returns-in_err-count : goal.returns-in_err-count
unfolding sms_of
returns-in_err-count c = unlisted _ _ _ _ _ _ _ c.in_err-count.ensures.said c.from_residual.ensures.1

pub returns : goal.returns
unfolding sms_of
returns c = listed _ _ _ _ _ _ _ c.in_ok-count.ensures.said c.in_ok-count.ensures.laid (sm_blank _ c.default-blank.ensures)
