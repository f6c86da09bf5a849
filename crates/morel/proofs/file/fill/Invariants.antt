-- `morel::file::fill` ends, since the room that is left falls, and what came lies in the room.
use Rattle.std.proofs.Common.{◌≤◌, ◌-◌, length}
use Rattle.morel.proofs.file.fill.Given as goal

abbrev pub decreases-loop-n : goal.decreases-loop-n
decreases-loop-n g l = length l.room - l.n

abbrev pub invariant-loop-n : goal.invariant-loop-n
invariant-loop-n g l = l.n ≤ length l.room
