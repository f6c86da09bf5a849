-- `read_all` fills place after place: the records so far and what the rest lists are the whole list.
use mathlib.Core.Path.{◌≡◌}
use Rattle.lists.proofs.Laws.{Going}
use Rattle.lists.proofs.read_all.Given as goal

abbrev pub invariant-loop-count : goal.invariant-loop-count
invariant-loop-count g l =
    (l.rest.end ≡ l.fn.list.end)
    × Going (g.R.Record.item_at l.image l.fn.list.end) l.initial.places l.fn.list.byte_pos l.places l.count l.rest.byte_pos
