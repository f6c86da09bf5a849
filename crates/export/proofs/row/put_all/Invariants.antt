-- `put_all`: after i turns the row holds the numbers of the first i.
use Rattle.std.proofs.Common.{◌≡◌, ◌+◌, ◌*◌, take}
use mathlib.Core.List.{flat_map}
use Rattle.wire.specs.Bytes.{laid}
use Rattle.export.proofs.row.put_all.Given as goal

abbrev pub invariant-loop-x : goal.invariant-loop-x
invariant-loop-x g l = (l.row ≡ laid l.initial.row l.at (flat_map g.T.Told.values (take l.x-index l.xs))) × (l.place ≡ l.at + g.row.N * l.x-index)
