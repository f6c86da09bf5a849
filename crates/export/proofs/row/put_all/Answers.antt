-- `put_all` lays one after the other: each is laid behind those before it.
use Rattle.std.proofs.Common.{rules}
use mathlib.Core.Path.{sym, ap}
use native.Mathlib.Numerals.{add-one, unary_clauses}
use native.Mathlib.Omega.{arith}
use mathlib.Core.List.{flat_map}
use Rattle.wire.proofs.Laws.{laid_none}
use Rattle.export.proofs.Flat.{flat_next}
use Rattle.export.proofs.row.put_all.Goals as goal

pub loop-x-init : goal.loop-x-init
unfolding flat_map
loop-x-init g c = (sym (laid_none c.args.row.now c.args.at), search rules)

pub loop-x-preserved : goal.loop-x-preserved
loop-x-preserved g c =
    let l = c.loop-x in
    (flat_next g.T.Told.values g.row.N c.requires.wide c.args.row.now _ _ _ c.args.at l.place c.args.xs.now l.x-index c.x-item.result c.loop-x-test.true l.invariant.1 l.invariant.0 (ap g.T.Told.values c.x-item.is) c.put.ensures, rw (add-one l.x-index) (simp unary_clauses (omega (arith, l.invariant.1))))
