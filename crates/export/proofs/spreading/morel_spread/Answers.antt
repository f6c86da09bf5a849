-- `morel_spread` tells what `spread` answers, and leaves what it leaves.
use mathlib.Core.Path.{ap, ◌∙◌}
use Rattle.refusal.specs.Said.{number_value}
use Rattle.export.specs.Told.{code_of}
use Rattle.export.proofs.States.{answered, listed-most, run_row}
use Rattle.export.proofs.spreading.morel_spread.Goals as goal

pub put_run-requires : goal.put_run-requires
put_run-requires c =
    let s = c.spread-r.ensures in
    let k = answered _ _ _ _ _ _ _ _ _ c.last_of.ensures s.0 in
    (k.1, listed-most _ _ _ k.0 s.1.0.0)

pub returns : goal.returns
returns c =
    let s = c.spread-r.ensures in
    let k = answered _ _ _ _ _ _ _ _ _ c.last_of.ensures s.0 in
    record {
      code = c.code_of.ensures number_value ∙ ap code_of s.0;
      bytes = s.1.1;
      lent = run_row _ _ _ _ _ _ k.0 s.1.0 c.put_run.ensures;
    }
