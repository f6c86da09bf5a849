-- `lines::pairs` lays pair behind pair: what the rest will make, from the place reached, is what the whole makes.
use native.Mathlib.Omega.{arith}
use mathlib.Core.Path.{sym, ap, ◌∙◌}
use lib.ListN.{length}
use Rattle.wire.specs.Bytes.{laid}
use Rattle.wire.proofs.Laws.{length-laid, laid_none}
use Rattle.lines.specs.Places.{after}
use Rattle.lines.proofs.Laws.{after_none, pairs_out, pairs_place, pairs_laid}
use Rattle.lines.proofs.pairs.Goals as goal

pub loop-b-preserved : goal.loop-b-preserved
loop-b-preserved c =
    let a = c.args in
    let l = c.loop-b in
    let e = c.pair-p.ensures in (
      ap length e.out_after ∙ length-laid _ _ _ ∙ l.invariant.0,
      pairs_place (length a.out.now) l.p _ a.bytes.now l.b-index (omega arith) (e.value ∙ ap (λ n. after n l.p 2) l.invariant.0) ∙ l.invariant.1,
      pairs_laid l.out _ l.p _ a.bytes.now l.b-index (omega arith) e.value e.out_after ∙ l.invariant.2,
    )

pub returns : goal.returns
returns c =
    let a = c.args in
    let l = c.loop-b in
    let e = pairs_out a.bytes.now l.b-index (omega arith) in record {
      value = sym (after_none (length a.out.now) l.p) ∙ ap (λ s. after (length a.out.now) l.p (length s)) (sym e) ∙ l.invariant.1;
      out_after = sym (laid_none l.out l.p) ∙ ap (laid l.out l.p) (sym e) ∙ l.invariant.2;
    }
