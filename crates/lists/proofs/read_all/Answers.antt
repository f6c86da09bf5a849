-- `read_all` fills place after place: the records so far and what the rest lists are the whole list.
use lib.ListN.{length}
use mathlib.Core.Path.{◌≡◌, refl, ap, ◌∙◌}
use native.Mathlib.Omega.{arith}
use Rattle.std.specs.Prelude.{Ok}
use Rattle.std.proofs.lemmas.List.{set-get_or}
use Rattle.std.proofs.lemmas.Result.{err_from_is_err_and}
use Rattle.lists.proofs.Laws.{going_start, read_err, read_none, read_full, read_one}
use Rattle.lists.proofs.read_all.Goals as goal

pub loop-count-init : goal.loop-count-init
loop-count-init g c = (refl, going_start _ _ _)

pub returns-in_err-record : goal.returns-in_err-record
returns-in_err-record g c =
    let p = err_from_is_err_and c.from_residual.result c.from_residual.ensures.1 in
    let l = c.loop-count in
    let r = rw l.invariant.0 at c.read.ensures in
    let e = read_err _ _ _ _ _ _ _ l.invariant.1 _ r _ c.in_err-record.was in
    record { said = rw (p.1, p.2) e.0; lent = rw set-get_or e.1 }

pub returns-in_default : goal.returns-in_default
returns-in_default g c =
    let l = c.loop-count in
    let r = rw l.invariant.0 at c.read.ensures in
    let w = rw c.in_default.is at c.in_ok-record.was in
    let e = read_none _ _ _ _ _ _ _ l.invariant.1 _ r w in
    record { said = e.0; lent = rw set-get_or e.1 }

pub loop-count-preserved : goal.loop-count-preserved
loop-count-preserved g c =
    let l = c.loop-count in
    let r = rw l.invariant.0 at c.read.ensures in
    read_one _ _ _ _ _ _ _ l.invariant.1 _ r _ _ (c.in_ok-record.was ∙ ap Ok c.in-Some.is) (omega arith)

pub returns-in_err-read : goal.returns-in_err-read
returns-in_err-read g c =
    let p = err_from_is_err_and c.from_residual-in_err-read.result c.from_residual-in_err-read.ensures.1 in
    let l = c.loop-count in
    let r = rw l.invariant.0 at c.read-2.ensures in
    let e = read_err _ _ _ _ _ _ _ l.invariant.1 _ r _ c.in_err-read.was in
    record { said = rw (p.1, p.2) e.0; lent = e.1 }

pub returns-in-Some-2 : goal.returns-in-Some-2
returns-in-Some-2 g c =
    let l = c.loop-count in
    let r = rw l.invariant.0 at c.read-2.ensures in
    let w = rw c.in-Some-2.is at c.in_ok-read.was in
    let e = read_full _ _ _ _ _ _ _ l.invariant.1 _ r _ w (omega arith) in
    record { said = e.0; lent = e.1 }

pub returns-in-None : goal.returns-in-None
returns-in-None g c =
    let l = c.loop-count in
    let r = rw l.invariant.0 at c.read-2.ensures in
    let w = rw c.in-None.is at c.in_ok-read.was in
    let n : length l.places ≡ l.count = omega arith in
    let e = read_none _ _ _ _ _ _ _ l.invariant.1 _ r w in
    record { said = rw n e.0; lent = e.1 }
