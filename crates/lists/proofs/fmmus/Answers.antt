-- `fmmus` gives what was read into blank places, of the category's first 16 bytes.
use mathlib.Core.Path.{refl, ◌∙◌, ap}
use Rattle.std.specs.Prelude.{Err}
use Rattle.refusal.specs.Said.{number_value}
use Rattle.lists.specs.Fmmus.{usages_of, fmmu_most}
use Rattle.lists.specs.Records.{back}
use Rattle.lists.proofs.Laws.{listed, unlisted, unsought_said}
use Rattle.lists.proofs.Usages.{usages-cut}
use Rattle.lists.proofs.fmmus.Goals as goal

pub returns-in_err-category : goal.returns-in_err-category
unfolding usages_of
returns-in_err-category c =
    unlisted _ _ _ _ _ _ _ (unsought_said number_value _ _ (Err c.in_err-category.field-0.0) _ c.in_err-category.ensures refl) c.from_residual.ensures.1

pub returns-in_err-count : goal.returns-in_err-count
unfolding usages_of
returns-in_err-count c =
    let u = rw c.in_ok-category.ensures at (usages-cut c.args.image.now _ _ c.map-found.ensures.cases) in
    unlisted _ _ _ _ _ _ _ c.in_err-count.ensures.said c.from_residual-in_err-count.ensures.1 ∙ ap (back 0 fmmu_most) u

pub returns : goal.returns
unfolding usages_of
returns c =
    let u = rw c.in_ok-category.ensures at (usages-cut c.args.image.now _ _ c.map-found.ensures.cases) in
    listed _ _ _ _ _ _ _ c.in_ok-count.ensures.said c.read_found.ensures.lent refl ∙ ap (back 0 fmmu_most) u
