-- `lines::word_length` is the place of the first space, or the whole length.
use mathlib.Core.Path.{◌∙◌}
use borrow.Author.Rules.{rules}
use borrow.Author.Tests.{tests}
use lib.Dec.{eqb}
use Rattle.std.proofs.lemmas.Iterator.{YieldsList-from_slice}
use Rattle.std.proofs.lemmas.Iterator.Search.{position_from_yields_List}
use Rattle.lines.specs.Words.{space}
use Rattle.lines.proofs.Laws.{word_found}
use Rattle.lines.proofs.word_length.Goals as goal

pub returns : goal.returns
returns c =
    c.unwrap_or.ensures
    ∙ word_found _ _ (position_from_yields_List
    (λ b. eqb b space)
    _
    _
    c.position.result
    c.position.ensures.ran
    (YieldsList-from_slice c.args.line.now cc)
    (λ x b q k. search (rules, tests)))
