-- `lines::all_hex` tests each byte.
use mathlib.Core.Path.{◌∙◌}
use borrow.Author.Rules.{rules}
use borrow.Author.Tests.{tests}
use Rattle.std.specs.Prelude.{is_some}
use Rattle.std.proofs.lemmas.Iterator.{YieldsList-from_slice}
use Rattle.std.proofs.lemmas.Iterator.Search.{all_from_yields_List}
use Rattle.lines.specs.Numbers.{below}
use Rattle.lines.specs.Pairs.{nibble_of}
use Rattle.lines.proofs.Laws.{hex_each}
use Rattle.lines.proofs.all_hex.Goals as goal

pub returns : goal.returns
returns c =
    all_from_yields_List
    (λ b. is_some (below 16 (nibble_of b)))
    _
    _
    c.all.result
    c.all.ensures.ran
    (YieldsList-from_slice c.args.word.now cc)
    (λ x b q k. search (rules, tests))
    ∙ hex_each c.args.word.now
