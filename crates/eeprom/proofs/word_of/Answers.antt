-- `eeprom::word_of` is `word_from` at the word that contains i.
use mathlib.Core.Path.{ap, ◌∙◌}
use Rattle.wire.specs.Bytes.{le16}
use Rattle.eeprom.proofs.Chunks.{halves}
use Rattle.eeprom.proofs.word_of.Goals as goal

pub returns : goal.returns
returns c =
    let a = c.args in
    c.word_from.ensures ∙ ap (le16 a.image.now) (halves a.i)
