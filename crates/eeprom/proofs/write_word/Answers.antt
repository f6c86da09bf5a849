-- `eeprom::write_word` lays two bytes, which have room.
use mathlib.Core.Path.{◌∙◌}
use Rattle.wire.proofs.Laws.{laid-whole}
use Rattle.eeprom.proofs.write_word.Goals as goal

pub returns : goal.returns
returns c =
    let b = c in
    c.lay.ensures ∙ laid-whole b.args.image.now _ _ b.requires
