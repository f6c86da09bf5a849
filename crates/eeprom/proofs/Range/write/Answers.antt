-- `Range::write` tests its arguments and calls `write_words`.
use Rattle.eeprom.specs.Range.{write_said, write_pos, write_image}
use Rattle.eeprom.proofs.Laws.{bounds_of, fine-bounds}
use Rattle.eeprom.proofs.Range.write.Goals as goal

pub write_words-requires : goal.write_words-requires
write_words-requires c =
    let a = c.args in
    (bounds_of _ _ (fine-bounds a.image.now a.self.byte_pos a.self.end c.in-Ok.ensures)).ends

pub returns-in-Ok-clause-said : goal.returns-in-Ok-clause-said
unfolding write_said
returns-in-Ok-clause-said c = rw (c.in-Ok.ensures) c.write_words.ensures.said

pub returns-in-Ok-clause-stands : goal.returns-in-Ok-clause-stands
unfolding write_pos
returns-in-Ok-clause-stands c = rw (c.in-Ok.ensures) c.write_words.ensures.stands

pub returns-in-Ok-clause-lent : goal.returns-in-Ok-clause-lent
unfolding write_image
returns-in-Ok-clause-lent c = rw (c.in-Ok.ensures) c.write_words.ensures.lent
