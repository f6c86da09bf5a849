-- `eeprom::word_from` takes two bytes of one chunk, which every width has.
use Rattle.eeprom.proofs.Chunks.{word_read}
use Rattle.eeprom.proofs.word_from.Goals as goal

pub returns : goal.returns
returns c =
    let b = c in
    let a = b.args in
    word_read a.image.now _ a.chunk a.start_word a.odd _ b.requires c.read_chunk-bytes.ensures c.word_at.ensures
