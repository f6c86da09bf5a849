-- `eeprom::byte_of` reads the chunk of the word that contains the byte, and takes the word's first or second byte.
use Rattle.eeprom.proofs.Chunks.{byte-read}
use Rattle.eeprom.proofs.byte_of.Goals as goal

pub returns : goal.returns
returns c =
    let a = c.args in
    byte-read a.image.now _ a.chunk a.i _ c.read_chunk-bytes.ensures c.byte_at.ensures
