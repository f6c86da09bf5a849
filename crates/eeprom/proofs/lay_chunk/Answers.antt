-- `eeprom::lay_chunk` lays a part of a chunk, which is the image's.
use Rattle.eeprom.proofs.Chunks.{chunk_laid}
use Rattle.eeprom.proofs.lay_chunk.Goals as goal

-- ? slice-bounds-lay-end
-- ? c = let w = width-most c.args.chunk in
-- ?     search rules

pub returns : goal.returns
returns c =
    let b = c in
    let a = b.args in
    chunk_laid a.image.now _ a.buf.now _ a.chunk a.pos a.m a.at c.read_chunk-bytes.ensures b.requires.0 b.requires.1 c.lay.ensures
