-- `eeprom::read_chunk` fills as many of eight zeros as the chunk has bytes.
use Rattle.std.proofs.lemmas.List.{length-take-le}
use Rattle.wire.specs.Bytes.{filled}
use Rattle.eeprom.specs.Image.{chunk_of}
use Rattle.eeprom.proofs.Chunks.{width-most}
use Rattle.eeprom.proofs.read_chunk.Goals as goal

pub returns : goal.returns
unfolding chunk_of filled
returns c =
    let w = width-most c.args.chunk in
    rw (c.copy_out.ensures, c.width.ensures, length-take-le _ _ w)
