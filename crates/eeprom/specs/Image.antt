-- The lent image and its chunks: RULES, range. Definitions only.
use Rattle.std.specs.Prelude.{ℕ, ◌*◌, ◌%◌, List, Bool, ◌&&◌, length, replicate, leb, eqb}
use Rattle.wire.specs.Bytes.{filled}
use Rattle.eeprom.specs.declared.Chunk.{Chunk}
use Rattle.eeprom.specs.declared.Chunk.TheVariants as chunk

-- the most bytes that an image has: no position and no end of a range lies beyond them
abbrev pub image_most : ℕ
image_most = 131072

-- the largest number of 32 bits: places and counts of the readers behind the public calls stay within it
abbrev pub long_most : ℕ
long_most = 4294967295

-- far past every place that 32 bits name: within it a sum of places does not overflow
abbrev pub far_most : ℕ
far_most = 1099511627776

-- the image has no more bytes than an image may have
unfoldable pub within : List ℕ → Bool
within image = leb (length image) image_most

-- a range's position and its even end are within that too
unfoldable pub in_bounds : ℕ → ℕ → Bool
in_bounds pos end = leb pos image_most && eqb (end % 2) 0 && leb end image_most

-- the image and the range: the bounds of every call on both
unfoldable pub fine : List ℕ → ℕ → ℕ → Bool
fine image pos end = within image && in_bounds pos end

-- how many bytes a chunk has
abbrev pub width_of : Chunk → ℕ
width_of chunk.Four = 4
width_of chunk.Eight = 8

-- a chunk of n bytes from word w on, at the front of eight zeros
unfoldable pub chunk_of : List ℕ → ℕ → ℕ → List ℕ
chunk_of image w n = filled image (2 * w) n (replicate 8 0)
