-- A byte of a chunk, and a stretch of its bytes, is the image's, whatever the chunk's width: by the laws of spans.
use Prim.Native.Nat.{ℕ, ◌+◌, ◌-◌, ◌*◌, ◌/◌, ◌%◌, ◌≤◌, ◌<◌}
use native.Mathlib.Omega.{arith}
use mathlib.Core.Path.{◌≡◌, ap, ◌∙◌}
use mathlib.Core.List.{List, ◌++◌, append_assoc, append-nil}
use lib.ListN.{length, take, drop, drop_of_length-le, replicate}
use lib.Seq.{take_at, drop_at}
use Rattle.wire.specs.Bytes.{byte_at, le16, le32, span, filled, overlay, laid}
use Rattle.wire.proofs.Laws.{length-span, span-add, laid-whole}
use Rattle.wire.proofs.Stretch.{byte-span}
use Rattle.eeprom.specs.Image.{chunk_of, width_of}
use Rattle.eeprom.specs.declared.Chunk.{Chunk}
use Rattle.eeprom.specs.declared.Chunk.TheVariants as chunk

-- a buffer that is filled to its end
pub filled_all : (s : List ℕ) (i n : ℕ) (buf : List ℕ) → length buf ≤ n → filled s i n buf ≡ span s i n
unfolding filled
filled_all s i n buf h = rw (drop_of_length-le buf h, append-nil)

-- a byte of a chunk is the image's
chunk_byte : (image : List ℕ) (w n k : ℕ) → k < n → byte_at (chunk_of image w n) k ≡ byte_at image (2 * w + k)
unfolding chunk_of filled
chunk_byte image w n k h = byte-span image (2 * w) n k (drop n (replicate 8 0)) h

-- so are m bytes of it
chunk_part : (image : List ℕ) (w n k m : ℕ) → k + m ≤ n → take m (drop k (chunk_of image w n)) ≡ span image (2 * w + k) m
unfolding chunk_of filled
chunk_part image w n k m h = go (n - (k + m)) (omega arith)
  where
    go : (j : ℕ) → n ≡ k + (m + j) → take m (drop k (span image (2 * w) n ++ drop n (replicate 8 0))) ≡ span image (2 * w + k) m
    go j e =
        rw (
          e,
          span-add image (2 * w) k (m + j),
          span-add image (2 * w + k) m j,
          append_assoc (span image (2 * w) k),
          drop_at (span image (2 * w) k) _ k (length-span image (2 * w) k),
          append_assoc (span image (2 * w + k) m),
          take_at (span image (2 * w + k) m) _ m (length-span image (2 * w + k) m),
        )

-- each width has the two bytes of a word and one more
pub width-least : (c : Chunk) → 4 ≤ width_of c
width-least chunk.Four = omega arith
width-least chunk.Eight = omega arith

pub width-most : (c : Chunk) → width_of c ≤ 8
width-most chunk.Four = omega arith
width-most chunk.Eight = omega arith

-- a place, from its word and whether it is the word's second byte
pub halves : (i : ℕ) → 2 * (i / 2) + i % 2 ≡ i
halves i = omega arith

-- a byte and a word read from a chunk, whatever its width, and a number of 32 bits from two words
pub byte-read : (image bytes : List ℕ) (c : Chunk) (i r : ℕ) → bytes ≡ chunk_of image (i / 2) (width_of c) → r ≡ byte_at bytes (i % 2) → r ≡ byte_at image i
byte-read image bytes c i r e q =
    let k : i % 2 < width_of c = omega (arith, width-least c) in
    q ∙ ap (λ (l : List ℕ). byte_at l (i % 2)) e ∙ chunk_byte image (i / 2) (width_of c) (i % 2) k ∙ ap (byte_at image) (halves i)

pub word_read : (image bytes : List ℕ) (c : Chunk) (w odd r : ℕ) → odd < 2 → bytes ≡ chunk_of image w (width_of c) → r ≡ le16 bytes odd → r ≡ le16 image (2 * w + odd)
word_read image bytes c w odd r h e q =
    let k : odd < width_of c = omega (arith, width-least c) in
    let m : odd + 1 < width_of c = omega (arith, width-least c) in
    let s : 2 * w + (odd + 1) ≡ 2 * w + odd + 1 = omega arith in
    rw (q, e, chunk_byte image w (width_of c) odd k, chunk_byte image w (width_of c) (odd + 1) m, s)

pub long-read : (image : List ℕ) (i low high : ℕ) → low ≡ le16 image (2 * (i / 2) + i % 2) → high ≡ le16 image (2 * (i / 2 + 1) + i % 2)
    → low + 65536 * high ≡ le32 image i
long-read image i low high p q =
    let e : 2 * (i / 2) + i % 2 ≡ i = halves i in
    let f : 2 * (i / 2 + 1) + i % 2 ≡ i + 2 = omega arith in
    rw (p, q, e, f)

-- m bytes of a chunk, laid
pub chunk_laid : (image bytes buf out : List ℕ) (c : Chunk) (pos m at : ℕ) → bytes ≡ chunk_of image (pos / 2) (width_of c) → pos % 2 + m ≤ width_of c
    → at + m ≤ length buf → out ≡ laid buf at (take (pos % 2 + m - pos % 2) (drop (pos % 2) bytes)) → out ≡ overlay buf at (span image pos m)
chunk_laid image bytes buf out c pos m at e h k q =
    let n : pos % 2 + m - pos % 2 ≡ m = omega arith in
    let part : take m (drop (pos % 2) (chunk_of image (pos / 2) (width_of c))) ≡ span image pos m =
    chunk_part image (pos / 2) (width_of c) (pos % 2) m h ∙ ap (λ (i : ℕ). span image i m) (halves pos) in
    let fits : at + length (span image pos m) ≤ length buf = rw (length-span image pos m) k in
    rw (q, n, e, part, laid-whole buf at (span image pos m) fits)
