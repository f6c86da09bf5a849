-- The rules of a range: RULES, range and refusals. Definitions only, in plain numbers.
-- A range is its position and its end, both counted in bytes from the image's start.
use Rattle.std.specs.Prelude.{ℕ, ◌+◌, ◌-◌, ◌*◌, ◌/◌, ◌%◌, min, max, List, [], ◌∷◌, ◌++◌, length, take, replicate, leb, ltb}
use Rattle.refusal.specs.Said.{Said, gives, refuses, pick}
use Rattle.wire.specs.Bytes.{byte_at, filled, overlay}
use Rattle.eeprom.specs.Image.{image_most, in_bounds, fine}
use Rattle.eeprom.specs.declared.Range.{Range}

-- a range, at another position
abbrev pub standing : Range → ℕ → Range
standing g pos = record { byte_pos = pos; end = g.end }

-- ---- making a range

-- from word w for n words
unfoldable pub new_said : ℕ → ℕ → Said
new_said w n = pick (leb (2 * w + 2 * n) image_most) (gives ((2 * w) ∷ (2 * w + 2 * n) ∷ [])) (refuses 1 [])

-- from word w for a length in bytes, an odd byte dropped
unfoldable pub start_said : ℕ → ℕ → Said
start_said w bytes = new_said w (bytes / 2)

-- ---- moving on

-- a skip must land before the end
unfoldable pub skip_in : ℕ → ℕ → ℕ → Said
skip_in pos end skip = pick (ltb (pos + skip) end) (gives ((pos + skip) ∷ end ∷ [])) (refuses 2 [])

-- what a skip says
unfoldable pub skip_said : ℕ → ℕ → ℕ → Said
skip_said pos end skip = pick (in_bounds pos end) (skip_in pos end skip) (refuses 14 [])

-- ---- reading a byte

-- the byte at the position, which must lie before the end, and below the largest position
unfoldable pub byte_in : List ℕ → ℕ → ℕ → Said
byte_in image pos end =
    pick (ltb pos end) (pick (ltb pos image_most) (gives (byte_at image pos ∷ (pos + 1) ∷ end ∷ [])) (refuses 1 [])) (refuses 2 [])

-- what a byte read says
unfoldable pub byte_said : List ℕ → ℕ → ℕ → Said
byte_said image pos end = pick (fine image pos end) (byte_in image pos end) (refuses 14 [])

-- ---- reading into a lent buffer

-- how many bytes a read into k bytes takes
abbrev pub taken : ℕ → ℕ → ℕ → ℕ
taken pos end k = min k (end - pos)

-- what a read into k bytes says: how many it took, and the range after them
unfoldable pub read_said : List ℕ → ℕ → ℕ → ℕ → Said
read_said image pos end k =
    pick (fine image pos end) (gives (taken pos end k ∷ (pos + taken pos end k) ∷ end ∷ [])) (refuses 14 [])

-- what a read leaves in the buffer
unfoldable pub read_buf : List ℕ → ℕ → ℕ → List ℕ → List ℕ
read_buf image pos end buf = pick (fine image pos end) (filled image pos (taken pos end (length buf)) buf) buf

-- what an exact read of k bytes says where there are n: what does not fit is refused (RULES, refusals: 2)
abbrev pub all_said : ℕ → ℕ → Said
all_said n k = pick (ltb n k) (refuses 2 []) (gives [])

-- what an exact read of k bytes says (RULES, range): no byte always succeeds
unfoldable pub exact_said : List ℕ → ℕ → ℕ → ℕ → Said
exact_said image pos end k = pick (fine image pos end) (all_said (end - pos) k) (refuses 14 [])

-- where it stands after that: behind what it read; refused with 2 at the end, or where it was if that is past the end (RULES, refusals)
unfoldable pub exact_pos : List ℕ → ℕ → ℕ → ℕ → ℕ
exact_pos image pos end k = pick (fine image pos end) (pick (ltb (end - pos) k) (max pos end) (pos + k)) pos

-- the range after it
abbrev pub exact_range : List ℕ → Range → ℕ → Range
exact_range image g k = standing g (exact_pos image g.byte_pos g.end k)

-- it fills what there is, as a read does
abbrev pub exact_buf : List ℕ → ℕ → ℕ → List ℕ → List ℕ
exact_buf = read_buf

-- ---- writing: m words of the data, laid from the word that contains the position on (RULES, range)

-- how many words hold n bytes
abbrev pub words_for : ℕ → ℕ
words_for n = (n + 1) / 2

-- the first byte of the word that contains a position
abbrev pub word_start : ℕ → ℕ
word_start pos = 2 * (pos / 2)

-- the data as whole words: an odd last byte is padded with 0
unfoldable pub padded : List ℕ → List ℕ
padded bytes = bytes ++ replicate (length bytes % 2) 0

-- the words that range and data ask for: a word advances by 2, while the position is before the end and bytes remain of k
unfoldable pub words_asked : ℕ → ℕ → ℕ → ℕ
words_asked pos end k = min (words_for (end - pos)) (words_for k)

-- the words that lie wholly in an image of so many bytes, from the one that contains the position on
unfoldable pub words_in : ℕ → ℕ → ℕ
words_in size pos = size / 2 - pos / 2

-- the words that can be counted: each takes the position 2 further, and no position passes the limit
unfoldable pub words_counted : ℕ → ℕ
words_counted pos = (image_most - pos) / 2

-- the words that are written: m
unfoldable pub words_written : ℕ → ℕ → ℕ → ℕ → ℕ
words_written size pos end k = min (words_asked pos end k) (min (words_counted pos) (words_in size pos))

-- why no more than m words are written: the next position would pass the limit (RULES, refusals: 1), else the next word is not in the image (7)
unfoldable pub stopped : ℕ → ℕ → Said
stopped pos m = pick (leb (words_counted pos) m) (refuses 1 []) (refuses 7 [])

-- a write of k bytes says how many bytes it wrote, the padding counted; where m is less than the words asked for, it is refused
unfoldable pub write_in : ℕ → ℕ → ℕ → ℕ → Said
write_in size pos end k =
    pick (ltb (words_written size pos end k) (words_asked pos end k)) (stopped pos (words_written size pos end k)) (gives (2 * words_written size pos end k ∷ []))

-- what a write says
unfoldable pub write_said : List ℕ → ℕ → ℕ → List ℕ → Said
write_said image pos end bytes = pick (fine image pos end) (write_in (length image) pos end (length bytes)) (refuses 14 [])

-- where it stands after that: behind the words written
unfoldable pub write_pos : List ℕ → ℕ → ℕ → List ℕ → ℕ
write_pos image pos end bytes = pick (fine image pos end) (pos + 2 * words_written (length image) pos end (length bytes)) pos

-- the range after it
abbrev pub write_range : List ℕ → Range → List ℕ → Range
write_range image g bytes = standing g (write_pos image g.byte_pos g.end bytes)

-- the image with m words of the data laid over it, from the word that contains the position on
unfoldable pub words_laid : List ℕ → ℕ → ℕ → List ℕ → List ℕ
words_laid image pos m bytes = overlay image (word_start pos) (take (2 * m) (padded bytes))

-- what a write leaves in the image
unfoldable pub write_image : List ℕ → ℕ → ℕ → List ℕ → List ℕ
write_image image pos end bytes = pick (fine image pos end) (words_laid image pos (words_written (length image) pos end (length bytes)) bytes) image
