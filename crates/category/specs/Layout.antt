-- Where the categories of the SII stand (ETG2010 Table 2, ETG1000.6 Table 16), in words of 16 bits, low byte first. Definitions only.
use Rattle.std.specs.Prelude.{ℕ, ◌+◌, ◌*◌, List}
use Rattle.wire.specs.Bytes.{le16}

-- the first category's header stands at word 0x0040
abbrev pub first_header : ℕ
first_header = 64

-- a header has two words, the type and the length of its body in words; the body stands behind it
abbrev pub header_words : ℕ
header_words = 2

abbrev pub length_word : ℕ
length_word = 1

abbrev pub type_at : List ℕ → ℕ → ℕ
type_at image w = le16 image (2 * w)

abbrev pub length_at : List ℕ → ℕ → ℕ
length_at image w = le16 image (2 * (w + length_word))

-- the type that stands behind the last category
abbrev pub end_mark : ℕ
end_mark = 65535

-- .. and how many words of it are needed: an image may end with the type
abbrev pub mark_words : ℕ
mark_words = 1

-- the largest word number
abbrev pub word_most : ℕ
word_most = 65535
