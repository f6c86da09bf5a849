-- What a search's answers mean, without a search: the headers that it comes to, and what stands at the last of them. Definitions only.
use Rattle.std.specs.Prelude.{ℕ, ◌+◌, ◌*◌, ◌≤◌, ◌<◌, ◌≡◌, List}
use Rattle.eeprom.specs.Image.{image_most}
use Rattle.category.specs.Layout.{first_header, header_words, type_at, length_at, end_mark, word_most}
use Rattle.category.specs.Category.{empty_most, counted}

-- the header at word w, before which there are e empty ones, is passed over: it is of another number and not the mark,
-- and the next stands at word w', where its body ends, with e' empty ones before it
pub record Passes (image : List ℕ) (number w e w' e' : ℕ) : Type 0 where
  pub other : type_at image w ≡ number → ⊥
  pub unmarked : type_at image w ≡ end_mark → ⊥
  pub there : w' ≡ w + header_words + length_at image w
  pub inside : w' ≤ word_most
  pub count : e' ≡ counted (length_at image w) e
  pub few : e' < empty_most

-- a search comes to the header at word w, before which there are e empty ones: the first stands at word 0x0040, and each other behind one that is passed over
pub data HeaderAt (image : List ℕ) (number : ℕ) : ℕ → ℕ → Type 0 where
  first : HeaderAt image number first_header 0
  behind : (w e w' e' : ℕ) → HeaderAt image number w e → Passes image number w e w' e' → HeaderAt image number w' e'

-- the header at word w can be followed: its body begins within the last word, and it is not the 32nd empty one
pub record Followed (image : List ℕ) (w e : ℕ) : Type 0 where
  pub inside : w + header_words ≤ word_most
  pub few : counted (length_at image w) e < empty_most

-- from byte pos to byte end stands the first category of this number
pub record FirstOf (image : List ℕ) (number pos end : ℕ) : Type 0 where
  pub word : ℕ
  pub before : ℕ
  pub header : HeaderAt image number word before
  pub followed : Followed image word before
  pub named : type_at image word ≡ number
  pub starts : pos ≡ 2 * (word + header_words)
  pub ends : end ≡ pos + 2 * length_at image word
  pub bounded : end ≤ image_most

-- why no category stands behind the header at word w, before which there are e empty ones
pub data NoFurther (image : List ℕ) (w e : ℕ) : Type 0 where
  past : word_most < w + header_words → NoFurther image w e
  empty : empty_most ≤ counted (length_at image w) e → NoFurther image w e
  mark : type_at image w ≡ end_mark → NoFurther image w e

-- there is no category of this number: the headers, each of another, end at the mark, at the 32nd empty one, or at the last word
pub record NoneOf (image : List ℕ) (number : ℕ) : Type 0 where
  pub word : ℕ
  pub before : ℕ
  pub header : HeaderAt image number word before
  pub why : NoFurther image word before

-- why the header at word w leads past: of another number, its length leads past the last word; of this number, its body would end above a range's limit
pub data TooFar (image : List ℕ) (number w : ℕ) : Type 0 where
  over : (type_at image w ≡ number → ⊥) → (type_at image w ≡ end_mark → ⊥) → word_most < w + header_words + length_at image w → TooFar image number w
  above : type_at image w ≡ number → image_most < 2 * (w + header_words) + 2 * length_at image w → TooFar image number w

-- a length leads past the last word, or the range of the category found would end above its limit
pub record LeadsPast (image : List ℕ) (number : ℕ) : Type 0 where
  pub word : ℕ
  pub before : ℕ
  pub header : HeaderAt image number word before
  pub followed : Followed image word before
  pub why : TooFar image number word
