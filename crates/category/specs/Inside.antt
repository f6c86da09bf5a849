-- RULES, category: whether all that a search looks at lies in the image. A byte past the image's end reads as 0xFF, so that a mark read there is none.
-- Definitions only.
use Rattle.std.specs.Prelude.{ℕ, zero, suc, ◌+◌, ◌*◌, ◌≤◌, List, [], ◌∷◌, length, get_or, leb, eqb}
use Rattle.refusal.specs.Said.{Said, gives, absent, refuses, pick}
use Rattle.wire.specs.Bytes.{bit}
use Rattle.category.specs.Layout.{first_header, mark_words, header_words, type_at, end_mark, word_most}
use Rattle.category.specs.Category.{Stepped, done, next, stepped, category_said}
use Rattle.category.specs.First.{HeaderAt, FirstOf}

-- the byte where that ends which is looked at of the header at word w: of the mark its type, which an image may end with; else both words
unfoldable pub header_end : List ℕ → ℕ → ℕ
header_end image w = 2 * (w + pick (eqb (type_at image w) end_mark) mark_words header_words)

-- every byte that a search looks at lies in the image: the headers that it comes to, and the category that it finds
pub record Inside (image : List ℕ) (number : ℕ) : Type 0 where
  pub headers : (w e : ℕ) → HeaderAt image number w e → header_end image w ≤ length image
  pub body : (pos end : ℕ) → FirstOf image number pos end → end ≤ length image

-- ---- the same as a test: the headers stand one behind the other, so that the last decides

-- the last header's word, where this one leads so far
abbrev pub onward : ℕ → Stepped → (ℕ → ℕ → ℕ) → ℕ
onward w (done s) go = w
onward w (next w' e') go = go w' e'

-- the word of the header at which a search over so many headers ends
unfoldable pub last_over : ℕ → List ℕ → ℕ → ℕ → ℕ → ℕ
last_over zero image number w e = w
last_over (suc f) image number w e = onward w (stepped image number w e) (last_over f image number)

-- .. a search from the header at word w on, before which there are e empty ones
unfoldable pub last_from : List ℕ → ℕ → ℕ → ℕ → ℕ
last_from = last_over (suc word_most)

-- .. the search for a number
unfoldable pub last_header : List ℕ → ℕ → ℕ
last_header image number = last_from image number first_header 0

-- the answer, where the search ended at the header at word w with this: the end of what was looked at is compared, and a refusal stays
unfoldable pub end_inside : List ℕ → ℕ → Said → Said
end_inside image w (gives l) = gives (bit (leb (get_or l 1 0) (length image)) ∷ [])
end_inside image w absent = gives (bit (leb (header_end image w) (length image)) ∷ [])
end_inside image w (refuses n v) = refuses n v

-- what `category_inside` says: 1 or 0, and where `category` refuses, its refusal
unfoldable pub inside_said : List ℕ → ℕ → Said
inside_said image number = end_inside image (last_header image number) (category_said image number)
