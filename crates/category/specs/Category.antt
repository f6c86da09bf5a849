-- Finding a category: RULES, category. Definitions only.
use Rattle.std.specs.Prelude.{ℕ, zero, suc, ◌+◌, List, [], ◌∷◌, Bool, true, false, leb, ltb, eqb}
use Rattle.refusal.specs.Said.{Said, absent, refuses, pick}
use Rattle.eeprom.specs.Image.{within}
use Rattle.eeprom.specs.Range.{new_said}
use Rattle.category.specs.Numbers.{strings, general, fmmu, sync_managers, fmmu_extended, tx_pdo, rx_pdo, clock}
use Rattle.category.specs.Layout.{first_header, header_words, type_at, length_at, end_mark, word_most}

-- the numbers that may be sought
abbrev pub numbers : List ℕ
numbers = strings ∷ general ∷ fmmu ∷ sync_managers ∷ fmmu_extended ∷ tx_pdo ∷ rx_pdo ∷ clock ∷ []

unfoldable pub among : ℕ → List ℕ → Bool
among n [] = false
among n (m ∷ l) = pick (eqb n m) true (among n l)

-- the empty header at which a search ends, by its count
abbrev pub empty_most : ℕ
empty_most = 32

-- the count of empty headers with one of this length
unfoldable pub counted : ℕ → ℕ → ℕ
counted len empties = pick (eqb len 0) (empties + 1) empties

-- what a header leads to: the search's answer, or the next header's word and the count of empty headers so far
pub data Stepped : Type 0 where
  done : Said → Stepped
  next : ℕ → ℕ → Stepped

-- a header of this type and length, whose body stands at word body, and with which there are e empty ones: the tests of R-category-3, in its order
unfoldable pub decided : ℕ → ℕ → ℕ → ℕ → ℕ → Stepped
decided type len number body e =
    pick (ltb word_most body) (done absent)
    (pick (leb empty_most e) (done absent)
    (pick (eqb type number) (done (new_said body len))
    (pick (eqb type end_mark) (done absent)
    (pick (ltb word_most (body + len)) (done (refuses 1 []))
    (next (body + len) e)))))

-- the header at word w
unfoldable pub stepped : List ℕ → ℕ → ℕ → ℕ → Stepped
stepped image number w empties =
    decided (type_at image w) (length_at image w) number (w + header_words) (counted (length_at image w) empties)

-- the answer, or what the search says from the next header on
abbrev pub follow : Stepped → (ℕ → ℕ → Said) → Said
follow (done s) go = s
follow (next w e) go = go w e

-- a search over so many headers
unfoldable pub search_over : ℕ → List ℕ → ℕ → ℕ → ℕ → Said
search_over zero image number w e = absent
search_over (suc f) image number w e = follow (stepped image number w e) (search_over f image number)

-- the search from the header at word w on, before which there are e empty ones; there are fewer headers than words
unfoldable pub search_from : List ℕ → ℕ → ℕ → ℕ → Said
search_from = search_over (suc word_most)

-- what the search for a number says: the byte position and the end of the category's range, absent, or a refusal
unfoldable pub searched : List ℕ → ℕ → Said
searched image number = search_from image number first_header 0

-- what `category` says: an image too long and a number that may not be sought are 14
unfoldable pub category_said : List ℕ → ℕ → Said
category_said image number =
    pick (within image) (pick (among number numbers) (searched image number) (refuses 14 [])) (refuses 14 [])
