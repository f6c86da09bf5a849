-- Points of order of the category search, by computing the definitions. The bench cases stand in the crate `bench`.
use mathlib.Core.Path.{◌≡◌, refl}
use mathlib.Core.List.{[], ◌∷◌, ◌++◌}
use lib.ListN.{replicate}
use Rattle.refusal.specs.Said.{gives, absent, refuses}
use Rattle.wire.specs.Bytes.{byte_at}
use Rattle.eeprom.specs.Image.{within}
use Rattle.eeprom.specs.Range.{new_said}
use Rattle.category.specs.Category.{among, counted, done, decided, stepped, search_over, search_from, searched, category_said}
use Rattle.category.specs.Inside.{header_end, last_over, last_from, last_header, end_inside, inside_said}

pub record Cases : Type 0 where
  -- a header cut by the image's end is completed by 0xFF
  pub cut : category_said (replicate 129 0) 10 ≡ refuses 1 []
  pub none : category_said (replicate 128 0) 10 ≡ absent
  pub unsought : category_said [] 20 ≡ refuses 14 []
  -- a category whose body ends at byte 131,072 is found, one that would end a word later is refused; a header in the last two words is not followed
  pub highest : decided 60 3 60 65533 0 ≡ done (gives (131066 ∷ 131072 ∷ []))
  pub too_high : decided 60 4 60 65533 0 ≡ done (refuses 1 [])
  pub last_words : decided 60 0 60 65536 1 ≡ done absent

pub cases : Cases
unfolding within new_said among counted decided stepped search_over search_from searched category_said byte_at
cases = record { cut = refl; none = refl; unsought = refl; highest = refl; too_high = refl; last_words = refl }

pub record Insides : Type 0 where
  -- a mark read past the end is none, nor one of which half is read there; an image may end with the mark
  pub no_mark : inside_said (replicate 128 0) 10 ≡ gives (0 ∷ [])
  pub half : inside_said (replicate 128 0 ++ (255 ∷ [])) 10 ≡ gives (0 ∷ [])
  pub mark : inside_said (replicate 128 0 ++ (255 ∷ 255 ∷ [])) 10 ≡ gives (1 ∷ [])
  -- a category of one word, whole and cut
  pub whole : inside_said (replicate 128 0 ++ (10 ∷ 0 ∷ 1 ∷ 0 ∷ 0 ∷ 0 ∷ [])) 10 ≡ gives (1 ∷ [])
  pub cut : inside_said (replicate 128 0 ++ (10 ∷ 0 ∷ 1 ∷ 0 ∷ 0 ∷ [])) 10 ≡ gives (0 ∷ [])
  -- one of another number is passed over, whole or cut: the header behind it is looked at
  pub other : inside_said (replicate 128 0 ++ (30 ∷ 0 ∷ 1 ∷ 0 ∷ 0 ∷ 0 ∷ 255 ∷ 255 ∷ [])) 10 ≡ gives (1 ∷ [])
  pub behind : inside_said (replicate 128 0 ++ (30 ∷ 0 ∷ 1 ∷ 0 ∷ 0 ∷ 0 ∷ [])) 10 ≡ gives (0 ∷ [])
  pub refused : inside_said (replicate 129 0) 10 ≡ refuses 1 []

pub insides : Insides
unfolding within new_said among counted decided stepped search_over search_from searched category_said header_end last_over last_from last_header end_inside inside_said byte_at
insides = record { no_mark = refl; half = refl; mark = refl; whole = refl; cut = refl; other = refl; behind = refl; refused = refl }
