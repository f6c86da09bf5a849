-- Points of order of strings and of names, by computing the definitions. The bench cases stand in the crate `bench`.
use Prim.Native.Nat.{ℕ}
use mathlib.Core.Path.{◌≡◌, refl}
use mathlib.Core.List.{List, [], ◌∷◌, ◌++◌}
use lib.ListN.{replicate}
use Rattle.refusal.specs.Said.{gives, absent, refuses, on2, on3}
use Rattle.wire.specs.Bytes.{byte_at, span, overlay}
use Rattle.eeprom.specs.Image.{within, in_bounds, fine}
use Rattle.eeprom.specs.Range.{new_said, byte_in, byte_said, skip_in, skip_said, exact_said}
use Rattle.category.specs.Category.{among, counted, decided, stepped, search_over, search_from, searched, category_said}
use Rattle.sii.specs.General.{listed, general_of, general_admits, general_in, general_found, needed, general_said}
use Rattle.strings.specs.Strings.{string_past, passed_one, passed, on_exact, fitted, string_here, string_behind, string_in, sought_at, ascii, shown, text_said, fits, bounded, text_for, string_said, length_said, room_behind}
use Rattle.strings.specs.Names.{on_general, string_by, name_said, description_said}

-- a strings category of four words
unfoldable pub two_strings : List ℕ
two_strings = replicate 128 0 ++ (10 ∷ 0 ∷ 4 ∷ 0 ∷ 2 ∷ 3 ∷ 65 ∷ 0 ∷ 181 ∷ 1 ∷ 66 ∷ 0 ∷ [])

-- one of no words, and bytes behind it that would read as a count and a length
unfoldable pub no_strings : List ℕ
no_strings = replicate 128 0 ++ (10 ∷ 0 ∷ 0 ∷ 0 ∷ 1 ∷ 0 ∷ 0 ∷ 0 ∷ [])

pub record Cases : Type 0 where
  -- the stored length is counted before zeros are dropped
  pub long : string_said two_strings 1 2 ≡ refuses 4 (2 ∷ 3 ∷ [])
  pub zero : string_said two_strings 0 3 ≡ absent
  -- a room of over 255 is refused before index 0 is absent
  pub wide : string_said two_strings 0 256 ≡ refuses 14 []
  -- in an empty category index 1 is refused, and index 0 absent as ever
  pub empty : string_said no_strings 1 3 ≡ refuses 2 []
  pub empty_zero : string_said no_strings 0 3 ≡ absent
  -- the room's bytes after the result stay
  pub kept : room_behind (string_said two_strings 1 3) (7 ∷ 8 ∷ 9 ∷ []) ≡ 65 ∷ 63 ∷ 9 ∷ []

pub cases : Cases
unfolding
    two_strings no_strings on2 on3 byte_at span overlay within in_bounds fine new_said byte_in byte_said skip_in skip_said exact_said among counted decided stepped search_over search_from searched category_said
    string_past passed_one passed on_exact fitted string_here string_behind string_in sought_at ascii shown text_said fits bounded text_for string_said length_said room_behind
cases = record { long = refl; zero = refl; wide = refl; empty = refl; empty_zero = refl; kept = refl }

-- General of so many words, with order index 1, name index 2 and these flags, then the strings
unfoldable pub named : ℕ → ℕ → List ℕ
named words flags =
    replicate 128 0
    ++ (30 ∷ 0 ∷ words ∷ 0 ∷ 0 ∷ 0 ∷ 1 ∷ 2 ∷ 0 ∷ 0 ∷ 0 ∷ 0 ∷ 0 ∷ 0 ∷ 0 ∷ flags ∷ 0 ∷ 0 ∷ 0 ∷ 0 ∷ 0 ∷ 0 ∷ [])
    ++ (10 ∷ 0 ∷ 4 ∷ 0 ∷ 2 ∷ 3 ∷ 65 ∷ 0 ∷ 181 ∷ 1 ∷ 66 ∷ 0 ∷ [])

pub record Named : Type 0 where
  pub name : name_said (named 9 0) 3 ≡ gives (65 ∷ 63 ∷ [])
  pub description : description_said (named 9 0) 3 ≡ gives (66 ∷ [])
  -- no General
  pub none : name_said two_strings 3 ≡ absent
  pub needs : description_said two_strings 3 ≡ refuses 3 []
  -- General is read whole: short is 2, an undefined flag 5
  pub short : name_said (named 8 0) 3 ≡ refuses 2 []
  pub flag : name_said (named 9 32) 3 ≡ refuses 5 []
  -- a room of over 255 is refused before General is looked for
  pub wide : name_said two_strings 256 ≡ refuses 14 []
  pub wider : description_said two_strings 256 ≡ refuses 14 []

pub names : Named
unfolding
    two_strings named on2 on3 byte_at span within in_bounds fine new_said byte_in byte_said skip_in skip_said exact_said among counted decided stepped search_over search_from searched category_said
    listed general_of general_admits general_in general_found needed general_said
    string_past passed_one passed on_exact fitted string_here string_behind string_in sought_at ascii shown text_said fits bounded text_for string_said
    on_general string_by name_said description_said
names = record { name = refl; description = refl; none = refl; needs = refl; short = refl; flag = refl; wide = refl; wider = refl }
