-- RULES, strings. The category holds a count, then for each string its length and its bytes
-- (ETG1000.6 Table 20). Definitions only.
use Rattle.std.specs.Prelude.{ℕ, zero, suc, ◌-◌, List, [], ◌∷◌, Bool, ◌&&◌, length, leb, ltb, eqb}
use Rattle.refusal.specs.Said.{Said, gives, absent, refuses, on2, on3, pick}
use Rattle.wire.specs.Bytes.{span, overlay}
use Rattle.eeprom.specs.Image.{within}
use Rattle.eeprom.specs.Range.{byte_said, skip_said, exact_said}
use Rattle.category.specs.Numbers.{strings}
use Rattle.category.specs.Category.{category_said}

-- ---- where a string stands

-- s strings are to be passed over, and the count has no further one: an index above the count is absent
unfoldable pub string_past : ℕ → ℕ → Bool
string_past s count = leb count s

-- one string is passed over: a length is read, and skipped
unfoldable pub passed_one : List ℕ → ℕ → ℕ → Said
passed_one image pos end = on3 (byte_said image pos end) (λ n p e. skip_said p e n)

-- s strings are passed over
unfoldable pub passed : ℕ → List ℕ → ℕ → ℕ → Said
passed zero image pos end = gives (pos ∷ end ∷ [])
passed (suc s) image pos end = on2 (passed_one image pos end) (passed s image)

-- what follows an exact read; where it refuses, its refusal
unfoldable pub on_exact : Said → Said → Said
on_exact (gives l) s = s
on_exact absent s = absent
on_exact (refuses n v) s = refuses n v

-- n bytes from pos on, for a room of k: compared with the room, then read exactly
unfoldable pub fitted : List ℕ → ℕ → ℕ → ℕ → ℕ → Said
fitted image k n pos end =
    pick (ltb k n) (refuses 4 (k ∷ n ∷ [])) (on_exact (exact_said image pos end n) (gives (pos ∷ n ∷ [])))

-- a length is read, and its bytes stand behind it
unfoldable pub string_here : List ℕ → ℕ → ℕ → ℕ → Said
string_here image k pos end = on3 (byte_said image pos end) (fitted image k)

-- .. behind s strings
unfoldable pub string_behind : List ℕ → ℕ → ℕ → ℕ → ℕ → Said
string_behind image s k pos end = on2 (passed s image pos end) (string_here image k)

-- .. behind the count and s strings, in a category from pos to end
unfoldable pub string_in : List ℕ → ℕ → ℕ → ℕ → ℕ → Said
string_in image s k pos end =
    on3 (byte_said image pos end) (λ count p e. pick (string_past s count) absent (string_behind image s k p e))

-- where the bytes of the string of an index stand, and how many are stored
unfoldable pub sought_at : List ℕ → ℕ → ℕ → Said
sought_at image index k = pick (eqb index 0) absent (on2 (category_said image strings) (string_in image (index - 1) k))

-- ---- what is made of it

-- the first byte that is not ASCII, and the question mark
abbrev pub ascii_end : ℕ
ascii_end = 0x80

abbrev pub question_mark : ℕ
question_mark = 63

-- a byte from 0x80 becomes a question mark
unfoldable pub ascii : ℕ → ℕ
ascii b = pick (ltb b ascii_end) b question_mark

-- zeros are dropped
unfoldable pub shown : List ℕ → List ℕ
shown [] = []
shown (b ∷ l) = pick (eqb b 0) (shown l) (ascii b ∷ shown l)

-- the text of the bytes at a place
unfoldable pub text_said : List ℕ → Said → Said
text_said image place = on2 place (λ p n. gives (shown (span image p n)))

-- ---- what a call on strings says, and what it leaves in the room

-- the largest room
abbrev pub room_most : ℕ
room_most = 255

-- an image and a room of k bytes within their bounds
unfoldable pub fits : List ℕ → ℕ → Bool
fits image k = within image && leb k room_most

-- out of them it is 14, before all else
unfoldable pub bounded : List ℕ → ℕ → Said → Said
bounded image k said = pick (fits image k) said (refuses 14 [])

-- the text at a place, for an image and a room within their bounds
unfoldable pub text_for : List ℕ → ℕ → Said → Said
text_for image k place = bounded image k (text_said image place)

-- the string of an index, for a room of k bytes: its text, absent, or a refusal
unfoldable pub string_said : List ℕ → ℕ → ℕ → Said
string_said image index k = text_for image k (sought_at image index k)

-- a text is answered by its length
unfoldable pub length_said : Said → Said
length_said (gives text) = gives (length text ∷ [])
length_said absent = absent
length_said (refuses n v) = refuses n v

-- .. and laid over the front of the room; else the room stays
unfoldable pub room_behind : Said → List ℕ → List ℕ
room_behind (gives text) room = overlay room 0 text
room_behind absent room = room
room_behind (refuses n v) room = room
