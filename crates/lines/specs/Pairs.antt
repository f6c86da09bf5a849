-- BYTES: pairs of hex digits in lower case, `-` for none (docs/DESK.md). Definitions only.
use Rattle.std.specs.Prelude.{ℕ, ◌+◌, ◌-◌, ◌*◌, ◌/◌, ◌%◌, List, [], ◌∷◌, ◌++◌, Bool, true, false, ◌&&◌, length, eqb, leb, ltb, Option, Some, None}
use Rattle.io.specs.Digits.{hex_digit_ascii}
use Rattle.refusal.specs.Said.{Said, gives, absent, pick}
use Rattle.wire.specs.Bytes.{laid}

abbrev pub dash : ℕ
dash = 45

-- what an answer says: how many bytes, or that there are none
abbrev pub said_hex : Option ℕ → Said
said_hex (Some n) = gives (n ∷ [])
said_hex None = absent

-- the value of a hex digit `0` to `9`, `a` to `f`; 16 of any other byte
unfoldable pub nibble_of : ℕ → ℕ
nibble_of b = pick (ltb b 48) 16 (pick (ltb b 58) (b - 48) (pick (ltb b 97) 16 (pick (ltb b 103) (b - 87) 16)))

-- hex digits and nothing else
unfoldable pub all_hex : List ℕ → Bool
all_hex [] = true
all_hex (b ∷ s) = leb (nibble_of b) 15 && all_hex s

-- a word is BYTES: `-`, or an even number of hex digits that is not 0
unfoldable pub is_bytes : List ℕ → Bool
is_bytes [] = false
is_bytes (a ∷ []) = eqb a dash
is_bytes (a ∷ b ∷ s) = eqb (length (a ∷ b ∷ s) % 2) 0 && all_hex (a ∷ b ∷ s)

-- the bytes that a word of BYTES spells: one a pair, so none for `-`
unfoldable pub bytes_of : List ℕ → List ℕ
bytes_of [] = []
bytes_of (a ∷ []) = []
bytes_of (a ∷ b ∷ s) = (16 * nibble_of a + nibble_of b) ∷ bytes_of s

-- a word is BYTES, and a room has place for them
unfoldable pub hex_fits : List ℕ → List ℕ → Bool
hex_fits s room = is_bytes s && leb (length (bytes_of s)) (length room)

-- what reading a word into a room says: how many bytes they are
unfoldable pub hex_said : List ℕ → List ℕ → Said
hex_said s room = pick (hex_fits s room) (gives (length (bytes_of s) ∷ [])) absent

-- the room afterwards: the bytes at its front, or as it was
unfoldable pub hex_room : List ℕ → List ℕ → List ℕ
hex_room s room = pick (hex_fits s room) (laid room 0 (bytes_of s)) room

-- a byte's two hex digits
abbrev pub pair_of : ℕ → List ℕ
pair_of b = hex_digit_ascii (b / 16) ∷ hex_digit_ascii (b % 16) ∷ []

-- bytes as pairs of hex digits
unfoldable pub pairs_of : List ℕ → List ℕ
pairs_of [] = []
pairs_of (b ∷ s) = pair_of b ++ pairs_of s

-- BYTES of a list
unfoldable pub hex_text : List ℕ → List ℕ
hex_text [] = dash ∷ []
hex_text (b ∷ s) = pairs_of (b ∷ s)
