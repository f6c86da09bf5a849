-- Strings as the standard stores them: a count, then the length and the bytes of each (ETG1000.6 Table 20), without how they are read. Definitions only.
use Rattle.std.specs.Prelude.{ℕ, ◌+◌, ◌≤◌, ◌<◌, ◌≡◌, List, [], ◌∷◌, ◌++◌, length, get_or}
use Rattle.wire.specs.Bytes.{byte_at, span}
use Rattle.strings.specs.Strings.{shown}

-- the image holds these bytes from p on
unfoldable pub Lies : List ℕ → ℕ → List ℕ → Type 0
Lies image p bytes = span image p (length bytes) ≡ bytes

-- a text: its length, then its bytes
unfoldable pub text_bytes : List ℕ → List ℕ
text_bytes text = length text ∷ text

-- .. texts, one behind the other
unfoldable pub row_bytes : List (List ℕ) → List ℕ
row_bytes [] = []
row_bytes (t ∷ ts) = text_bytes t ++ row_bytes ts

-- .. and the count before them
unfoldable pub strings_bytes : List (List ℕ) → List ℕ
strings_bytes texts = length texts ∷ row_bytes texts

-- the category from pos to end holds these texts
pub record Stored (image : List ℕ) (pos end : ℕ) (texts : List (List ℕ)) : Type 0 where
  pub lies : Lies image pos (strings_bytes texts)
  pub inside : pos + length (strings_bytes texts) ≤ end

-- a text with i before it in the category from pos to end: the last of the i + 1 that are stored behind the count, which admits it; it has room, and is shown so
pub record TextOf (image : List ℕ) (pos end i room : ℕ) (text : List ℕ) : Type 0 where
  pub counted : i < byte_at image pos
  pub texts : List (List ℕ)
  pub many : length texts ≡ i + 1
  pub lies : Lies image (pos + 1) (row_bytes texts)
  pub inside : pos + 1 + length (row_bytes texts) ≤ end
  pub fits : length (get_or texts i []) ≤ room
  pub shows : text ≡ shown (get_or texts i [])
