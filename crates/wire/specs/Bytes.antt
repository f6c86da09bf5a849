-- Bytes in a list: one, a number of several, a stretch of them, and one list laid over another. Definitions only.
use Rattle.std.specs.Prelude.{ℕ, zero, suc, ◌+◌, ◌-◌, ◌*◌, ◌/◌, ◌%◌, ◌<◌, Bool, true, false, List, [], ◌∷◌, ◌++◌, length, get_or, take, drop}

-- the first number past a byte, past 16 bits and past 32
abbrev pub byte_past : ℕ
byte_past = 256

abbrev pub word_past : ℕ
word_past = 65536

abbrev pub long_past : ℕ
long_past = 4294967296

-- what a byte reads as where there is none: 0xFF
abbrev pub no_byte : ℕ
no_byte = 255

-- the byte at i
unfoldable pub byte_at : List ℕ → ℕ → ℕ
byte_at s i = get_or s i no_byte

-- the numbers of 16 and 32 bits at i, the low byte first
abbrev pub le16 : List ℕ → ℕ → ℕ
le16 s i = byte_at s i + byte_past * byte_at s (i + 1)

abbrev pub le32 : List ℕ → ℕ → ℕ
le32 s i = le16 s i + word_past * le16 s (i + 2)

-- the same as bytes: a number of 16 bits, and one of 32
abbrev pub bytes16 : ℕ → List ℕ
bytes16 n = n % byte_past ∷ n / byte_past % byte_past ∷ []

abbrev pub bytes32 : ℕ → List ℕ
bytes32 n = n % byte_past ∷ n / byte_past % byte_past ∷ n / word_past % byte_past ∷ n / (byte_past * word_past) % byte_past ∷ []

-- every element is a byte
unfoldable pub Bytes : List ℕ → Type 0
Bytes s = (i : ℕ) → byte_at s i < byte_past

-- the n bytes from i on
unfoldable pub span : List ℕ → ℕ → ℕ → List ℕ
span s i zero = []
span s i (suc n) = byte_at s i ∷ span s (suc i) n

-- a buffer whose first n bytes are those of s from i on, and the rest as before
unfoldable pub filled : List ℕ → ℕ → ℕ → List ℕ → List ℕ
filled s i n buf = span s i n ++ drop n buf

-- xs with ys in place of what stood there from at on, where ys lies within
unfoldable pub overlay : {A : Type 0} → List A → ℕ → List A → List A
overlay xs at ys = take at xs ++ ys ++ drop (at + length ys) xs

-- .. as much of ys as lies within
unfoldable pub laid : {A : Type 0} → List A → ℕ → List A → List A
laid xs at ys = overlay xs at (take (length xs - at) ys)

-- a test as a number: 1 where it holds, else 0
abbrev pub bit : Bool → ℕ
bit true = 1
bit false = 0
