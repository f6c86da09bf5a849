-- Numbers in decimal, read and written (docs/DESK.md). Definitions only.
use Rattle.std.specs.Prelude.{ℕ, zero, suc, ◌+◌, ◌-◌, ◌*◌, ◌/◌, ◌%◌, List, [], ◌∷◌, ◌++◌, Bool, true, ◌&&◌, length, eqb, leb, ltb, Option, Some, None}
use Rattle.refusal.specs.Said.{Said, gives, absent, pick}

-- the largest number that a line may hold: 32 bits
abbrev pub number_most : ℕ
number_most = 4294967295

-- what an answer says: the number, or that there is none
abbrev pub said_number : Option ℕ → Said
said_number (Some n) = gives (n ∷ [])
said_number None = absent

-- the value of a digit `0` to `9`; 10 of any other byte
unfoldable pub digit_of : ℕ → ℕ
digit_of b = pick (ltb b 48) 10 (pick (ltb b 58) (b - 48) 10)

-- a number below n; none where it is not
abbrev pub below : ℕ → ℕ → Option ℕ
below n v = pick (ltb v n) (Some v) None

-- digits and nothing else
unfoldable pub all_digits : List ℕ → Bool
all_digits [] = true
all_digits (b ∷ s) = leb (digit_of b) 9 && all_digits s

-- the number that digits spell, read on from v
unfoldable pub value_from : ℕ → List ℕ → ℕ
value_from v [] = v
value_from v (b ∷ s) = value_from (10 * v + digit_of b) s

-- what digits say, read on from v
unfoldable pub number_from : ℕ → List ℕ → Said
number_from v s = pick (all_digits s && leb (value_from v s) number_most) (gives (value_from v s ∷ [])) absent

-- what a word says as a number: at least one digit, leading zeros allowed
unfoldable pub number_said : List ℕ → Said
number_said s = pick (eqb (length s) 0) absent (number_from 0 s)

-- n's digits, no zero in front, where n has at most `most` of them
unfoldable pub decimal_in : ℕ → ℕ → List ℕ
decimal_in zero n = []
decimal_in (suc most) n = pick (ltb n 10) ((48 + n) ∷ []) (decimal_in most (n / 10) ++ ((48 + n % 10) ∷ []))

-- n in decimal: no number has more digits than its value and one
unfoldable pub decimal_of : ℕ → List ℕ
decimal_of n = decimal_in (suc n) n
