-- What is written reads back: a number in decimal is that number, and BYTES of a list are its bytes. By induction on the text.
use Prim.Native.Nat.{ℕ, zero, suc, ◌+◌, ◌-◌, ◌*◌, ◌/◌, ◌%◌, ◌≤◌, ◌<◌}
use native.Mathlib.Nat.{zero-add}
use native.Mathlib.Omega.{arith}
use mathlib.Core.Path.{◌≡◌, refl, ap, ◌∙◌}
use mathlib.Core.Bool.{Bool, true, false, cond}
use mathlib.Core.List.{List, [], ◌∷◌, ◌++◌}
use lib.ListN.{length, length-append}
use lib.Dec.{leb, ltb}
use borrow.Author.Tests.{lt-ltb, le-ltb, le-leb, eq-eqb, ne_eqb, ltb-true, ltb-false}
use Rattle.io.specs.Digits.{hex_digit_ascii}
use Rattle.refusal.specs.Said.{gives, pick}
use Rattle.refusal.proofs.Tests.{both}
use Rattle.wire.specs.Bytes.{byte_at, Bytes, laid}
use Rattle.lines.specs.Numbers.{number_most, digit_of, all_digits, value_from, number_from, number_said, decimal_in, decimal_of}
use Rattle.lines.specs.Pairs.{nibble_of, all_hex, is_bytes, bytes_of, hex_fits, hex_said, hex_room, pairs_of, hex_text}

-- ---- a number

digit_back : (d : ℕ) → d < 10 → digit_of (48 + d) ≡ d
unfolding digit_of
digit_back d h =
    let a : 48 ≤ 48 + d = omega arith in
    let b : 48 + d < 58 = omega arith in
    let e : 48 + d - 48 ≡ d = omega arith in
    rw (le-ltb (48 + d) 48 a, lt-ltb (48 + d) 58 b, e)

all_snoc : (s : List ℕ) (d : ℕ) → d < 10 → all_digits s ≡ true → all_digits (s ++ ((48 + d) ∷ [])) ≡ true
unfolding all_digits
all_snoc [] d h e = rw (digit_back d h, le-leb d 9 (omega arith))
all_snoc (b ∷ s) d h e =
    let p = both (leb (digit_of b) 9) (all_digits s) e in
    rw p.0 (all_snoc s d h p.1)

value_snoc : (v : ℕ) (s : List ℕ) (d : ℕ) → d < 10 → value_from v (s ++ ((48 + d) ∷ [])) ≡ 10 * value_from v s + d
unfolding value_from
value_snoc v [] d h = rw (digit_back d h)
value_snoc v (b ∷ s) d h = value_snoc (10 * v + digit_of b) s d h

-- the digits are digits, at least one, and spell the number
abbrev Spells : ℕ → List ℕ → Type 0
Spells n s = (all_digits s ≡ true) × (value_from 0 s ≡ n) × (0 < length s)

decimal_spells : (most n : ℕ) → n < most → Spells n (decimal_in most n)
unfolding decimal_in all_digits value_from
decimal_spells zero n h = absurd (let z : ⊥ = omega arith in z)
decimal_spells (suc most) n h = step (ltb n 10) refl (λ l. decimal_spells most (n / 10) (omega arith))
  where
    step : (t : Bool) → ltb n 10 ≡ t → (10 ≤ n → Spells (n / 10) (decimal_in most (n / 10)))
        → Spells n (pick t ((48 + n) ∷ []) (decimal_in most (n / 10) ++ ((48 + n % 10) ∷ [])))
    step true e r =
        let l : n < 10 = ltb-true _ _ e in
        (all_snoc [] n l refl, value_snoc 0 [] n l ∙ zero-add n, omega arith)
    step false e k =
        let l : 10 ≤ n = ltb-false _ _ e in
        let r = k l in
        let g : n % 10 < 10 = omega arith in (
          all_snoc (decimal_in most (n / 10)) (n % 10) g r.0,
          value_snoc 0 (decimal_in most (n / 10)) (n % 10) g ∙ (omega arith),
          rw length-append (omega arith),
        )

-- a number that is written in decimal reads back
pub number_decimal : (n : ℕ) → n ≤ number_most → number_said (decimal_of n) ≡ gives (n ∷ [])
unfolding number_said number_from decimal_of
number_decimal n h =
    let r = decimal_spells (suc n) n (omega arith) in
    let z : length (decimal_in (suc n) n) ≡ 0 → ⊥ = λ e. omega arith in
    rw (ne_eqb (length (decimal_in (suc n) n)) 0 z, r.0, r.1, le-leb n number_most h)

-- ---- bytes

nibble_back : (d : ℕ) → d < 16 → nibble_of (hex_digit_ascii d) ≡ d
unfolding nibble_of
nibble_back d h = step (ltb d 10) refl
  where
    low : d < 10 → nibble_of (48 + d) ≡ d
    low l =
        let a : 48 ≤ 48 + d = omega arith in
        let b : 48 + d < 58 = omega arith in
        let e : 48 + d - 48 ≡ d = omega arith in
        rw (le-ltb (48 + d) 48 a, lt-ltb (48 + d) 58 b, e)

    high : 10 ≤ d → nibble_of (87 + d) ≡ d
    high l =
        let a : 48 ≤ 87 + d = omega arith in
        let b : 58 ≤ 87 + d = omega arith in
        let f : 97 ≤ 87 + d = omega arith in
        let g : 87 + d < 103 = omega arith in
        let e : 87 + d - 87 ≡ d = omega arith in
        rw (le-ltb (87 + d) 48 a, le-ltb (87 + d) 58 b, le-ltb (87 + d) 97 f, lt-ltb (87 + d) 103 g, e)

    step : (t : Bool) → ltb d 10 ≡ t → nibble_of (cond t (48 + d) (87 + d)) ≡ d
    step true e = low (ltb-true _ _ e)
    step false e = high (ltb-false _ _ e)

length_pairs : (s : List ℕ) → length (pairs_of s) ≡ 2 * length s
unfolding pairs_of
length_pairs [] = refl
length_pairs (b ∷ s) = omega (arith, length_pairs s)

-- the pairs are hex, and spell the bytes
pairs_spell : (s : List ℕ) → Bytes s → (all_hex (pairs_of s) ≡ true) × (bytes_of (pairs_of s) ≡ s)
unfolding pairs_of all_hex bytes_of Bytes byte_at
pairs_spell [] h = (refl, refl)
pairs_spell (b ∷ s) h =
    let l : b < 256 = h 0 in
    let hi : b / 16 < 16 = omega arith in
    let lo : b % 16 < 16 = omega arith in
    let e : 16 * (b / 16) + b % 16 ≡ b = omega arith in
    let r = pairs_spell s (λ i. h (suc i)) in
    rw (
      nibble_back (b / 16) hi,
      nibble_back (b % 16) lo,
      le-leb (b / 16) 15 (omega arith),
      le-leb (b % 16) 15 (omega arith),
      e,
    ) (r.0, ap (◌∷◌ b) r.1)

text_spells : (s : List ℕ) → Bytes s → (is_bytes (hex_text s) ≡ true) × (bytes_of (hex_text s) ≡ s)
unfolding hex_text is_bytes bytes_of pairs_of
text_spells [] h = (refl, refl)
text_spells (b ∷ s) h =
    let r = pairs_spell (b ∷ s) h in
    let e : length (pairs_of (b ∷ s)) % 2 ≡ 0 = omega (arith, length_pairs (b ∷ s)) in
    (rw (eq-eqb (length (pairs_of (b ∷ s)) % 2) 0 e) r.0, r.1)

-- bytes that are written in hex read back
pub hex_text_lem : (s room : List ℕ) → Bytes s → length s ≤ length room
    → (hex_said (hex_text s) room ≡ gives (length s ∷ [])) × (hex_room (hex_text s) room ≡ laid room 0 s)
unfolding hex_said hex_room hex_fits
hex_text_lem s room b h =
    let r = text_spells s b in
    rw (r.0, r.1, le-leb (length s) (length room) h) (refl, refl)
