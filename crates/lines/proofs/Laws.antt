-- Laws of text in lines: what one step of each loop does to its definition, and that texts laid one behind another are laid as one.
use Prim.Native.Nat.{ℕ, zero, suc, ◌+◌, ◌-◌, ◌*◌, ◌/◌, ◌%◌, ◌^◌, ◌≤◌, ◌<◌}
use native.Mathlib.Nat.{add-zero, le_of_eq, pow-succ'}
use native.Mathlib.Numerals.{add-one, unary_clauses}
use native.Mathlib.Omega.{arith}
use mathlib.Core.Path.{◌≡◌, refl, sym, ◌∙◌}
use mathlib.Core.Bool.{Bool, true, false, cond, ◌&&◌}
use mathlib.Core.List.{List, [], ◌∷◌, ◌++◌}
use mathlib.Core.Logic.{inl, inr}
use denote.Ref.{Bor}
use lib.ListN.{length, get_or, drop, length-append, length-drop, drop_of_length-le}
use lib.Seq.{drop-cons, take_all}
use lib.Dec.{eqb, leb, ltb}
use borrow.Author.Tests.{lt-ltb, le-ltb, le-leb, lt-leb, eq-eqb, ne_eqb, ltb-true, ltb-false, leb-true, leb-false}
use Rattle.std.specs.Prelude.{Option, Some, None, unwrap_or, is_some}
use Rattle.std.specs.Option.{IsSome}
use Rattle.std.specs.Slice.{IsGetRangeResult}
use Rattle.std.specs.List.{slice_range, position_or_len, list_all}
use Rattle.std.proofs.lemmas.Option.{none-some, same_Some}
use Rattle.std.proofs.lemmas.List.Recursion.{is_position_or_len}
use Rattle.io.specs.Digits.{hex_digit_ascii, last_digits, IsDigitCount}
use Rattle.refusal.specs.Said.{gives, absent, pick}
use Rattle.refusal.proofs.Tests.{both}
use Rattle.wire.specs.Bytes.{laid}
use Rattle.wire.proofs.Laws.{laid-past, length-laid, laid-behind, laid-cut}
use Rattle.lines.specs.Words.{space, word_length, word_end, word_at}
use Rattle.lines.specs.Numbers.{number_most, digit_of, below, all_digits, value_from, number_from, decimal_in, decimal_of}
use Rattle.lines.specs.Pairs.{dash, nibble_of, all_hex, is_bytes, bytes_of, hex_fits, hex_said, hex_room, pair_of, pairs_of, hex_text}
use Rattle.lines.specs.Places.{after}

-- ---- the words of a line

pub word-within : (s : List ℕ) → word_length s ≤ length s
unfolding word_length
word-within [] = omega arith
word-within (b ∷ s) = step (eqb b space) (word-within s)
  where
    step : (t : Bool) → word_length s ≤ length s → pick t 0 (suc (word_length s)) ≤ suc (length s)
    step true h = omega arith
    step false h = omega arith

-- the place of the first space, or where there is none the end
first_space : (s : List ℕ) → word_length s ≡ position_or_len (λ b. eqb b space) s
unfolding word_length
first_space = is_position_or_len word_length (λ b. eqb b space) refl (λ b s. step (eqb b space) s)
  where
    step : (t : Bool) (s : List ℕ) → pick t 0 (suc (word_length s)) ≡ cond t 0 (1 + word_length s)
    step true s = refl
    step false s = omega arith

pub word_found : (s : List ℕ) (r : Option ℕ)
    → r ≡ cond (ltb (position_or_len (λ b. eqb b space) s) (length s)) (Some (position_or_len (λ b. eqb b space) s)) None
    → unwrap_or r (length s) ≡ word_length s
word_found s r e = rw (e, ← first_space s) (step (ltb (word_length s) (length s)) refl)
  where
    step : (t : Bool) → ltb (word_length s) (length s) ≡ t → unwrap_or (cond t (Some (word_length s)) None) (length s) ≡ word_length s
    step true e = refl
    step false e = let h : length s ≤ word_length s = ltb-false _ _ e in omega (arith, word-within s)

-- a word ends inside the line, or past it where it starts
pub end_within : (line : List ℕ) (from : ℕ) → (from ≤ word_end line from) × (word_end line from ≤ from + (length line - from))
unfolding word_end
end_within line from = (omega arith, omega (arith, word-within (drop from line), length-drop from line))

-- the rest of the line from there on begins with the word
pub end_in : (line rest : List ℕ) (from n : ℕ) → rest ≡ slice_range line from (length line) → n ≡ word_length rest → from + n ≡ word_end line from
unfolding word_end
end_in line rest from n e f = rw (f, e, take_all (length line - from) (drop from line) (le_of_eq (length-drop from line))) refl

pub end_past : (line : List ℕ) (from : ℕ) → length line < from → from ≡ word_end line from
unfolding word_end word_length
end_past line from h = let k : length line ≤ from = omega arith in rw (drop_of_length-le line k) (sym (add-zero from))

-- .. and so does the word itself
word_is : (line word : List ℕ) (from end : ℕ) → end ≡ word_end line from → word ≡ slice_range line from end → word ≡ word_at line from
unfolding word_end word_at
word_is line word from end e f =
    let d : end - from ≡ word_length (drop from line) = omega arith in
    rw (f, d) refl

pub word_out : (line : List ℕ) (from : ℕ) → length line ≤ from → [] ≡ word_at line from
unfolding word_at word_length
word_out line from h = rw (drop_of_length-le line h)

-- .. and no word is what stands past the line's end
pub word_got : (line : List ℕ) (from end : ℕ) (r : Option (Bor (List ℕ))) (none : Bor (List ℕ))
    → end ≡ word_end line from → none.now ≡ [] → IsGetRangeResult line from end r → (unwrap_or r none).now ≡ word_at line from
word_got line from end (Some word) none e n h = word_is line word.now from end e h.0.2
word_got line from end None none e n h = n ∙ word_out line from (elim h.0 [ inl l ↦ omega (arith, end_within line from) | inr l ↦ omega (arith, end_within line from) ])

-- ---- a number in decimal

pub ruleset digits = (lt-ltb, le-ltb)

-- a number below n, if it is there, and that it is not
pub below_is : (n v d : ℕ) (r : Option ℕ) → r ≡ below n v → r ≡ Some d → (d ≡ v) × (v < n)
below_is n v d r e f = step (ltb v n) refl (sym f ∙ e)
  where
    step : (t : Bool) → ltb v n ≡ t → Some d ≡ pick t (Some v) None → (d ≡ v) × (v < n)
    step true g h = (same_Some d v h, ltb-true _ _ g)
    step false g h = absurd (none-some d (sym h))

pub below_not : (n v : ℕ) (r : Option ℕ) → r ≡ below n v → r ≡ None → n ≤ v
below_not n v r e f = step (ltb v n) refl (sym f ∙ e)
  where
    step : (t : Bool) → ltb v n ≡ t → None ≡ pick t (Some v) None → n ≤ v
    step true g h = absurd (none-some v h)
    step false g h = ltb-false _ _ g

value_grows : (v : ℕ) (s : List ℕ) → v ≤ value_from v s
unfolding value_from
value_grows v [] = omega arith
value_grows v (b ∷ s) = omega (arith, value_grows (10 * v + digit_of b) s)

pub from_more : (v w : ℕ) (s : List ℕ) (i : ℕ) → i < length s → digit_of (get_or s i 0) ≤ 9 → w ≡ 10 * v + digit_of (get_or s i 0)
    → number_from w (drop (i + 1) s) ≡ number_from v (drop i s)
unfolding number_from all_digits value_from
from_more v w s i h d e = rw (drop-cons s i 0 h, le-leb (digit_of (get_or s i 0)) 9 d, add-one i, e)

pub from_bad : (v : ℕ) (s : List ℕ) (i : ℕ) → i < length s → 9 < digit_of (get_or s i 0) → absent ≡ number_from v (drop i s)
unfolding number_from all_digits
from_bad v s i h d = rw (drop-cons s i 0 h, lt-leb (digit_of (get_or s i 0)) 9 d)

-- too large is too large, whatever follows
pub from_over : (v : ℕ) (s : List ℕ) → number_most < v → absent ≡ number_from v s
unfolding number_from
from_over v s h =
    let o : number_most < value_from v s = omega (arith, value_grows v s) in
    rw (lt-leb (value_from v s) number_most o) (step (all_digits s))
  where
    step : (t : Bool) → absent ≡ pick (t && false) (gives (value_from v s ∷ [])) absent
    step true = refl
    step false = refl

pub from_end : (v : ℕ) (s : List ℕ) (i : ℕ) → length s ≤ i → v ≤ number_most → gives (v ∷ []) ≡ number_from v (drop i s)
unfolding number_from all_digits value_from
from_end v s i h m = rw (drop_of_length-le s h, le-leb v number_most m)

-- ---- bytes in hex

below_some : (v : ℕ) → is_some (below 16 v) ≡ leb v 15
below_some v = step (ltb v 16) refl
  where
    step : (t : Bool) → ltb v 16 ≡ t → is_some (pick t (Some v) None) ≡ leb v 15
    step true e = let h : v < 16 = ltb-true _ _ e in rw (le-leb v 15 (omega arith))
    step false e = let h : 16 ≤ v = ltb-false _ _ e in rw (lt-leb v 15 (omega arith))

-- the value of a hex digit by arithmetic: of `0` to `9` it is the low half, and of `a` to `f` nine more
pub nibble_sum : (b : ℕ) → nibble_of b ≤ 15 → b % 16 + 9 * (b / 64) ≡ nibble_of b
unfolding nibble_of
nibble_sum b h = go (ltb b 48) (ltb b 58) (ltb b 97) (ltb b 103) refl refl refl refl h
  where
    go : (t u v w : Bool) → ltb b 48 ≡ t → ltb b 58 ≡ u → ltb b 97 ≡ v → ltb b 103 ≡ w
        → pick t 16 (pick u (b - 48) (pick v 16 (pick w (b - 87) 16))) ≤ 15 → b % 16 + 9 * (b / 64) ≡ pick t 16 (pick u (b - 48) (pick v 16 (pick w (b - 87) 16)))
    go true u v w p q r s h = absurd (omega arith)
    go false true v w p q r s h = omega (arith, ltb-false _ _ p, ltb-true _ _ q)
    go false false true w p q r s h = absurd (omega arith)
    go false false false true p q r s h = omega (arith, ltb-false _ _ r, ltb-true _ _ s)
    go false false false false p q r s h = absurd (omega arith)

pub hex_each : (s : List ℕ) → list_all (λ b. is_some (below 16 (nibble_of b))) s ≡ all_hex s
unfolding all_hex
hex_each [] = refl
hex_each (b ∷ s) = rw (below_some (nibble_of b), hex_each s) refl

hex_in : (s : List ℕ) (i : ℕ) → all_hex s ≡ true → i < length s → nibble_of (get_or s i 0) ≤ 15
unfolding all_hex
hex_in [] i e h = omega arith
hex_in (b ∷ s) zero e h = leb-true _ _ (both (leb (nibble_of b) 15) (all_hex s) e).0
hex_in (b ∷ s) (suc i) e h = hex_in s i (both (leb (nibble_of b) 15) (all_hex s) e).1 (omega arith)

pub length-bytes : (s : List ℕ) → length (bytes_of s) ≡ length s / 2
unfolding bytes_of
length-bytes [] = refl
length-bytes (a ∷ []) = refl
length-bytes (a ∷ b ∷ s) = omega (arith, length-bytes s)

-- every digit of a pair is one
pub nibble_in : (s : List ℕ) (i : ℕ) → is_bytes s ≡ true → i < 2 * (length s / 2) → nibble_of (get_or s i 0) ≤ 15
unfolding is_bytes
nibble_in [] i e h = omega arith
nibble_in (a ∷ []) i e h = omega arith
nibble_in (a ∷ b ∷ s) i e h = hex_in (a ∷ b ∷ s) i (both (eqb (length (a ∷ b ∷ s) % 2) 0) (all_hex (a ∷ b ∷ s)) e).1 (omega arith)

pub nibble_is : (s : List ℕ) (i : ℕ) (r : Option ℕ) → is_bytes s ≡ true → i < 2 * (length s / 2) → r ≡ below 16 (nibble_of (get_or s i 0)) → IsSome r
nibble_is s i r e h f =
    let d : nibble_of (get_or s i 0) < 16 = omega (arith, nibble_in s i e h) in
    rw (f, lt-ltb (nibble_of (get_or s i 0)) 16 d) refl

-- byte j is that of pair j
pub byte_of : (s : List ℕ) (j : ℕ) → j < length (bytes_of s)
    → 16 * nibble_of (get_or s (2 * j) 0) + nibble_of (get_or s (2 * j + 1) 0) ≡ get_or (bytes_of s) j 0
unfolding bytes_of
byte_of [] j h = omega arith
byte_of (a ∷ []) j h = omega arith
byte_of (a ∷ b ∷ s) zero h = refl
byte_of (a ∷ b ∷ s) (suc j) h =
    let e : 2 * suc j ≡ suc (suc (2 * j)) = omega arith in
    let f : 2 * suc j + 1 ≡ suc (suc (2 * j + 1)) = omega arith in
    rw (f, e) (byte_of s j (omega arith))

pub hex_taken : (s room out : List ℕ) → is_bytes s ≡ true → length s / 2 ≤ length room → out ≡ laid room 0 (bytes_of s)
    → (gives (length s / 2 ∷ []) ≡ hex_said s room) × (out ≡ hex_room s room)
unfolding hex_said hex_room hex_fits
hex_taken s room out e h o = rw (length-bytes s, e, le-leb (length s / 2) (length room) h) (refl, o)

pub hex_over : (s room : List ℕ) → is_bytes s ≡ true → length room < length s / 2 → (absent ≡ hex_said s room) × (room ≡ hex_room s room)
unfolding hex_said hex_room hex_fits
hex_over s room e h = rw (length-bytes s, e, lt-leb (length s / 2) (length room) h) (refl, refl)

pub hex_not : (s room : List ℕ) → is_bytes s ≡ false → (absent ≡ hex_said s room) × (room ≡ hex_room s room)
unfolding hex_said hex_room hex_fits
hex_not s room e = rw e (refl, refl)

-- ---- texts laid one behind another

pub after_none : (len k : ℕ) → after len k 0 ≡ k
unfolding after
after_none len k = omega arith

pub after-past : (len k n : ℕ) → len ≤ k → after len k n ≡ k
unfolding after
after-past len k n h = omega arith

after-whole : (len k n : ℕ) → k + n ≤ len → after len k n ≡ k + n
unfolding after
after-whole len k n h = omega arith

after-cut : (len k n : ℕ) → k ≤ len → len ≤ k + n → after len k n ≡ len
unfolding after
after-cut len k n h c = omega arith

-- the place after both
pub after_next : (len k n m : ℕ) → after len (after len k n) m ≡ after len k (n + m)
unfolding after
after_next len k n m = omega arith

-- what is laid at the next place is laid behind, also where the end cuts it off
pub laid_next : (xs : List ℕ) (k : ℕ) (ys zs : List ℕ) → laid (laid xs k ys) (after (length xs) k (length ys)) zs ≡ laid xs k (ys ++ zs)
laid_next xs k ys zs = step (leb (k + length ys) (length xs)) (leb k (length xs)) refl refl
  where
    step : (t u : Bool) → leb (k + length ys) (length xs) ≡ t → leb k (length xs) ≡ u
        → laid (laid xs k ys) (after (length xs) k (length ys)) zs ≡ laid xs k (ys ++ zs)
    step true u e f =
        let h : k + length ys ≤ length xs = leb-true _ _ e in
        rw (after-whole (length xs) k (length ys) h) (laid-behind xs k ys zs h)
    step false true e f =
        let h : length xs < k + length ys = leb-false _ _ e in
        let g : k ≤ length xs = leb-true _ _ f in
        rw (
          after-cut (length xs) k (length ys) g (omega arith),
          laid-past (laid xs k ys) (length xs) zs (le_of_eq (length-laid xs k ys)),
          laid-cut xs k ys zs (omega arith),
        )
    step false false e f =
        let h : length xs < k = leb-false _ _ f in
        let g : length xs ≤ k = omega arith in
        rw (after-past (length xs) k (length ys) g, laid-past xs k ys g, laid-past xs k zs g, laid-past xs k (ys ++ zs) g)

-- ---- text out

pub pairs_out : (s : List ℕ) (i : ℕ) → length s ≤ i → pairs_of (drop i s) ≡ []
unfolding pairs_of
pairs_out s i h = rw (drop_of_length-le s h)

pairs_in : (s : List ℕ) (i : ℕ) → i < length s → pairs_of (drop i s) ≡ pair_of (get_or s i 0) ++ pairs_of (drop (i + 1) s)
unfolding pairs_of
pairs_in s i h = rw (drop-cons s i 0 h, add-one i)

-- one pair laid: what the rest will be is what it was to be
pub pairs_place : (len p q : ℕ) (s : List ℕ) (i : ℕ) → i < length s → q ≡ after len p 2
    → after len q (length (pairs_of (drop (i + 1) s))) ≡ after len p (length (pairs_of (drop i s)))
pairs_place len p q s i h f = rw (f, pairs_in s i h, length-append) (after_next len p 2 (length (pairs_of (drop (i + 1) s))))

pub pairs_laid : (xs ys : List ℕ) (p q : ℕ) (s : List ℕ) (i : ℕ) → i < length s
    → q ≡ after (length xs) p 2 → ys ≡ laid xs p (pair_of (get_or s i 0))
    → laid ys q (pairs_of (drop (i + 1) s)) ≡ laid xs p (pairs_of (drop i s))
pairs_laid xs ys p q s i h f g =
    rw (g, f, pairs_in s i h) (laid_next xs p (pair_of (get_or s i 0)) (pairs_of (drop (i + 1) s)))

few : (k : ℕ) → k < 10 ^ k
few zero = omega arith
few (suc k) = omega (arith, few k, pow-succ' 10 k)

glyph_digit : (d : ℕ) → d < 10 → hex_digit_ascii d ≡ 48 + d
glyph_digit d h = rw (lt-ltb d 10 h)

-- n's k digits, where k is enough and no fewer are
decimal_digits : (k most n : ℕ) → k ≤ most → IsDigitCount 10 1 n k → last_digits 10 k n ≡ decimal_in most n
unfolding decimal_in
decimal_digits zero most n m f = absurd (let z : ⊥ = omega (arith, f.0) in z)
decimal_digits (suc k) zero n m f = absurd (let z : ⊥ = omega arith in z)
decimal_digits (suc zero) (suc most) n m f =
    let h : n < 10 = f.1 in
    let e : n % 10 ≡ n = omega arith in
    rw (e, glyph_digit n h, lt-ltb n 10 h)
decimal_digits (suc (suc k)) (suc most) n m f =
    let p : 10 ^ suc (suc k) ≡ 10 * 10 ^ suc k = pow-succ' 10 (suc k) in
    let q : 10 ^ suc k ≡ 10 * 10 ^ k = pow-succ' 10 k in
    let a : n < 10 ^ suc (suc k) = f.1 in
    let b : 10 ^ k * 10 ≤ n = simp unary_clauses at (f.2 (omega arith)) in
    let t : 10 ≤ n = omega (arith, few k) in
    let g : n % 10 < 10 = omega arith in
    let h : IsDigitCount 10 1 (n / 10) (suc k) = (omega arith, omega arith, λ _. simp unary_clauses (omega arith)) in
    rw (
      glyph_digit (n % 10) g,
      le-ltb n 10 t,
      decimal_digits (suc k) most (n / 10) (omega arith) h,
    )

-- the fewest digits that hold n are n in decimal
pub decimal_fewest : (n k : ℕ) (text : List ℕ) → IsDigitCount 10 1 n k → text ≡ last_digits 10 k n → text ≡ decimal_of n
unfolding decimal_of
decimal_fewest n zero text f e = absurd (let z : ⊥ = omega (arith, f.0) in z)
decimal_fewest n (suc zero) text f e = e ∙ decimal_digits 1 (suc n) n (omega arith) f
decimal_fewest n (suc (suc k)) text f e =
    let b : 10 ^ k * 10 ≤ n = simp unary_clauses at (f.2 (omega arith)) in
    e ∙ decimal_digits (suc (suc k)) (suc n) n (omega (arith, few k)) f

pub text_none : (s : List ℕ) → length s ≡ 0 → dash ∷ [] ≡ hex_text s
unfolding hex_text
text_none [] h = refl
text_none (b ∷ s) h = absurd (let z : ⊥ = omega arith in z)

pub text_some : (s : List ℕ) → (length s ≡ 0 → ⊥) → pairs_of s ≡ hex_text s
unfolding hex_text
text_some [] h = absurd (h refl)
text_some (b ∷ s) h = refl

-- what was said of a text is said of one that is equal: the next place, and what is laid
pub next_as : (n k r : ℕ) (s t : List ℕ) → s ≡ t → r ≡ after n k (length s) → r ≡ after n k (length t)
next_as n k r s t e h = rw (← e) h

pub laid_as : (xs ys : List ℕ) (k : ℕ) (s t : List ℕ) → s ≡ t → ys ≡ laid xs k s → ys ≡ laid xs k t
laid_as xs ys k s t e h = rw (← e) h

-- .. both at once
pub said_as : (xs ys : List ℕ) (k r : ℕ) (s t : List ℕ) → s ≡ t → (r ≡ after (length xs) k (length s)) × (ys ≡ laid xs k s)
    → (r ≡ after (length xs) k (length t)) × (ys ≡ laid xs k t)
said_as xs ys k r s t e h = rw (← e) h
