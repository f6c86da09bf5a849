-- The division bit by bit is the loop byte by byte: a step is linear over the exclusive or, so that eight bits of a byte may be added at once.
use mathlib.Core.Path.{◌≡◌, refl, sym, ap, ◌∙◌}
use mathlib.Core.List.{List, [], ◌∷◌, ◌++◌}
use mathlib.Core.Bool.{Bool, true, false}
use Prim.Native.Nat.{ℕ, zero, suc, ◌+◌, ◌*◌, ◌/◌, ◌%◌, ◌^◌, ◌<◌, ◌≤◌}
use native.Mathlib.Nat.{add-zero, zero-add, pow-suc}
use native.Mathlib.Omega.{arith}
use lib.Dec.{ltb}
use lib.Pow.{pow_mono}
use lib.Bits.{bit_xor, differ, xor_step, xor_zero_l, xor_zero_r, xor_comm, xor_lt, xor_shifted, xor_block, xor_shr, xor_mod}
use borrow.Author.Tests.{lt-ltb, le-ltb, ltb-true, ltb-false}
use Rattle.refusal.specs.Said.{pick}
use Rattle.wire.specs.Bytes.{byte_at, Bytes}
use Rattle.crc.specs.Crc.{start, bits, bits_of, brought_down, remainder, started, crc_of}
use Rattle.crc.specs.Steps.{shifted, shifted_by, stepped}

-- ---- exclusive or is associative
differ_assoc : (a b c : ℕ) → a < 2 → b < 2 → c < 2 → differ (differ a b) c ≡ differ a (differ b c)
differ_assoc zero b c h i j = refl
differ_assoc (suc zero) zero c h i j = refl
differ_assoc (suc zero) (suc zero) zero h i j = refl
differ_assoc (suc zero) (suc zero) (suc zero) h i j = refl
differ_assoc (suc zero) (suc zero) (suc (suc c)) h i j = absurd (let z : ⊥ = omega arith in z)
differ_assoc (suc zero) (suc (suc b)) c h i j = absurd (let z : ⊥ = omega arith in z)
differ_assoc (suc (suc a)) b c h i j = absurd (let z : ⊥ = omega arith in z)

differ_lt : (a b : ℕ) → a < 2 → b < 2 → differ a b < 2
differ_lt zero b h i = i
differ_lt (suc zero) zero h i = h
differ_lt (suc zero) (suc zero) h i = omega arith
differ_lt (suc zero) (suc (suc b)) h i = absurd (let z : ⊥ = omega arith in z)
differ_lt (suc (suc a)) b h i = absurd (let z : ⊥ = omega arith in z)

half_lt : (k a : ℕ) → a < 2 ^ suc k → a / 2 < 2 ^ k
half_lt k a h = let e : 2 ^ suc k ≡ 2 ^ k * 2 = pow-suc 2 k in omega arith

xor_low : (a b : ℕ) → bit_xor a b % 2 ≡ differ (a % 2) (b % 2)
xor_low a b = low (bit_xor a b) (bit_xor (a / 2) (b / 2)) (differ (a % 2) (b % 2)) (xor_step a b) (differ_lt (a % 2) (b % 2) (omega arith) (omega arith))
  where
    low : (x y d : ℕ) → x ≡ y * 2 + d → d < 2 → x % 2 ≡ d
    low x y d e h = omega arith

xor_half : (a b : ℕ) → bit_xor a b / 2 ≡ bit_xor (a / 2) (b / 2)
xor_half a b = xor_shr a b 1

assoc : (k a b c : ℕ) → a < 2 ^ k → b < 2 ^ k → c < 2 ^ k → bit_xor (bit_xor a b) c ≡ bit_xor a (bit_xor b c)
assoc zero a b c h i j =
    let x : a ≡ 0 = omega arith in
    let y : b ≡ 0 = omega arith in
    let z : c ≡ 0 = omega arith in
    rw (x, y, z)
assoc (suc k) a b c h i j =
    xor_step (bit_xor a b) c
    ∙ ap (λ (n : ℕ). bit_xor n (c / 2) * 2 + differ (bit_xor a b % 2) (c % 2)) (xor_half a b)
    ∙ ap (λ (n : ℕ). n * 2 + differ (bit_xor a b % 2) (c % 2)) (assoc k (a / 2) (b / 2) (c / 2) (half_lt k a h) (half_lt k b i) (half_lt k c j))
    ∙ ap (λ (n : ℕ). bit_xor (a / 2) (bit_xor (b / 2) (c / 2)) * 2 + differ n (c % 2)) (xor_low a b)
    ∙ ap (λ (n : ℕ). bit_xor (a / 2) (bit_xor (b / 2) (c / 2)) * 2 + n)
    (differ_assoc (a % 2) (b % 2) (c % 2) (omega arith) (omega arith) (omega arith) ∙ ap (λ (n : ℕ). differ (a % 2) n) (sym (xor_low b c)))
    ∙ ap (λ (n : ℕ). bit_xor (a / 2) n * 2 + differ (a % 2) (bit_xor b c % 2)) (sym (xor_half b c))
    ∙ sym (xor_step a (bit_xor b c))

-- ---- bytes
unfoldable Byte : ℕ → Type 0
Byte n = n < 256

xor_byte : (a b : ℕ) → Byte a → Byte b → Byte (bit_xor a b)
unfolding Byte
xor_byte a b h i = xor_lt 8 a b h i

xor_assoc : (a b c : ℕ) → Byte a → Byte b → Byte c → bit_xor (bit_xor a b) c ≡ bit_xor a (bit_xor b c)
unfolding Byte
xor_assoc a b c h i j = assoc 8 a b c h i j

-- (a + b) + (c + d) = (a + c) + (b + d)
swap : (a b c d : ℕ) → Byte a → Byte b → Byte c → Byte d → bit_xor (bit_xor a b) (bit_xor c d) ≡ bit_xor (bit_xor a c) (bit_xor b d)
swap a b c d A B C D =
    xor_assoc a b (bit_xor c d) A B (xor_byte c d C D)
    ∙ ap (bit_xor a) (sym (xor_assoc b c d B C D) ∙ ap (λ (n : ℕ). bit_xor n d) (xor_comm b c) ∙ xor_assoc c b d C B D)
    ∙ sym (xor_assoc a c (bit_xor b d) A C (xor_byte b d B D))

-- a step, with no test
shifted-is : (c : ℕ) → Byte c → shifted c ≡ bit_xor (c % 128 * 2) (c / 128 * 7)
unfolding shifted Byte
shifted-is c h = go (ltb c 128) refl
  where
    go : (b : Bool) → ltb c 128 ≡ b → pick b (c * 2) (bit_xor (c % 128 * 2) 7) ≡ bit_xor (c % 128 * 2) (c / 128 * 7)
    go true e =
        let k : c < 128 = ltb-true c 128 e in
        let m : c % 128 ≡ c = omega arith in
        let d : c / 128 ≡ 0 = omega arith in
        rw (m, d) (sym (xor_zero_r (c * 2)))
    go false e =
        let k : 128 ≤ c = ltb-false c 128 e in
        let d : c / 128 ≡ 1 = omega arith in
        rw d

twice : (a b : ℕ) → bit_xor a b * 2 ≡ bit_xor (a * 2) (b * 2)
twice a b =
    let p : a * 2 / 2 ≡ a = omega arith in
    let q : b * 2 / 2 ≡ b = omega arith in
    let m : a * 2 % 2 ≡ 0 = omega arith in
    let n : b * 2 % 2 ≡ 0 = omega arith in
    let e : bit_xor (a * 2 / 2) (b * 2 / 2) * 2 + differ (a * 2 % 2) (b * 2 % 2) ≡ bit_xor a b * 2 = rw (p, q, m, n) (add-zero (bit_xor a b * 2)) in
    sym (xor_step (a * 2) (b * 2) ∙ e)

seven : (a b : ℕ) → a < 2 → b < 2 → bit_xor a b * 7 ≡ bit_xor (a * 7) (b * 7)
seven zero b h i = refl
seven (suc zero) zero h i = refl
seven (suc zero) (suc zero) h i = refl
seven (suc zero) (suc (suc b)) h i = absurd (let z : ⊥ = omega arith in z)
seven (suc (suc a)) b h i = absurd (let z : ⊥ = omega arith in z)

-- a step of a sum is the sum of the steps
shifted_xor : (a b : ℕ) → Byte a → Byte b → shifted (bit_xor a b) ≡ bit_xor (shifted a) (shifted b)
unfolding Byte
shifted_xor a b A B =
    let x : Byte (a % 128 * 2) = omega arith in
    let y : Byte (b % 128 * 2) = omega arith in
    let u : Byte (a / 128 * 7) = omega arith in
    let v : Byte (b / 128 * 7) = omega arith in
    let p : a / 128 < 2 = omega arith in
    let q : b / 128 < 2 = omega arith in
    shifted-is (bit_xor a b) (xor_byte a b A B)
    ∙ ap (λ (n : ℕ). bit_xor (n * 2) (bit_xor a b / 128 * 7)) (xor_mod a b 7)
    ∙ ap (λ (n : ℕ). bit_xor n (bit_xor a b / 128 * 7)) (twice (a % 128) (b % 128))
    ∙ ap (λ (n : ℕ). bit_xor (bit_xor (a % 128 * 2) (b % 128 * 2)) (n * 7)) (xor_shr a b 7)
    ∙ ap (bit_xor (bit_xor (a % 128 * 2) (b % 128 * 2))) (seven (a / 128) (b / 128) p q)
    ∙ swap (a % 128 * 2) (b % 128 * 2) (a / 128 * 7) (b / 128 * 7) x y u v
    ∙ ap (λ (n : ℕ). bit_xor n (bit_xor (b % 128 * 2) (b / 128 * 7))) (sym (shifted-is a A))
    ∙ ap (bit_xor (shifted a)) (sym (shifted-is b B))

-- the next bit brought down: a step, and the bit at the end
brought : (r t : ℕ) → Byte r → t < 2 → brought_down r t ≡ bit_xor (shifted r) t
unfolding brought_down shifted Byte
brought r t h i = go (ltb r 128) refl
  where
    go : (b : Bool) → ltb r 128 ≡ b → pick (ltb (r * 2 + t) 256) (r * 2 + t) (bit_xor (r * 2 + t) 263) ≡ bit_xor (pick b (r * 2) (bit_xor (r % 128 * 2) 7)) t
    go true e =
        let k : r < 128 = ltb-true r 128 e in
        rw (lt-ltb (r * 2 + t) 256 (let z : r * 2 + t < 256 = omega arith in z)) (sym (xor_shifted r 1 t i))
    go false e =
        let k : 128 ≤ r = ltb-false r 128 e in
        let u = r % 128 * 2 in
        let n : r * 2 + t ≡ 1 * 2 ^ 8 + (u + t) = omega arith in
        let m : u + t < 256 = omega arith in
        let U : Byte u = omega arith in
        let Y : Byte t = omega arith in
        let W : Byte 7 = omega arith in
        rw (le-ltb (r * 2 + t) 256 (let z : 256 ≤ r * 2 + t = omega arith in z))
        (ap (λ (x : ℕ). bit_xor x 263) n
        ∙ xor_block 8 1 1 (u + t) 7 m W
        ∙ zero-add (bit_xor (u + t) 7)
        ∙ ap (λ (x : ℕ). bit_xor x 7) (sym (xor_shifted (r % 128) 1 t i))
        ∙ xor_assoc u t 7 U Y W
        ∙ ap (bit_xor u) (xor_comm t 7)
        ∙ sym (xor_assoc u 7 t U W Y))

shifted-byte : (r : ℕ) → Byte r → Byte (shifted r)
unfolding Byte
shifted-byte r h = rw (shifted-is r h) (xor_lt 8 (r % 128 * 2) (r / 128 * 7) (omega arith) (omega arith))

by_byte : (j r : ℕ) → Byte r → Byte (shifted_by j r)
unfolding shifted_by
by_byte zero r h = h
by_byte (suc j) r h = by_byte j (shifted r) (shifted-byte r h)

by_last : (j r : ℕ) → shifted_by (suc j) r ≡ shifted (shifted_by j r)
unfolding shifted_by
by_last zero r = refl
by_last (suc j) r = by_last j (shifted r)

remainder-append : (xs ys : List ℕ) (r : ℕ) → remainder r (xs ++ ys) ≡ remainder (remainder r xs) ys
unfolding remainder
remainder-append [] ys r = refl
remainder-append (x ∷ xs) ys r = remainder-append xs ys (brought_down r x)

last : (r t : ℕ) → remainder r (t ∷ []) ≡ brought_down r t
unfolding remainder
last r t = refl

doubled : (c : ℕ) → c < 128 → shifted c ≡ c * 2
unfolding shifted
doubled c h = rw (lt-ltb c 128 h)

-- a number from its upper bits and its lowest
rejoined : (d : ℕ) → d / 2 < 128 → bit_xor (shifted (d / 2)) (d % 2) ≡ d
rejoined d h =
    let T : d % 2 < 2 = omega arith in
    ap (λ (n : ℕ). bit_xor n (d % 2)) (doubled (d / 2) h) ∙ xor_shifted (d / 2) 1 (d % 2) T ∙ (let z : d / 2 * 2 + d % 2 ≡ d = omega arith in z)

bits_none : (r : ℕ) → remainder r [] ≡ shifted_by 0 r
unfolding remainder shifted_by
bits_none r = refl

-- j bits of d brought down: j steps, and d at the end
bits_down : (j r d : ℕ) → Byte r → j ≤ 8 → d < 2 ^ j → remainder r (bits j d) ≡ bit_xor (shifted_by j r) d
unfolding bits Byte
bits_down zero r d h k i = let z : d ≡ 0 = omega arith in bits_none r ∙ sym (xor_zero_r (shifted_by 0 r)) ∙ ap (bit_xor (shifted_by 0 r)) (sym z)
bits_down (suc j) r d h k i =
    let H : d / 2 < 2 ^ j = half_lt j d i in
    let s = shifted_by j r in
    let S = by_byte j r h in
    let seven-most : j ≤ 7 = omega arith in
    let small : 2 ^ j ≤ 2 ^ 7 = pow_mono seven-most in
    let x : d / 2 < 128 = omega arith in
    let X : d / 2 < 256 = omega arith in
    let T : d % 2 < 2 = omega arith in
    let Y : d % 2 < 256 = omega arith in
    remainder-append (bits j (d / 2)) (d % 2 ∷ []) r
    ∙ ap (λ (n : ℕ). remainder n (d % 2 ∷ [])) (bits_down j r (d / 2) h (omega arith) H)
    ∙ last (bit_xor s (d / 2)) (d % 2)
    ∙ brought (bit_xor s (d / 2)) (d % 2) (xor_byte s (d / 2) S X) T
    ∙ ap (λ (n : ℕ). bit_xor n (d % 2)) (shifted_xor s (d / 2) S X)
    ∙ xor_assoc (shifted s) (shifted (d / 2)) (d % 2) (shifted-byte s S) (shifted-byte (d / 2) X) Y
    ∙ ap (bit_xor (shifted s)) (rejoined d x)
    ∙ ap (λ (n : ℕ). bit_xor n d) (sym (by_last j r))

-- ---- the message

head_byte : (b : ℕ) (bs : List ℕ) → Bytes (b ∷ bs) → Byte b
unfolding Bytes byte_at Byte
head_byte b bs u = u 0

tail_bytes : (b : ℕ) (bs : List ℕ) → Bytes (b ∷ bs) → Bytes bs
unfolding Bytes byte_at
tail_bytes b bs u = λ i. u (suc i)

byte_down : (r b : ℕ) (ts : List ℕ) → Byte r → Byte b → remainder r (bits 8 b ++ ts) ≡ remainder (bit_xor (shifted_by 8 r) b) ts
unfolding Byte
byte_down r b ts R B = remainder-append (bits 8 b) ts r ∙ ap (λ (n : ℕ). remainder n ts) (bits_down 8 r b R (omega arith) B)

-- the rest of the message, and the byte of zeros
message : (bs : List ℕ) (r : ℕ) → Bytes bs → Byte r → remainder r (bits_of (bs ++ (0 ∷ []))) ≡ stepped (shifted_by 8 r) bs
unfolding bits_of stepped remainder Byte
message [] r u R = byte_down r 0 [] R (omega arith) ∙ xor_zero_r (shifted_by 8 r)
message (b ∷ bs) r u R =
    let B = head_byte b bs u in
    byte_down r b (bits_of (bs ++ (0 ∷ []))) R B
    ∙ message bs (bit_xor (shifted_by 8 r) b) (tail_bytes b bs u) (xor_byte (shifted_by 8 r) b (by_byte 8 r R) B)

start_nought : shifted_by 8 0 ≡ 0
unfolding shifted_by shifted
start_nought = refl

-- THE CRC BYTE BY BYTE, from the start value
pub crc_steps : (bs : List ℕ) → Bytes bs → crc_of bs ≡ stepped start bs
unfolding crc_of stepped bits_of started remainder Byte
crc_steps [] u = byte_down 0 255 [] (omega arith) (omega arith) ∙ ap (λ (n : ℕ). bit_xor n 255) start_nought
crc_steps (b ∷ bs) u =
    let F : Byte 255 = omega arith in
    let x = bit_xor 255 b in
    let X = xor_byte 255 b F (head_byte b bs u) in
    byte_down 0 x (bits_of (bs ++ (0 ∷ []))) (omega arith) X
    ∙ ap (λ (n : ℕ). remainder (bit_xor n x) (bits_of (bs ++ (0 ∷ [])))) start_nought
    ∙ ap (λ (n : ℕ). remainder n (bits_of (bs ++ (0 ∷ [])))) (xor_zero_l x)
    ∙ message bs x (tail_bytes b bs u) X
