-- Laws of bytes in lists, which every crate above cites. Each follows from the kit's laws of take, drop and append.
use Prim.Native.Nat.{ℕ, zero, suc, ◌+◌, ◌-◌, ◌*◌, ◌/◌, ◌%◌, ◌≤◌, ◌<◌, min}
use native.Mathlib.Nat.{zero-add, add-zero, add-suc, suc-add, add_assoc, min-zero}
use native.Mathlib.Numerals.{add-one, unary_clauses}
use native.Mathlib.Omega.{arith}
use mathlib.Core.Path.{◌≡◌, refl, sym, ap}
use mathlib.Core.Bool.{Bool, true, false}
use mathlib.Core.List.{List, [], ◌∷◌, ◌++◌, append_assoc, append-nil}
use lib.Dec.{leb, ltb}
use lib.ListN.{length, get_or, set, take, drop, length-append, length-take, length-drop, get_or-eq_default, take-append-drop}
use lib.Seq.{drop-cons, set_at, take_at, drop_at, drop-drop, take_all, take-nil, take-append-le, take-append-add, get_or-append-add, get_or-drop}
use borrow.Author.Tests.{ltb-true, ltb-false, leb-true, leb-false}
use borrow.Rule.Slice.PartMut.{put_mid}
use Rattle.wire.specs.Bytes.{byte_at, le16, le32, bytes16, bytes32, Bytes, span, filled, overlay, laid}

-- ---- a byte

-- within the list the default does not matter
pub byte_in_lem : (s : List ℕ) (i : ℕ) → i < length s → get_or s i 0 ≡ byte_at s i
unfolding byte_at
byte_in_lem [] i h = omega arith
byte_in_lem (b ∷ s) zero h = refl
byte_in_lem (b ∷ s) (suc i) h = byte_in_lem s i (omega arith)

pub byte-out : (s : List ℕ) (i : ℕ) → length s ≤ i → 255 ≡ byte_at s i
unfolding byte_at
byte-out s i h = sym (get_or-eq_default s 255 h)

-- .. and behind another list it is found as far behind
pub byte-behind : (pre t : List ℕ) (k : ℕ) → byte_at (pre ++ t) (length pre + k) ≡ byte_at t k
unfolding byte_at
byte-behind pre t k = get_or-append-add pre t k 255

-- .. and of what stands from i on as far on
pub byte_dropped : (s : List ℕ) (i k : ℕ) → byte_at (drop i s) k ≡ byte_at s (i + k)
unfolding byte_at
byte_dropped s i k = get_or-drop i s k 255

-- the elements of a lent slice are bytes, so those of its list are
pub bytes-known : (s : List ℕ) → ((i : ℕ) → get_or s i 0 < 256) → Bytes s
unfolding Bytes
bytes-known s h i = go (ltb i (length s)) refl
  where
    go : (b : Bool) → ltb i (length s) ≡ b → byte_at s i < 256
    go true e = rw (← byte_in_lem s i (ltb-true _ _ e)) (h i)
    go false e = rw (← byte-out s i (ltb-false _ _ e)) (omega arith)

-- ---- numbers of bytes

-- they lie below their width's bound
pub le16-fits : (s : List ℕ) → Bytes s → (i : ℕ) → le16 s i < 65536
unfolding Bytes
le16-fits s b i = omega (arith, b i, b (i + 1))

pub le32-fits : (s : List ℕ) → Bytes s → (i : ℕ) → le32 s i < 4294967296
le32-fits s b i = omega (arith, le16-fits s b i, le16-fits s b (i + 2))

-- a number is that of its bytes
pub bytes16-back : (n : ℕ) → n < 65536 → le16 (bytes16 n) 0 ≡ n
unfolding byte_at
bytes16-back n h = omega arith

pub bytes32-back : (n : ℕ) → n < 4294967296 → le32 (bytes32 n) 0 ≡ n
unfolding byte_at
bytes32-back n h =
    let top : n / 16777216 % 256 ≡ n / 16777216 = omega arith in
    let low : n % 256 + 256 * (n / 256 % 256) ≡ n % 65536 = omega arith in
    let high : n / 65536 % 256 + 256 * (n / 16777216) ≡ n / 65536 = omega arith in
    rw top (omega (arith, low, high))

-- ---- a stretch of bytes, and a buffer filled from it

pub length-span : (s : List ℕ) (i n : ℕ) → length (span s i n) ≡ n
unfolding span
length-span s i zero = refl
length-span s i (suc n) = ap suc (length-span s (suc i) n)

pub span-add : (s : List ℕ) (i n m : ℕ) → span s i (n + m) ≡ span s i n ++ span s (i + n) m
unfolding span
span-add s i zero m = simp (zero-add, add-zero)
span-add s i (suc n) m = simp (suc-add, add-suc) (ap (◌∷◌ (byte_at s i)) (simp (suc-add) at (span-add s (suc i) n m)))

-- one store more
pub filled_more : (s : List ℕ) (i n : ℕ) (buf : List ℕ) → n < length buf →
    set (filled s i n buf) n (byte_at s (i + n)) ≡ filled s i (n + 1) buf
unfolding filled span
filled_more s i n buf h =
    rw (drop-cons buf n 0 h, set_at _ _ _ _ n (length-span s i n), span-add, add-one n, append_assoc)

pub filled_none : (s : List ℕ) (i : ℕ) (buf : List ℕ) → buf ≡ filled s i 0 buf
unfolding filled span
filled_none s i buf = refl

-- ---- a list laid over another

-- what stands before the end of what is laid
pub front : {A : Type 0} → (xs : List A) (at : ℕ) (ys : List A) → at + length ys ≤ length xs → length (take at xs ++ ys) ≡ at + length ys
front xs at ys h = simp (length-append, length-take) (omega arith)

pub length-overlay : {A : Type 0} → (xs : List A) (at : ℕ) (ys : List A) → at + length ys ≤ length xs → length (overlay xs at ys) ≡ length xs
unfolding overlay
length-overlay xs at ys h = simp (length-append, length-take, length-drop) (omega arith)

-- a second list laid just behind the first is the two laid as one
pub overlay-next : {A : Type 0} → (xs : List A) (at : ℕ) (ys zs : List A) → at + length ys ≤ length xs
    → overlay (overlay xs at ys) (at + length ys) zs ≡ overlay xs at (ys ++ zs)
unfolding overlay
overlay-next xs at ys zs h =
    let f = front xs at ys h in
    rw (
      take_at (take at xs ++ ys) (drop (at + length ys) xs) (at + length ys),
      ← drop-drop (length zs) (at + length ys) (take at xs ++ ys ++ drop (at + length ys) xs),
      drop_at (take at xs ++ ys) (drop (at + length ys) xs) (at + length ys),
      drop-drop,
      length-append,
      append_assoc (take at xs) ys zs,
      add_assoc,
    )

-- what a callee left in `&mut xs[a..a + k]`, put back in the whole, is laid over it
pub overlay_part : {A : Type 0} → (a k : ℕ) (xs ys zs : List A) → ys ≡ zs → length ys ≡ k → put_mid a k xs ys ≡ overlay xs a zs
unfolding overlay
overlay_part a k xs ys zs e h = rw (drop-drop, append_assoc, ← e, h)

-- nothing laid changes nothing
pub overlay-none : {A : Type 0} → (xs : List A) (at : ℕ) → overlay xs at [] ≡ xs
unfolding overlay
overlay-none xs at = rw (append-nil, add-zero) (take-append-drop at xs)

-- what has room is laid whole
pub laid-whole : {A : Type 0} → (xs : List A) (at : ℕ) (ys : List A) → at + length ys ≤ length xs → laid xs at ys ≡ overlay xs at ys
unfolding laid
laid-whole xs at ys h =
    let k : length ys ≤ length xs - at = omega arith in
    rw (take_all (length xs - at) ys k)

-- behind the end nothing is laid
pub laid-past : {A : Type 0} → (xs : List A) (at : ℕ) (ys : List A) → length xs ≤ at → laid xs at ys ≡ xs
unfolding laid
laid-past xs at ys h =
    let k : length xs - at ≡ 0 = omega arith in
    rw k (overlay-none xs at)

pub laid_none : {A : Type 0} → (xs : List A) (at : ℕ) → laid xs at [] ≡ xs
unfolding laid
laid_none xs at = rw (take-nil (length xs - at)) (overlay-none xs at)

pub length-laid : {A : Type 0} → (xs : List A) (at : ℕ) (ys : List A) → length (laid xs at ys) ≡ length xs
unfolding laid
length-laid xs at ys = step (leb at (length xs)) refl
  where
    step : (t : Bool) → leb at (length xs) ≡ t → length (overlay xs at (take (length xs - at) ys)) ≡ length xs
    step true e =
        let h : at ≤ length xs = leb-true _ _ e in
        length-overlay xs at (take (length xs - at) ys) (omega (arith, length-take (length xs - at) ys))
    step false e =
        let h : length xs < at = leb-false _ _ e in
        ap length (laid-past xs at ys (omega arith))

-- a second list laid just behind the first is the two laid as one
pub laid-behind : {A : Type 0} → (xs : List A) (at : ℕ) (ys zs : List A) → at + length ys ≤ length xs
    → laid (laid xs at ys) (at + length ys) zs ≡ laid xs at (ys ++ zs)
unfolding laid
laid-behind xs at ys zs h =
    let d : length xs - at ≡ length ys + (length xs - (at + length ys)) = omega arith in
    rw (
      laid-whole xs at ys h,
      length-overlay xs at ys h,
      overlay-next xs at ys (take (length xs - (at + length ys)) zs) h,
      d,
      take-append-add ys zs (length xs - (at + length ys)),
    )

-- .. and is not laid at all where the first reaches the end
pub laid-cut : {A : Type 0} → (xs : List A) (at : ℕ) (ys zs : List A) → length xs ≤ at + length ys → laid xs at (ys ++ zs) ≡ laid xs at ys
unfolding laid
laid-cut xs at ys zs h =
    let d : length xs - at ≤ length ys = omega arith in
    rw (take-append-le (length xs - at) ys zs d)

-- the first min of both lengths is the same part as the room's
take_min : {A : Type 0} → (k : ℕ) (ys : List A) → take (min (length ys) k) ys ≡ take k ys
take_min zero ys = rw min-zero
take_min (suc k) [] = simp unary_clauses
take_min (suc k) (y ∷ ys) = simp unary_clauses (ap (◌∷◌ y) (take_min k ys))

-- laying by that count
pub laid-least : {A : Type 0} → (xs : List A) (at : ℕ) (ys zs : List A) (n : ℕ) → n ≡ min (length ys) (length xs - at)
    → zs ≡ overlay xs at (take n ys) → zs ≡ laid xs at ys
unfolding laid
laid-least xs at ys zs n m e = rw (e, m, take_min)

-- what lays a part of one list over another
pub ruleset laying = (laid-least, laid-past, overlay_part)
