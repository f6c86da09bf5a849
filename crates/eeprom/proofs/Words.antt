-- A write, in closed form: how the loop comes to it word by word, and what follows from it. The loop stands at an even number n of bytes; what it has laid is the first n of the padded data.
use Prim.Native.Nat.{ℕ, zero, suc, ◌+◌, ◌-◌, ◌*◌, ◌/◌, ◌%◌, ◌≤◌, ◌<◌, min}
use native.Mathlib.Omega.{arith}
use mathlib.Core.Path.{◌≡◌, refl, sym, ap, ◌∙◌}
use mathlib.Core.List.{List, [], ◌∷◌, ◌++◌, append-nil}
use mathlib.Core.Bool.{Bool, true, false}
use lib.Dec.{leb, ltb}
use lib.ListN.{length, get_or, take, replicate, length-append, length-replicate}
use lib.Seq.{length-take-le, take-length}
use borrow.Author.Tests.{lt-ltb, le-ltb, ltb-true, le-leb, lt-leb, leb-true, leb-false}
use Rattle.refusal.specs.Said.{Said, gives, absent, refuses, pick}
use Rattle.wire.specs.Bytes.{overlay}
use Rattle.wire.proofs.Laws.{length-overlay, overlay-next, overlay-none}
use Rattle.eeprom.specs.Image.{image_most, fine}
use Rattle.eeprom.specs.Range.{words_for, word_start, padded, words_asked, words_in, words_counted, words_written, stopped, write_in, write_said, write_pos, words_laid, write_image}
use Rattle.eeprom.proofs.Laws.{Bounds, bounds_of, fine-bounds}

-- ---- the padded data

-- it is as long as its words
pub length-padded : (bytes : List ℕ) → length (padded bytes) ≡ 2 * words_for (length bytes)
unfolding padded
length-padded bytes =
    let a : length (bytes ++ replicate (length bytes % 2) 0) ≡ length bytes + length (replicate {A = ℕ} (length bytes % 2) 0) = length-append bytes (replicate (length bytes % 2) 0) in
    let z : length (replicate {A = ℕ} (length bytes % 2) 0) ≡ length bytes % 2 = length-replicate (length bytes % 2) 0 in
    omega arith

-- a byte of it is the data's, and 0 past that
zeros-at : (k i : ℕ) → get_or (replicate {A = ℕ} k 0) i 0 ≡ 0
zeros-at zero i = refl
zeros-at (suc k) zero = refl
zeros-at (suc k) (suc i) = zeros-at k i

behind-at : (bytes : List ℕ) (k i : ℕ) → get_or (bytes ++ replicate k 0) i 0 ≡ get_or bytes i 0
behind-at [] k i = zeros-at k i
behind-at (b ∷ bytes) k zero = refl
behind-at (b ∷ bytes) k (suc i) = behind-at bytes k i

-- two bytes more of a list
two-more : (xs : List ℕ) (n : ℕ) → n + 2 ≤ length xs → take (n + 2) xs ≡ take n xs ++ (get_or xs n 0 ∷ get_or xs (n + 1) 0 ∷ [])
two-more [] n h = absurd (let z : ⊥ = omega arith in z)
two-more (a ∷ []) zero h = absurd (let z : ⊥ = omega arith in z)
two-more (a ∷ b ∷ xs) zero h = refl
two-more (a ∷ xs) (suc n) h =
    let one : suc n + 1 ≡ suc (n + 1) = omega arith in
    let two : suc n + 2 ≡ suc (n + 2) = omega arith in
    let k : n + 2 ≤ length xs = omega arith in
    rw (one, two, two-more xs n k)

-- the next word of the data
next_word : (bytes : List ℕ) (n : ℕ) → n + 2 ≤ 2 * words_for (length bytes)
    → take (n + 2) (padded bytes) ≡ take n (padded bytes) ++ (get_or bytes n 0 ∷ get_or bytes (n + 1) 0 ∷ [])
unfolding padded
next_word bytes n h =
    let k : n + 2 ≤ length (bytes ++ replicate (length bytes % 2) 0) = rw (length-padded bytes) h in
    rw (two-more (bytes ++ replicate (length bytes % 2) 0) n k, behind-at bytes (length bytes % 2) n, behind-at bytes (length bytes % 2) (n + 1))

-- ---- how many words: n bytes are laid, and the loop stands at pos + n

-- m is the smallest of the words asked for, those that can be counted, and those in the image
written_asked : (size pos end k : ℕ) → words_written size pos end k ≤ words_asked pos end k
unfolding words_written
written_asked size pos end k = omega arith

written-counted : (size pos end k : ℕ) → words_written size pos end k ≤ words_counted pos
unfolding words_written
written-counted size pos end k = omega arith

written_in : (size pos end k : ℕ) → words_written size pos end k ≤ words_in size pos
unfolding words_written
written_in size pos end k = omega arith

written-least : (size pos end k m : ℕ) → m ≤ words_asked pos end k → m ≤ words_counted pos → m ≤ words_in size pos → m ≤ words_written size pos end k
unfolding words_written
written-least size pos end k m a b c = omega arith

-- .. and so it has no more than the data, and than the image behind the position
written_data : (size pos end k : ℕ) → words_written size pos end k ≤ words_for k
unfolding words_asked
written_data size pos end k =
    let a = written_asked size pos end k in
    omega arith

written_image : (size pos end k : ℕ) → words_written size pos end k ≤ size / 2 - pos / 2
unfolding words_in
written_image size pos end k = written_in size pos end k

-- one more word, where the position is before the end and a byte is left, the next position is within the limit, and the word lies in the image
asked_more : (pos end k n : ℕ) → n % 2 ≡ 0 → pos + n < end → n < k → n + 2 ≤ 2 * words_asked pos end k
unfolding words_asked
asked_more pos end k n e h i =
    let a : n + 2 ≤ 2 * words_for (end - pos) = omega arith in
    let b : n + 2 ≤ 2 * words_for k = omega arith in
    omega arith

counted-more : (pos n : ℕ) → n % 2 ≡ 0 → pos + n + 2 ≤ image_most → n + 2 ≤ 2 * words_counted pos
unfolding words_counted
counted-more pos n e h = omega arith

image_more : (size pos n : ℕ) → n % 2 ≡ 0 → word_start (pos + n) + 2 ≤ size → n + 2 ≤ 2 * words_in size pos
unfolding words_in
image_more size pos n e h = omega arith

pub written-more : (size pos end k n : ℕ) → n % 2 ≡ 0 → pos + n < end → n < k → pos + n + 2 ≤ image_most → word_start (pos + n) + 2 ≤ size → n + 2 ≤ 2 * words_written size pos end k
written-more size pos end k n e h i l j =
    let a : n + 2 ≤ 2 * words_asked pos end k = asked_more pos end k n e h i in
    let b : n + 2 ≤ 2 * words_counted pos = counted-more pos n e l in
    let c : n + 2 ≤ 2 * words_in size pos = image_more size pos n e j in
    let m : n / 2 + 1 ≤ words_written size pos end k = written-least size pos end k (n / 2 + 1) (omega arith) (omega arith) (omega arith) in
    omega arith

-- all that are asked for, where the position is at the end, or no byte is left
pub asked_end : (pos end k n : ℕ) → n % 2 ≡ 0 → end ≤ pos + n → 2 * words_asked pos end k ≤ n
unfolding words_asked
asked_end pos end k n e h =
    let a : 2 * words_for (end - pos) ≤ n = omega arith in
    omega arith

pub asked_data : (pos end k n : ℕ) → n % 2 ≡ 0 → k ≤ n → 2 * words_asked pos end k ≤ n
unfolding words_asked
asked_data pos end k n e h =
    let a : 2 * words_for k ≤ n = omega arith in
    omega arith

-- the loop ends: it has written m words, and m are asked for
pub written_all : (size pos end k n : ℕ) → n ≤ 2 * words_written size pos end k → 2 * words_asked pos end k ≤ n
    → (n ≡ 2 * words_written size pos end k) × (write_in size pos end k ≡ gives (n ∷ []))
unfolding write_in
written_all size pos end k n h a =
    let w : words_written size pos end k ≤ words_asked pos end k = written_asked size pos end k in
    let e : 2 * words_written size pos end k ≡ n = omega arith in
    let l : words_asked pos end k ≤ words_written size pos end k = omega arith in
    (sym e, rw (le-ltb (words_written size pos end k) (words_asked pos end k) l, e))

-- the loop stops: it has written m words, and more are asked for
stops_at : (size pos end k n : ℕ) → n % 2 ≡ 0 → n ≤ 2 * words_written size pos end k → pos + n < end → n < k → 2 * words_written size pos end k ≤ n
    → (n ≡ 2 * words_written size pos end k) × (write_in size pos end k ≡ stopped pos (words_written size pos end k))
unfolding write_in
stops_at size pos end k n e h i j w =
    let f : 2 * words_written size pos end k ≡ n = omega arith in
    let a : n + 2 ≤ 2 * words_asked pos end k = asked_more pos end k n e i j in
    let l : words_written size pos end k < words_asked pos end k = omega arith in
    (sym f, rw (lt-ltb (words_written size pos end k) (words_asked pos end k) l))

-- .. since the next position would pass the limit
counted_none : (pos n : ℕ) → image_most < pos + n + 2 → 2 * words_counted pos ≤ n + 1
unfolding words_counted
counted_none pos n h = omega arith

pub written_limit : (size pos end k n : ℕ) → n % 2 ≡ 0 → n ≤ 2 * words_written size pos end k → pos + n < end → n < k → image_most < pos + n + 2
    → (n ≡ 2 * words_written size pos end k) × (write_in size pos end k ≡ refuses 1 [])
unfolding stopped
written_limit size pos end k n e h i j s =
    let c : 2 * words_counted pos ≤ n + 1 = counted_none pos n s in
    let w : words_written size pos end k ≤ words_counted pos = written-counted size pos end k in
    let r = stops_at size pos end k n e h i j (omega arith) in
    let l : words_counted pos ≤ words_written size pos end k = omega arith in
    (r.0, r.1 ∙ rw (le-leb (words_counted pos) (words_written size pos end k) l))

-- .. or since the next word is not in the image
image_none : (size pos n : ℕ) → n % 2 ≡ 0 → size < word_start (pos + n) + 2 → 2 * words_in size pos ≤ n
unfolding words_in
image_none size pos n e h = omega arith

pub written_stop : (size pos end k n : ℕ) → n % 2 ≡ 0 → n ≤ 2 * words_written size pos end k → pos + n < end → n < k → pos + n + 2 ≤ image_most → size < word_start (pos + n) + 2
    → (n ≡ 2 * words_written size pos end k) × (write_in size pos end k ≡ refuses 7 [])
unfolding stopped
written_stop size pos end k n e h i j m s =
    let c : 2 * words_in size pos ≤ n = image_none size pos n e s in
    let d : n + 2 ≤ 2 * words_counted pos = counted-more pos n e m in
    let w : words_written size pos end k ≤ words_in size pos = written_in size pos end k in
    let r = stops_at size pos end k n e h i j (omega arith) in
    let l : words_written size pos end k < words_counted pos = omega arith in
    (r.0, r.1 ∙ rw (lt-leb (words_counted pos) (words_written size pos end k) l))

-- ---- what is laid

-- n bytes of the data, from the word that contains the position on
abbrev pub bytes_laid : List ℕ → ℕ → ℕ → List ℕ → List ℕ
bytes_laid image pos n bytes = overlay image (word_start pos) (take n (padded bytes))

pub none-laid : (image : List ℕ) (pos : ℕ) (bytes : List ℕ) → image ≡ bytes_laid image pos 0 bytes
none-laid image pos bytes = sym (overlay-none image (word_start pos))

-- where m words lie in the image, and how long they are
words-fit : (size pos end k : ℕ) → 0 < words_written size pos end k → word_start pos + 2 * words_written size pos end k ≤ size
words-fit size pos end k p =
    let w : words_written size pos end k ≤ size / 2 - pos / 2 = written_image size pos end k in
    omega arith

taken-length : (bytes : List ℕ) (size pos end n : ℕ) → n ≤ 2 * words_written size pos end (length bytes) → length (take n (padded bytes)) ≡ n
taken-length bytes size pos end n h =
    let w : words_written size pos end (length bytes) ≤ words_for (length bytes) = written_data size pos end (length bytes) in
    let l : length (padded bytes) ≡ 2 * words_for (length bytes) = length-padded bytes in
    let m : n ≤ length (padded bytes) = omega arith in
    length-take-le n (padded bytes) m

-- one more word, behind those that are laid
pub word-laid : (image : List ℕ) (pos end : ℕ) (bytes : List ℕ) (n : ℕ) → n % 2 ≡ 0 → n + 2 ≤ 2 * words_written (length image) pos end (length bytes)
    → overlay (bytes_laid image pos n bytes) (word_start (pos + n)) (get_or bytes n 0 ∷ get_or bytes (n + 1) 0 ∷ []) ≡ bytes_laid image pos (n + 2) bytes
word-laid image pos end bytes n e h =
    let m : n ≤ 2 * words_written (length image) pos end (length bytes) = omega arith in
    let l : length (take n (padded bytes)) ≡ n = taken-length bytes (length image) pos end n m in
    let w : words_written (length image) pos end (length bytes) ≤ words_for (length bytes) = written_data (length image) pos end (length bytes) in
    let d : n + 2 ≤ 2 * words_for (length bytes) = omega arith in
    let p : 0 < words_written (length image) pos end (length bytes) = omega arith in
    let f : word_start pos + 2 * words_written (length image) pos end (length bytes) ≤ length image = words-fit (length image) pos end (length bytes) p in
    let a : word_start (pos + n) ≡ word_start pos + length (take n (padded bytes)) = omega arith in
    let g : word_start pos + length (take n (padded bytes)) ≤ length image = omega arith in
    rw (a, overlay-next image (word_start pos) (take n (padded bytes)) (get_or bytes n 0 ∷ get_or bytes (n + 1) 0 ∷ []) g, next_word bytes n d)

-- ---- what follows of a write: laws for callers

-- all that is asked for can be counted, and lies in the image
pub write-gives : (image : List ℕ) (pos end : ℕ) (bytes : List ℕ) → fine image pos end ≡ true → words_asked pos end (length bytes) ≤ words_counted pos → words_asked pos end (length bytes) ≤ words_in (length image) pos
    → (write_said image pos end bytes ≡ gives (2 * words_asked pos end (length bytes) ∷ []))
    × ((write_pos image pos end bytes ≡ pos + 2 * words_asked pos end (length bytes)) × (write_image image pos end bytes ≡ words_laid image pos (words_asked pos end (length bytes)) bytes))
unfolding write_said write_in write_pos write_image words_written
write-gives image pos end bytes f c h =
    let m : min (words_asked pos end (length bytes)) (min (words_counted pos) (words_in (length image) pos)) ≡ words_asked pos end (length bytes) = omega arith in
    let l : words_asked pos end (length bytes) ≤ words_asked pos end (length bytes) = omega arith in
    (rw (f, m, le-ltb (words_asked pos end (length bytes)) (words_asked pos end (length bytes)) l), (rw (f, m), rw (f, m)))

-- 7 keeps the words already written, and stands after them
pub write_stops : (image : List ℕ) (pos end : ℕ) (bytes : List ℕ) → fine image pos end ≡ true → words_in (length image) pos < words_asked pos end (length bytes) → words_in (length image) pos < words_counted pos
    → (write_said image pos end bytes ≡ refuses 7 [])
    × ((write_pos image pos end bytes ≡ pos + 2 * words_in (length image) pos) × (write_image image pos end bytes ≡ words_laid image pos (words_in (length image) pos) bytes))
unfolding write_said write_in stopped write_pos write_image words_written
write_stops image pos end bytes f h c =
    let m : min (words_asked pos end (length bytes)) (min (words_counted pos) (words_in (length image) pos)) ≡ words_in (length image) pos = omega arith in
    (rw (f, m, lt-ltb (words_in (length image) pos) (words_asked pos end (length bytes)) h, lt-leb (words_counted pos) (words_in (length image) pos) c), (rw (f, m), rw (f, m)))

-- .. and so does 1, which comes before it
pub write_limits : (image : List ℕ) (pos end : ℕ) (bytes : List ℕ) → fine image pos end ≡ true → words_counted pos < words_asked pos end (length bytes) → words_counted pos ≤ words_in (length image) pos
    → (write_said image pos end bytes ≡ refuses 1 [])
    × ((write_pos image pos end bytes ≡ pos + 2 * words_counted pos) × (write_image image pos end bytes ≡ words_laid image pos (words_counted pos) bytes))
unfolding write_said write_in stopped write_pos write_image words_written
write_limits image pos end bytes f h c =
    let m : min (words_asked pos end (length bytes)) (min (words_counted pos) (words_in (length image) pos)) ≡ words_counted pos = omega arith in
    let l : words_counted pos ≤ words_counted pos = omega arith in
    (rw (f, m, lt-ltb (words_counted pos) (words_asked pos end (length bytes)) h, le-leb (words_counted pos) (words_counted pos) l), (rw (f, m), rw (f, m)))

-- why a write stopped: of words asked for, the limit or the image has fewer, and by which of them it is said
abbrev number : Said → ℕ
number (gives l) = 0
number absent = 0
number (refuses n l) = n

record Stops (image : List ℕ) (pos end : ℕ) (bytes : List ℕ) (n : ℕ) : Type 0 where
  bounds : fine image pos end ≡ true
  more : words_written (length image) pos end (length bytes) < words_asked pos end (length bytes)
  said : number (stopped pos (words_written (length image) pos end (length bytes))) ≡ n

stops_of : (image : List ℕ) (pos end : ℕ) (bytes : List ℕ) (n : ℕ) → 0 < n → n < 14 → write_said image pos end bytes ≡ refuses n [] → Stops image pos end bytes n
unfolding write_said write_in
stops_of image pos end bytes n p m e = go (fine image pos end) (ltb (words_written (length image) pos end (length bytes)) (words_asked pos end (length bytes))) refl refl e
  where
    go : (f b : Bool) → fine image pos end ≡ f → ltb (words_written (length image) pos end (length bytes)) (words_asked pos end (length bytes)) ≡ b
        → pick f (pick b (stopped pos (words_written (length image) pos end (length bytes))) (gives (2 * words_written (length image) pos end (length bytes) ∷ []))) (refuses 14 []) ≡ refuses n []
        → Stops image pos end bytes n
    go false b f t q = let z : ◌≡◌ {A = ℕ} 14 n = ap number q in absurd (let y : ⊥ = omega arith in y)
    go true false f t q = let z : ◌≡◌ {A = ℕ} 0 n = ap number q in absurd (let y : ⊥ = omega arith in y)
    go true true f t q = record { bounds = f; more = ltb-true _ _ t; said = ap number q }

image_fewer : (size pos end k : ℕ) → words_written size pos end k < words_counted pos → words_written size pos end k < words_asked pos end k → words_in size pos < words_asked pos end k
unfolding words_written
image_fewer size pos end k c a = omega arith

-- 7 is said only where the image has too few words
pub stops_only : (image : List ℕ) (pos end : ℕ) (bytes : List ℕ) → write_said image pos end bytes ≡ refuses 7 [] → words_in (length image) pos < words_asked pos end (length bytes)
unfolding stopped
stops_only image pos end bytes e =
    let s = stops_of image pos end bytes 7 (omega arith) (omega arith) e in
    go (leb (words_counted pos) (words_written (length image) pos end (length bytes))) refl s.more s.said
  where
    go : (t : Bool) → leb (words_counted pos) (words_written (length image) pos end (length bytes)) ≡ t
        → words_written (length image) pos end (length bytes) < words_asked pos end (length bytes)
        → number (pick t (refuses 1 []) (refuses 7 [])) ≡ 7 → words_in (length image) pos < words_asked pos end (length bytes)
    go true t a q = absurd (let y : ⊥ = omega arith in y)
    go false t a q = image_fewer (length image) pos end (length bytes) (leb-false _ _ t) a

limit_fewer : (pos end k : ℕ) → Bounds pos end → words_counted pos < words_asked pos end k → (pos % 2 ≡ 1) × (end ≡ image_most)
unfolding words_asked words_counted
limit_fewer pos end k b a =
    let r : (image_most - pos) / 2 < words_for (end - pos) = omega arith in
    (omega (arith, b.ends, b.even), omega (arith, b.ends, b.even))

limit_last : (pos m : ℕ) → pos ≤ image_most → pos % 2 ≡ 1 → m ≡ words_counted pos → pos + 2 * m + 1 ≡ image_most
unfolding words_counted
limit_last pos m h o e = omega arith

-- 1 is said only of a range that ends at the limit, and stands one before it then
pub limit_only : (image : List ℕ) (pos end : ℕ) (bytes : List ℕ) → write_said image pos end bytes ≡ refuses 1 [] → (write_pos image pos end bytes + 1 ≡ image_most) × (end ≡ image_most)
unfolding stopped write_pos
limit_only image pos end bytes e =
    let s = stops_of image pos end bytes 1 (omega arith) (omega arith) e in
    let b = bounds_of pos end (fine-bounds image pos end s.bounds) in
    rw s.bounds (go (leb (words_counted pos) (words_written (length image) pos end (length bytes))) refl b s.more s.said)
  where
    go : (t : Bool) → leb (words_counted pos) (words_written (length image) pos end (length bytes)) ≡ t → Bounds pos end
        → words_written (length image) pos end (length bytes) < words_asked pos end (length bytes)
        → number (pick t (refuses 1 []) (refuses 7 [])) ≡ 1 → (pos + 2 * words_written (length image) pos end (length bytes) + 1 ≡ image_most) × (end ≡ image_most)
    go true t b a q =
        let l : words_counted pos ≤ words_written (length image) pos end (length bytes) = leb-true _ _ t in
        let m : words_written (length image) pos end (length bytes) ≤ words_counted pos = written-counted (length image) pos end (length bytes) in
        let r = limit_fewer pos end (length bytes) b (omega arith) in
        (limit_last pos (words_written (length image) pos end (length bytes)) b.stands r.0 (omega arith), r.1)
    go false t b a q = absurd (let y : ⊥ = omega arith in y)

-- the image keeps its length
words-length : (image : List ℕ) (pos end : ℕ) (bytes : List ℕ) (m : ℕ) → m ≡ words_written (length image) pos end (length bytes) → length (words_laid image pos m bytes) ≡ length image
unfolding words_laid
words-length image pos end bytes zero e = ap length (overlay-none image (word_start pos))
words-length image pos end bytes (suc m) e =
    let w : words_written (length image) pos end (length bytes) ≡ suc m = sym e in
    let p : 0 < words_written (length image) pos end (length bytes) = omega arith in
    let f : word_start pos + 2 * words_written (length image) pos end (length bytes) ≤ length image = words-fit (length image) pos end (length bytes) p in
    let h : 2 * suc m ≤ 2 * words_written (length image) pos end (length bytes) = omega arith in
    let l : length (take (2 * suc m) (padded bytes)) ≡ 2 * suc m = taken-length bytes (length image) pos end (2 * suc m) h in
    let g : word_start pos + length (take (2 * suc m) (padded bytes)) ≤ length image = omega arith in
    length-overlay image (word_start pos) (take (2 * suc m) (padded bytes)) g

pub length-write : (image : List ℕ) (pos end : ℕ) (bytes : List ℕ) → length (write_image image pos end bytes) ≡ length image
unfolding write_image
length-write image pos end bytes = go (fine image pos end)
  where
    go : (b : Bool) → length (pick b (words_laid image pos (words_written (length image) pos end (length bytes)) bytes) image) ≡ length image
    go true = words-length image pos end bytes (words_written (length image) pos end (length bytes)) refl
    go false = refl

asks_data : (pos end k n : ℕ) → n ≡ 2 * words_for k → pos + n ≤ end + 1 → words_asked pos end k ≡ words_for k
unfolding words_asked
asks_data pos end k n e h = omega arith

has_data : (size pos k n : ℕ) → n ≡ 2 * words_for k → word_start pos + n ≤ size → words_for k ≤ words_in size pos
unfolding words_in
has_data size pos k n e h = omega arith

counts_data : (pos k n : ℕ) → n ≡ 2 * words_for k → pos + n ≤ image_most → words_for k ≤ words_counted pos
unfolding words_counted
counts_data pos k n e h = omega arith

-- data that range and image have room for is written whole, in whole words: n bytes of it with the padding
pub write-room : (image : List ℕ) (pos end : ℕ) (bytes : List ℕ) (n : ℕ) → fine image pos end ≡ true → n ≡ 2 * words_for (length bytes) → pos + n ≤ end + 1 → pos + n ≤ image_most → word_start pos + n ≤ length image
    → (write_said image pos end bytes ≡ gives (n ∷ [])) × ((write_pos image pos end bytes ≡ pos + n) × (write_image image pos end bytes ≡ overlay image (word_start pos) (padded bytes)))
unfolding words_laid
write-room image pos end bytes n f e h i k =
    let a : words_asked pos end (length bytes) ≡ words_for (length bytes) = asks_data pos end (length bytes) n e h in
    let r : words_for (length bytes) ≤ words_in (length image) pos = has_data (length image) pos (length bytes) n e k in
    let c : words_for (length bytes) ≤ words_counted pos = counts_data pos (length bytes) n e i in
    let l : words_asked pos end (length bytes) ≤ words_in (length image) pos = omega arith in
    let m : words_asked pos end (length bytes) ≤ words_counted pos = omega arith in
    let g = write-gives image pos end bytes f m l in
    let t : 2 * words_asked pos end (length bytes) ≡ n = omega arith in
    let whole : take (2 * words_asked pos end (length bytes)) (padded bytes) ≡ padded bytes = rw (t, e, ← length-padded bytes, take-length (padded bytes)) in
    (g.0 ∙ rw t, (g.1.0 ∙ rw t, g.1.1 ∙ rw whole))

-- an odd last byte is padded with 0, and the padding counted
pub write_odd_byte : (image : List ℕ) (pos end : ℕ) (bytes : List ℕ) → fine image pos end ≡ true → length bytes % 2 ≡ 1 → pos + length bytes ≤ end → pos + (length bytes + 1) ≤ image_most → word_start pos + (length bytes + 1) ≤ length image
    → (write_said image pos end bytes ≡ gives ((length bytes + 1) ∷ []))
    × ((write_pos image pos end bytes ≡ pos + (length bytes + 1)) × (write_image image pos end bytes ≡ overlay image (word_start pos) (bytes ++ (0 ∷ []))))
unfolding padded
write_odd_byte image pos end bytes f o h i k =
    let n : length bytes + 1 ≡ 2 * words_for (length bytes) = omega arith in
    let e : pos + (length bytes + 1) ≤ end + 1 = omega arith in
    let w = write-room image pos end bytes (length bytes + 1) f n e i k in
    (w.0, (w.1.0, w.1.1 ∙ rw o))

-- whole words at the start of a word
pub write-whole : (image : List ℕ) (pos end : ℕ) (bytes : List ℕ) → fine image pos end ≡ true → pos % 2 ≡ 0 → length bytes % 2 ≡ 0 → pos + length bytes ≤ end
    → pos + length bytes ≤ length image
    → (write_said image pos end bytes ≡ gives (length bytes ∷ [])) × ((write_pos image pos end bytes ≡ pos + length bytes) × (write_image image pos end bytes ≡ overlay image pos bytes))
unfolding padded
write-whole image pos end bytes f e z h k =
    let n : length bytes ≡ 2 * words_for (length bytes) = omega arith in
    let s : word_start pos ≡ pos = omega arith in
    let g : pos + length bytes ≤ end + 1 = omega arith in
    let l : pos + length bytes ≤ image_most = omega (arith, (bounds_of pos end (fine-bounds image pos end f)).ends) in
    let i : word_start pos + length bytes ≤ length image = omega arith in
    let w = write-room image pos end bytes (length bytes) f n g l i in
    (w.0, (w.1.0, w.1.1 ∙ rw (z, s, append-nil bytes)))

-- at an odd position the word that contains it is written, though the position is its second byte
pub write_odd_position : (image : List ℕ) (pos end a b : ℕ) → fine image pos end ≡ true → pos % 2 ≡ 1 → pos < end → pos + 2 ≤ image_most → pos < length image
    → (write_said image pos end (a ∷ b ∷ []) ≡ gives (2 ∷ []))
    × ((write_pos image pos end (a ∷ b ∷ []) ≡ pos + 2) × (write_image image pos end (a ∷ b ∷ []) ≡ overlay image (pos - 1) (a ∷ b ∷ [])))
unfolding padded
write_odd_position image pos end a b f o h l k =
    let s : word_start pos ≡ pos - 1 = omega arith in
    let g : pos + 2 ≤ end + 1 = omega arith in
    let i : word_start pos + 2 ≤ length image = omega arith in
    let w = write-room image pos end (a ∷ b ∷ []) 2 f refl g l i in
    (w.0, (w.1.0, w.1.1 ∙ rw s))
