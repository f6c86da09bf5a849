-- Laws of a range's rules, for callers to cite in place of the definitions: what each call says inside its bounds, and outside.
use Prim.Native.Nat.{ℕ, ◌+◌, ◌-◌, ◌*◌, ◌%◌, ◌≤◌, ◌<◌, min, max}
use native.Mathlib.Omega.{arith}
use mathlib.Core.Path.{◌≡◌, refl, sym}
use mathlib.Core.List.{List, [], ◌∷◌, append-nil}
use mathlib.Core.Bool.{Bool, true, false, ◌&&◌}
use lib.Dec.{leb, ltb, eqb}
use lib.ListN.{length, get_or}
use lib.Seq.{drop-length}
use borrow.Author.Tests.{lt-ltb, le-ltb, ltb-true, ltb-false, le-leb, lt-leb, leb-true, eq-eqb, ne_eqb, eqb-true}
use Rattle.refusal.specs.Said.{Said, gives, absent, refuses, pick, on3}
use Rattle.refusal.proofs.Tests.{both}
use Rattle.wire.specs.Bytes.{byte_at, span, filled}
use Rattle.eeprom.specs.Image.{image_most, within, in_bounds, fine}
use Rattle.eeprom.specs.Range.{standing, new_said, skip_in, skip_said, byte_in, byte_said, taken, read_said, read_buf, all_said, exact_said, exact_pos, exact_range, exact_buf, write_said, write_pos, write_image}
use Rattle.eeprom.specs.declared.Range.{Range}

-- ---- the bounds of a call

pub within-is : (image : List ℕ) → length image ≤ image_most → within image ≡ true
unfolding within
within-is image h = le-leb (length image) image_most h

pub within-length : (image : List ℕ) → within image ≡ true → length image ≤ image_most
unfolding within
within-length image e = leb-true (length image) image_most e

pub bounds-is : (pos end : ℕ) → pos ≤ image_most → end ≤ image_most → end % 2 ≡ 0 → in_bounds pos end ≡ true
unfolding in_bounds
bounds-is pos end p m e = rw (le-leb pos image_most p, eq-eqb (end % 2) 0 e, le-leb end image_most m)

-- what the bounds of a range are
pub record Bounds (pos end : ℕ) : Type 0 where
  pub stands : pos ≤ image_most
  pub even : end % 2 ≡ 0
  pub ends : end ≤ image_most

pub bounds_of : (pos end : ℕ) → in_bounds pos end ≡ true → Bounds pos end
unfolding in_bounds
bounds_of pos end b =
    let c = both (leb pos image_most && eqb (end % 2) 0) (leb end image_most) b in
    let d = both (leb pos image_most) (eqb (end % 2) 0) c.0 in
    record { stands = leb-true pos image_most d.0; even = eqb-true (end % 2) 0 d.1; ends = leb-true end image_most c.1 }

-- a range stays in its bounds up to its end
pub bounds_on : (pos end to : ℕ) → in_bounds pos end ≡ true → to ≤ end → in_bounds to end ≡ true
bounds_on pos end to b h =
    let c = bounds_of pos end b in
    bounds-is to end (omega (arith, c.ends)) c.ends c.even

-- an odd end is outside them
pub bounds_odd : (pos end : ℕ) → end % 2 ≡ 1 → in_bounds pos end ≡ false
unfolding in_bounds
bounds_odd pos end e =
    let o : eqb (end % 2) 0 ≡ false = ne_eqb (end % 2) 0 (λ z. absurd (let y : ⊥ = omega arith in y)) in
    rw o (go (leb pos image_most) (leb end image_most))
  where
    go : (a b : Bool) → ((a && false) && b) ≡ false
    go true b = refl
    go false b = refl

pub fine-is : (image : List ℕ) (pos end : ℕ) → within image ≡ true → in_bounds pos end ≡ true → fine image pos end ≡ true
unfolding fine
fine-is image pos end w b = rw (w, b)

pub fine-within : (image : List ℕ) (pos end : ℕ) → fine image pos end ≡ true → within image ≡ true
unfolding fine
fine-within image pos end e = (both (within image) (in_bounds pos end) e).0

pub fine-bounds : (image : List ℕ) (pos end : ℕ) → fine image pos end ≡ true → in_bounds pos end ≡ true
unfolding fine
fine-bounds image pos end e = (both (within image) (in_bounds pos end) e).1

-- .. and stays so up to its end
pub fine_on : (image : List ℕ) (pos end to : ℕ) → fine image pos end ≡ true → to ≤ end → fine image to end ≡ true
fine_on image pos end to f h = fine-is image to end (fine-within image pos end f) (bounds_on pos end to (fine-bounds image pos end f) h)

-- an odd end is outside the bounds, whatever the image
pub fine_odd : (image : List ℕ) (pos end : ℕ) → end % 2 ≡ 1 → fine image pos end ≡ false
unfolding fine
fine_odd image pos end e = rw (bounds_odd pos end e) (go (within image))
  where
    go : (w : Bool) → (w && false) ≡ false
    go true = refl
    go false = refl

-- ---- making a range

pub new_gives : (w n : ℕ) → 2 * w + 2 * n ≤ image_most → new_said w n ≡ gives ((2 * w) ∷ (2 * w + 2 * n) ∷ [])
unfolding new_said
new_gives w n h = rw (le-leb (2 * w + 2 * n) image_most h)

pub new_refuses : (w n : ℕ) → image_most < 2 * w + 2 * n → new_said w n ≡ refuses 1 []
unfolding new_said
new_refuses w n h = rw (lt-leb (2 * w + 2 * n) image_most h)

-- a range that is asked for is made, or refused with 1: what holds of both holds of what is said
pub new_cases : (w n : ℕ) (P : Said → Type 0) → P (gives ((2 * w) ∷ (2 * w + 2 * n) ∷ [])) → P (refuses 1 []) → P (new_said w n)
unfolding new_said
new_cases w n P a b = go (leb (2 * w + 2 * n) image_most)
  where
    go : (t : Bool) → P (pick t (gives ((2 * w) ∷ (2 * w + 2 * n) ∷ [])) (refuses 1 []))
    go true = a
    go false = b

-- a range that is made is in its bounds
pub new_bounds : (w n pos end : ℕ) → new_said w n ≡ gives (pos ∷ end ∷ []) → in_bounds pos end ≡ true
unfolding new_said
new_bounds w n pos end e = go (leb (2 * w + 2 * n) image_most) refl e
  where
    go : (t : Bool) → leb (2 * w + 2 * n) image_most ≡ t → pick t (gives ((2 * w) ∷ (2 * w + 2 * n) ∷ [])) (refuses 1 []) ≡ gives (pos ∷ end ∷ []) → in_bounds pos end ≡ true
    go true h q =
        let m : 2 * w + 2 * n ≤ image_most = leb-true (2 * w + 2 * n) image_most h in
        let p : 2 * w ≡ pos = cc in
        let z : 2 * w + 2 * n ≡ end = cc in
        bounds-is pos end (omega arith) (omega arith) (omega arith)
    go false h q = let z : ◌≡◌ {A = ℕ} 0 1 = cc in absurd (omega arith)

-- ---- moving on

pub skip_gives : (pos end skip : ℕ) → in_bounds pos end ≡ true → pos + skip < end → skip_said pos end skip ≡ gives ((pos + skip) ∷ end ∷ [])
unfolding skip_said skip_in
skip_gives pos end skip b h = rw (b, lt-ltb (pos + skip) end h)

pub skip_refuses : (pos end skip : ℕ) → in_bounds pos end ≡ true → end ≤ pos + skip → skip_said pos end skip ≡ refuses 2 []
unfolding skip_said skip_in
skip_refuses pos end skip b h = rw (b, le-ltb (pos + skip) end h)

-- a skip outside the bounds
pub skip_bad : (pos end skip : ℕ) → in_bounds pos end ≡ false → skip_said pos end skip ≡ refuses 14 []
unfolding skip_said
skip_bad pos end skip b = rw b

-- ---- reading a byte

pub byte-gives : (image : List ℕ) (pos end : ℕ) → fine image pos end ≡ true → pos < end
    → byte_said image pos end ≡ gives (byte_at image pos ∷ (pos + 1) ∷ end ∷ [])
unfolding byte_said byte_in
byte-gives image pos end f h =
    let k : pos < image_most = omega (arith, (bounds_of pos end (fine-bounds image pos end f)).ends) in
    rw (f, lt-ltb pos end h, lt-ltb pos image_most k)

-- at the end and past it
pub byte-refuses : (image : List ℕ) (pos end : ℕ) → fine image pos end ≡ true → end ≤ pos → byte_said image pos end ≡ refuses 2 []
unfolding byte_said byte_in
byte-refuses image pos end f h = rw (f, le-ltb pos end h)

-- a call outside the bounds
pub byte-bad : (image : List ℕ) (pos end : ℕ) → fine image pos end ≡ false → byte_said image pos end ≡ refuses 14 []
unfolding byte_said
byte-bad image pos end f = rw f

-- a byte that is given lies before the end, which is kept
pub byte-given : (image : List ℕ) (pos end : ℕ) (l : List ℕ) → byte_said image pos end ≡ gives l
    → (fine image pos end ≡ true) × ((pos < end) × (l ≡ byte_at image pos ∷ (pos + 1) ∷ end ∷ []))
unfolding byte_said byte_in
byte-given image pos end l = go (fine image pos end) (ltb pos end) (ltb pos image_most) refl refl
  where
    go : (f b m : Bool) → fine image pos end ≡ f → ltb pos end ≡ b
        → pick f (pick b (pick m (gives (byte_at image pos ∷ (pos + 1) ∷ end ∷ [])) (refuses 1 [])) (refuses 2 [])) (refuses 14 []) ≡ gives l
        → (fine image pos end ≡ true) × ((pos < end) × (l ≡ byte_at image pos ∷ (pos + 1) ∷ end ∷ []))
    go true true true f b p = (f, (ltb-true pos end b, cc))
    go true true false f b p = let z : ◌≡◌ {A = ℕ} 0 1 = cc in absurd (omega arith)
    go true false m f b p = let z : ◌≡◌ {A = ℕ} 0 1 = cc in absurd (omega arith)
    go false b m f e p = let z : ◌≡◌ {A = ℕ} 0 1 = cc in absurd (omega arith)

-- .. so the range behind it is within the bounds of a call
pub byte-fine : (image : List ℕ) (pos end b p e : ℕ) → gives (b ∷ p ∷ e ∷ []) ≡ byte_said image pos end → fine image p e ≡ true
byte-fine image pos end b p e h =
    let g = byte-given image pos end (b ∷ p ∷ e ∷ []) (sym h) in
    let l = g.1.1 in
    let y : p ≡ pos + 1 = cc in
    let z : e ≡ end = cc in
    let n : pos + 1 ≤ end = omega (arith, g.1.0) in
    rw (y, z) (fine_on image pos end (pos + 1) g.0 n)

-- it is never refused with 1: a position before an end lies below the largest
pub byte_never_1 : (image : List ℕ) (pos end : ℕ) (l : List ℕ) → byte_said image pos end ≡ refuses 1 l → ⊥
unfolding byte_said byte_in
byte_never_1 image pos end l = go (fine image pos end) (ltb pos end) (ltb pos image_most) refl refl refl
  where
    go : (f b k : Bool) → fine image pos end ≡ f → ltb pos end ≡ b → ltb pos image_most ≡ k
        → pick f (pick b (pick k (gives (byte_at image pos ∷ (pos + 1) ∷ end ∷ [])) (refuses 1 [])) (refuses 2 [])) (refuses 14 []) ≡ refuses 1 l
        → ⊥
    go true true true f b k p = let z : ◌≡◌ {A = ℕ} 0 1 = cc in absurd (omega arith)
    go true true false f b k p =
        let h = ltb-true pos end b in
        let n = ltb-false pos image_most k in
        let m = (bounds_of pos end (fine-bounds image pos end f)).ends in
        absurd (omega arith)
    go true false k f b e p = let z : ◌≡◌ {A = ℕ} 2 1 = cc in absurd (omega arith)
    go false b k f d e p = let z : ◌≡◌ {A = ℕ} 14 1 = cc in absurd (omega arith)

-- ---- reading into a lent buffer

pub read-gives : (image : List ℕ) (pos end k : ℕ) → fine image pos end ≡ true → read_said image pos end k ≡ gives (taken pos end k ∷ (pos + taken pos end k) ∷ end ∷ [])
unfolding read_said
read-gives image pos end k f = rw f

pub read_fills : (image : List ℕ) (pos end : ℕ) (buf : List ℕ) → fine image pos end ≡ true → read_buf image pos end buf ≡ filled image pos (taken pos end (length buf)) buf
unfolding read_buf
read_fills image pos end buf f = rw f

-- a read outside the bounds leaves the buffer
pub read-bad : (image : List ℕ) (pos end : ℕ) (buf : List ℕ) → fine image pos end ≡ false → (read_said image pos end (length buf) ≡ refuses 14 []) × (read_buf image pos end buf ≡ buf)
unfolding read_said read_buf
read-bad image pos end buf f = (rw f, rw f)

pub exact_gives : (image : List ℕ) (pos end k : ℕ) → fine image pos end ≡ true → pos + k ≤ end → (exact_said image pos end k ≡ gives []) × (exact_pos image pos end k ≡ pos + k)
unfolding exact_said exact_pos
exact_gives image pos end k f h =
    let m : k ≤ end - pos = omega arith in
    (rw (f, le-ltb (end - pos) k m), rw (f, le-ltb (end - pos) k m))

-- no bytes always succeed
pub exact_none : (image : List ℕ) (pos end : ℕ) → fine image pos end ≡ true → (exact_said image pos end 0 ≡ gives []) × (exact_pos image pos end 0 ≡ pos)
unfolding exact_said exact_pos
exact_none image pos end f =
    let m : 0 ≤ end - pos = omega arith in
    let z : pos + 0 ≡ pos = omega arith in
    (rw (f, le-ltb (end - pos) 0 m), rw (f, le-ltb (end - pos) 0 m, z))

-- what does not fit is refused, and stands at the end, or stays if past it
pub exact_refuses : (image : List ℕ) (pos end k : ℕ) → fine image pos end ≡ true → end - pos < k → (exact_said image pos end k ≡ refuses 2 []) × (exact_pos image pos end k ≡ max pos end)
unfolding exact_said exact_pos
exact_refuses image pos end k f h = (rw (f, lt-ltb (end - pos) k h), rw (f, lt-ltb (end - pos) k h))

-- outside the bounds it stays, and leaves the buffer
pub exact_bad : (image : List ℕ) (pos end : ℕ) (buf : List ℕ) → fine image pos end ≡ false → (exact_said image pos end (length buf) ≡ refuses 14 []) × ((exact_pos image pos end (length buf) ≡ pos) × (exact_buf image pos end buf ≡ buf))
unfolding exact_said exact_pos read_buf
exact_bad image pos end buf f = (rw f, (rw f, rw f))

-- one that succeeds is within the bounds
pub exact_given : (image : List ℕ) (pos end k : ℕ) (l : List ℕ) → exact_said image pos end k ≡ gives l → fine image pos end ≡ true
unfolding exact_said
exact_given image pos end k l e = go (fine image pos end) refl e
  where
    go : (f : Bool) → fine image pos end ≡ f → pick f (all_said (end - pos) k) (refuses 14 []) ≡ gives l → fine image pos end ≡ true
    go true f q = f
    go false f q = let z : ◌≡◌ {A = ℕ} 0 1 = cc in absurd (omega arith)

-- an exact read that fits fills the whole buffer
pub exact_fills : (image : List ℕ) (pos end : ℕ) (buf : List ℕ) → fine image pos end ≡ true → pos + length buf ≤ end → read_buf image pos end buf ≡ span image pos (length buf)
unfolding read_buf filled
exact_fills image pos end buf f h =
    let n : min (length buf) (end - pos) ≡ length buf = omega arith in
    rw (f, n, drop-length, append-nil)

-- an exact read is a read, and the test that it took all
pub exact_reads : (image : List ℕ) (pos end k : ℕ) → exact_said image pos end k ≡ on3 (read_said image pos end k) (λ n p e. all_said n k)
unfolding exact_said read_said on3
exact_reads image pos end k = go (fine image pos end) (ltb (end - pos) k) refl
  where
    go : (f b : Bool) → ltb (end - pos) k ≡ b
        → pick f (pick b (refuses 2 []) (gives [])) (refuses 14 [])
        ≡ on3 (pick f (gives (taken pos end k ∷ (pos + taken pos end k) ∷ end ∷ [])) (refuses 14 [])) (λ n p e. all_said n k)
    go false b e = refl
    go true false e =
        let h : k ≤ end - pos = ltb-false (end - pos) k e in
        let n : min k (end - pos) ≡ k = omega arith in
        let m : k ≤ k = omega arith in
        rw (n, le-ltb k k m)
    go true true e =
        let h : end - pos < k = ltb-true (end - pos) k e in
        let n : min k (end - pos) < k = omega arith in
        rw (lt-ltb (min k (end - pos)) k n)

-- the range that a read tells: after what it took, or as it was
unfoldable pub told : Range → Said → Range
told g (gives l) = record { byte_pos = get_or l 1 0; end = get_or l 2 0 }
told g absent = g
told g (refuses n l) = g

-- an exact read stands where the read stands
pub exact_stands : (image : List ℕ) (g : Range) (k : ℕ) → exact_range image g k ≡ told g (read_said image g.byte_pos g.end k)
unfolding exact_pos read_said told
exact_stands image g k = go (fine image g.byte_pos g.end) (ltb (g.end - g.byte_pos) k) refl
  where
    go : (f b : Bool) → ltb (g.end - g.byte_pos) k ≡ b
        → standing g (pick f (pick b (max g.byte_pos g.end) (g.byte_pos + k)) g.byte_pos)
        ≡ told g (pick f (gives (taken g.byte_pos g.end k ∷ (g.byte_pos + taken g.byte_pos g.end k) ∷ g.end ∷ [])) (refuses 14 []))
    go false b e = refl
    go true false e =
        let h : k ≤ g.end - g.byte_pos = ltb-false (g.end - g.byte_pos) k e in
        let n : min k (g.end - g.byte_pos) ≡ k = omega arith in
        rw n
    go true true e =
        let h : g.end - g.byte_pos < k = ltb-true (g.end - g.byte_pos) k e in
        let m : g.byte_pos + min k (g.end - g.byte_pos) ≡ max g.byte_pos g.end = omega arith in
        rw m

-- ---- writing: `Words` has the laws inside the bounds

-- a write outside the bounds stays, and leaves the image
pub write-bad : (image : List ℕ) (pos end : ℕ) (bytes : List ℕ) → fine image pos end ≡ false → (write_said image pos end bytes ≡ refuses 14 []) × ((write_pos image pos end bytes ≡ pos) × (write_image image pos end bytes ≡ image))
unfolding write_said write_pos write_image
write-bad image pos end bytes f = (rw f, (rw f, rw f))
