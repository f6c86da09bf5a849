-- The greedy plan is a permitted cutting where it leaves nothing over, and no permitted cutting does better: by what the first areas have room for.
use mathlib.Core.Path.{◌≡◌, refl, sym, ap}
use Prim.Native.Nat.{ℕ, zero, suc, ◌+◌, ◌-◌, ◌≤◌, ◌<◌, min}
use native.Mathlib.Omega.{arith}
use native.Mathlib.Nat.{add-zero, add-suc, suc-add}
use mathlib.Core.List.{List, []}
use mathlib.Core.Bool.{Bool, true, false}
use lib.Dec.{eqb}
use borrow.Author.Tests.{eqb-true}
use Rattle.refusal.specs.Said.{pick}
use Rattle.pdu.specs.Pdu.{pdu_overhead}
use Rattle.cuts.specs.Cut.{Piece, Chain, Rising, load, Permitted, last_area, Earliest}
use Rattle.cuts.specs.Greedy.{piece, room, greedy_from, over_from, greedy, over}
use Rattle.cuts.specs.Measure.{cap}
use Rattle.cuts.proofs.Laws.{last-most, rising_none, cutting-cap}

-- ---- a piece in front, unless it is empty

piece-chain : (a o t n : ℕ) (ps : List Piece) → Chain (o + t) n ps → Chain o n (piece a o t ps)
unfolding Chain
piece-chain a o zero n ps c = rw add-zero at c
piece-chain a o (suc t) n ps c = (refl, omega arith, c)

piece-rising : (lo m a o t : ℕ) (ps : List Piece) → lo ≤ a → a ≤ m → Rising a m ps → Rising lo m ps → Rising lo m (piece a o t ps)
unfolding Rising
piece-rising lo m a o zero ps h k r q = q
piece-rising lo m a o (suc t) ps h k r q = (h, k, r)

-- what holds of the last area with and without the piece's own holds of the last area
piece-last : (P : ℕ → Type 0) (l a o t : ℕ) (ps : List Piece) → P (last_area l ps) → P (last_area a ps) → P (last_area l (piece a o t ps))
unfolding last_area
piece-last P l a o zero ps h k = h
piece-last P l a o (suc t) ps h k = k

module _ (free : ℕ → ℕ) where
  piece_load : (k a o t : ℕ) (ps : List Piece) → load k ps ≤ free k → (k ≡ a → load k ps ≡ 0) → t ≤ room free a → load k (piece a o t ps) ≤ free k
  unfolding load
  piece_load k a o zero ps h z f = h
  piece_load k a o (suc t) ps h z f = go (eqb a k) refl
    where
      go : (b : Bool) → eqb a k ≡ b → pick b (suc t + pdu_overhead) 0 + load k ps ≤ free k
      go true e =
          let q : a ≡ k = eqb-true a k e in
          omega (arith, z (sym q), ap free q)
      go false e = omega arith

  -- ---- the greedy plan is permitted where it leaves nothing over

  greedy-chain : (d i o left n : ℕ) → over_from free d i left ≡ 0 → o + left ≡ n → Chain o n (greedy_from free d i o left)
  unfolding greedy_from over_from Chain
  greedy-chain zero i o left n e h = omega arith
  greedy-chain (suc d) i o left n e h =
      let t = min left (room free (suc i)) in
      piece-chain (suc i) o t n (greedy_from free d (suc i) (o + t) (left - t)) (greedy-chain d (suc i) (o + t) (left - t) n e (omega arith))

  -- its areas rise from area i + 1
  pub greedy-rising : (d i o left lo m : ℕ) → lo ≤ suc i → i + d ≤ m → Rising lo m (greedy_from free d i o left)
  unfolding greedy_from Rising
  greedy-rising zero i o left lo m h k = tt
  greedy-rising (suc d) i o left lo m h k =
      let t = min left (room free (suc i)) in
      piece-rising lo m (suc i) o t (greedy_from free d (suc i) (o + t) (left - t)) h (omega arith)
      (greedy-rising d (suc i) (o + t) (left - t) (suc i) m (omega arith) (omega arith))
      (greedy-rising d (suc i) (o + t) (left - t) lo m (omega arith) (omega arith))

  -- .. so it has no load in the areas before
  pub greedy-before : (d i o left k : ℕ) → k ≤ i → load k (greedy_from free d i o left) ≡ 0
  greedy-before d i o left k h =
      rising_none k (suc i) (i + d) (greedy_from free d i o left) (omega arith) (greedy-rising d i o left (suc i) (i + d) (omega arith) (omega arith))

  greedy-load : (d i o left k : ℕ) → load k (greedy_from free d i o left) ≤ free k
  unfolding greedy_from load
  greedy-load zero i o left k = omega arith
  greedy-load (suc d) i o left k =
      let t = min left (room free (suc i)) in
      let ps = greedy_from free d (suc i) (o + t) (left - t) in
      piece_load k (suc i) o t ps (greedy-load d (suc i) (o + t) (left - t) k)
      (λ e. greedy-before d (suc i) (o + t) (left - t) k (omega arith))
      (omega arith)

  -- THEOREM: a greedy plan that uses the image up is a permitted cutting
  pub greedy-permitted : (m n : ℕ) → over free m n ≡ 0 → Permitted free m n (greedy free m n)
  greedy-permitted m n e =
      record { chain = greedy-chain m 0 0 n n e (omega arith); rising = greedy-rising m 0 0 n 1 m (omega arith) (omega arith); fits = greedy-load m 0 0 n }

  -- ---- it uses up what the first areas have room for

  pub greedy_nothing : (d i o : ℕ) → greedy_from free d i o 0 ≡ []
  unfolding greedy_from
  greedy_nothing zero i o = refl
  greedy_nothing (suc d) i o =
      let e : min 0 (room free (suc i)) ≡ 0 = omega arith in
      rw e (greedy_nothing d (suc i) (o + 0))

  -- what the next j areas have room for is used up
  used-up : (d j i left : ℕ) → j ≤ d → left ≤ cap free i j → over_from free d i left ≡ 0
  unfolding over_from cap
  used-up zero zero i left h k = omega arith
  used-up zero (suc j) i left h k = absurd (omega arith)
  used-up (suc d) zero i left h k = used-up d zero (suc i) (left - min left (room free (suc i))) (omega arith) (omega arith)
  used-up (suc d) (suc j) i left h k = used-up d j (suc i) (left - min left (room free (suc i))) (omega arith) (omega arith)

  -- .. in these
  ends_by : (d j i o left l : ℕ) → l ≤ i + j → left ≤ cap free i j → last_area l (greedy_from free d i o left) ≤ i + j
  unfolding greedy_from cap last_area
  ends_by zero j i o left l h k = h
  ends_by (suc d) zero i o left l h k =
      let e : left ≡ 0 = omega arith in
      rw e (rw (greedy_nothing (suc d) i o) h)
  ends_by (suc d) (suc j) i o left l h k =
      let t = min left (room free (suc i)) in
      rw (add-suc, ← suc-add) (piece-last (λ (z : ℕ). z ≤ suc i + j) l (suc i) o t (greedy_from free d (suc i) (o + t) (left - t))
      (ends_by d j (suc i) (o + t) (left - t) l (omega arith) (omega arith))
      (ends_by d j (suc i) (o + t) (left - t) (suc i) (omega arith) (omega arith)))

  -- what is used up, the areas had room for
  over-cap : (d i left : ℕ) → over_from free d i left ≡ 0 → left ≤ cap free i d
  unfolding over_from cap
  over-cap zero i left e = omega arith
  over-cap (suc d) i left e = omega (arith, over-cap d (suc i) (left - min left (room free (suc i))) e)

  -- ---- no permitted cutting does better

  -- THEOREM: where any cutting is permitted, the greedy plan uses the image up and ends in no later area
  pub greedy_best : (m n : ℕ) (ps : List Piece) → Permitted free m n ps → (over free m n ≡ 0) × (last_area 0 (greedy free m n) ≤ last_area 0 ps)
  greedy_best m n ps c =
      let j = last_area 0 ps in (
        used-up m j 0 n (last-most 0 1 m ps (omega arith) c.rising) (cutting-cap free m n ps c),
        omega (arith, ends_by m j 0 0 n 0 (omega arith) (cutting-cap free m n ps c)),
      )

  -- THEOREM: the greedy plan's last area is the earliest that there is
  pub greedy-earliest : (m n : ℕ) → over free m n ≡ 0 → Earliest free m n (last_area 0 (greedy free m n))
  greedy-earliest m n e =
      record { cutting = greedy free m n; permitted = greedy-permitted m n e; last = refl; least = λ ps c. (greedy_best m n ps c).1 }

  -- THEOREM: no cutting is permitted exactly if the greedy plan leaves bytes over
  pub none_over : (m n : ℕ) → ((ps : List Piece) → Permitted free m n ps → ⊥) → 0 < over free m n
  none_over m n none = go (over free m n) refl
    where
      go : (k : ℕ) → over free m n ≡ k → 0 < k
      go zero e = absurd (none (greedy free m n) (greedy-permitted m n e))
      go (suc k) e = omega arith

  pub over_none : (m n : ℕ) → 0 < over free m n → (ps : List Piece) → Permitted free m n ps → ⊥
  over_none m n h ps c = omega (arith, (greedy_best m n ps c).0)

  -- THEOREM: a cutting is permitted exactly if the areas have room for the whole image
  pub carried : (m n : ℕ) → n ≤ cap free 0 m → Permitted free m n (greedy free m n)
  carried m n h = greedy-permitted m n (used-up m m 0 n (omega arith) h)

  pub carries : (m n : ℕ) (ps : List Piece) → Permitted free m n ps → n ≤ cap free 0 m
  carries m n ps c = over-cap m 0 n (greedy_best m n ps c).0
