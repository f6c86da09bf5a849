-- Among permitted cuttings that end where the greedy plan does, none leaves more free bytes there; where all areas are alike none has fewer pieces.
-- Both by what the areas before have room for.
use mathlib.Core.Path.{◌≡◌, refl}
use Prim.Native.Nat.{ℕ, zero, suc, ◌+◌, ◌-◌, ◌≤◌, ◌<◌, min}
use native.Mathlib.Omega.{arith}
use native.Mathlib.Nat.{add-zero, zero-add}
use mathlib.Core.List.{List, [], ◌∷◌}
use lib.ListN.{length}
use borrow.Author.Tests.{eq-eqb, ne_eqb}
use Rattle.pdu.specs.Pdu.{pdu_overhead}
use Rattle.cuts.specs.Cut.{Piece, Chain, Rising, load, Permitted, free_of, last_area}
use Rattle.cuts.specs.Greedy.{piece, room, greedy_from, greedy}
use Rattle.cuts.specs.Measure.{size_in, size_after, cap}
use Rattle.cuts.proofs.Laws.{load_own, load_rest, in_load, last-load, after_step, after_none, all_after, rising-last, cutting-cap, free-alike}
use Rattle.cuts.proofs.Greedy.{greedy_nothing, greedy-before}

-- ---- the load of a piece in front, unless it is empty

piece-at : (a o t : ℕ) (ps : List Piece) → load a ps ≡ 0 → load a (piece a o t ps) ≤ t + pdu_overhead
unfolding load
piece-at a o zero ps e = omega arith
piece-at a o (suc t) ps e = rw (eq-eqb a a refl) (omega arith)

piece_off : (k a o t : ℕ) (ps : List Piece) → a < k → load k (piece a o t ps) ≡ load k ps
unfolding load
piece_off k a o zero ps lt = refl
piece_off k a o (suc t) ps lt = rw (ne_eqb a k (λ e. omega arith)) (zero-add (load k ps))

piece-count : (a o t j : ℕ) (ps : List Piece) → length ps ≤ j → length (piece a o t ps) ≤ suc j
piece-count a o zero j ps h = omega arith
piece-count a o (suc t) j ps h = omega arith

module _ (free : ℕ → ℕ) where
  -- ---- the first claim

  -- what lies after area i is at most what the next j areas have room for and what lies after these
  after-least : (j i : ℕ) (ps : List Piece) → ((k : ℕ) → load k ps ≤ free k) → size_after i ps ≤ cap free i j + size_after (i + j) ps
  unfolding cap
  after-least zero i ps f = rw (add-zero i) (omega arith)
  after-least (suc j) i ps f =
      let e : suc i + j ≡ i + suc j = omega arith in
      let h : size_after (suc i) ps ≤ cap free (suc i) j + size_after (i + suc j) ps = rw (← e) (after-least j (suc i) ps f) in
      omega (arith, after_step i ps, in_load (suc i) ps, f (suc i))

  -- the greedy plan's load in an area is at most 12 over what the areas before it have no room for
  greedy-most : (d j i o left : ℕ) → load (suc (i + j)) (greedy_from free d i o left) ≤ left - cap free i j + pdu_overhead
  unfolding greedy_from cap load
  greedy-most zero j i o left = omega arith
  greedy-most (suc d) zero i o left =
      let t = min left (room free (suc i)) in
      let ps = greedy_from free d (suc i) (o + t) (left - t) in
      let z : load (suc i) ps ≡ 0 = greedy-before free d (suc i) (o + t) (left - t) (suc i) (omega arith) in
      let h : load (suc i) (piece (suc i) o t ps) ≤ t + pdu_overhead = piece-at (suc i) o t ps z in
      rw (add-zero i) (omega arith)
  greedy-most (suc d) (suc j) i o left =
      let t = min left (room free (suc i)) in
      let ps = greedy_from free d (suc i) (o + t) (left - t) in
      let e : suc (i + suc j) ≡ suc (suc i + j) = omega arith in
      let h : load (suc (suc i + j)) ps ≤ left - t - cap free (suc i) j + pdu_overhead = greedy-most d j (suc i) (o + t) (left - t) in
      rw (e, piece_off (suc (suc i + j)) (suc i) o t ps (omega arith)) (omega arith)

  least-load : (m n j : ℕ) (ps : List Piece) → 1 ≤ n → Permitted free m n ps → last_area 0 ps ≡ suc j → load (suc j) (greedy free m n) ≤ load (suc j) ps
  unfolding last_area Chain
  least-load m n j [] pos c e = absurd (let z : ⊥ = omega (arith, c.chain) in z)
  least-load m n j (p ∷ ps) pos c e =
      let r : Rising 1 (last_area 0 (p ∷ ps)) (p ∷ ps) = rising-last 0 1 m (p ∷ ps) c.rising in
      let x : 0 + size_after 0 (p ∷ ps) ≡ n = all_after 0 n 1 m (p ∷ ps) c.chain c.rising (omega arith) in
      let y : size_after 0 (p ∷ ps) ≤ cap free 0 j + size_after j (p ∷ ps) = rw (zero-add j) at (after-least j 0 (p ∷ ps) c.fits) in
      let z : size_after j (p ∷ ps) ≡ size_in (suc j) (p ∷ ps) + size_after (suc j) (p ∷ ps) = after_step j (p ∷ ps) in
      let w : size_after (suc j) (p ∷ ps) ≡ 0 = after_none (suc j) 1 (last_area 0 (p ∷ ps)) (p ∷ ps) r (omega arith) in
      let v : size_in (suc j) (p ∷ ps) + pdu_overhead ≤ load (suc j) (p ∷ ps) = last-load p ps (suc j) e in
      let u : load (suc j) (greedy free m n) ≤ n - cap free 0 j + pdu_overhead = rw (zero-add j) at (greedy-most m j 0 0 n) in
      omega arith

  no-cap : (j : ℕ) → j ≡ 0 → cap free 0 j ≡ 0
  unfolding cap
  no-cap zero e = refl
  no-cap (suc j) e = absurd (let z : ⊥ = omega arith in z)

  -- THEOREM: of a non-empty image, none that ends in the same area leaves more free bytes there
  pub none_freer : (m n : ℕ) (ps : List Piece) → 1 ≤ n → Permitted free m n ps → last_area 0 ps ≡ last_area 0 (greedy free m n)
      → let k = last_area 0 (greedy free m n) in free k - load k ps ≤ free k - load k (greedy free m n)
  none_freer m n ps pos c e = go (last_area 0 (greedy free m n)) e
    where
      go : (k : ℕ) → last_area 0 ps ≡ k → free k - load k ps ≤ free k - load k (greedy free m n)
      go zero q = absurd (let z : ⊥ = omega (arith, cutting-cap free m n ps c, no-cap (last_area 0 ps) q) in z)
      go (suc j) q = let h : load (suc j) (greedy free m n) ≤ load (suc j) ps = least-load m n j ps pos c q in omega arith

  -- ---- the second claim

  -- what j areas have room for takes at most j pieces
  few : (d j i o left : ℕ) → left ≤ cap free i j → length (greedy_from free d i o left) ≤ j
  unfolding greedy_from cap
  few zero j i o left h = omega arith
  few (suc d) zero i o left h =
      let e : left ≡ 0 = omega arith in
      rw e (rw (greedy_nothing free (suc d) i o) (omega arith))
  few (suc d) (suc j) i o left h =
      let t = min left (room free (suc i)) in
      piece-count (suc i) o t j (greedy_from free d (suc i) (o + t) (left - t)) (few d j (suc i) (o + t) (left - t) (omega arith))

  module _ (s : ℕ) (alike : (k : ℕ) → free k ≡ s) where
    -- where all areas are alike, j pieces carry no more than j areas have room for
    chain-cap : (ps : List Piece) (i o n : ℕ) → Chain o n ps → ((k : ℕ) → load k ps ≤ free k) → n - o ≤ cap free i (length ps)
    unfolding Chain cap
    chain-cap [] i o n c f = omega arith
    chain-cap (p ∷ ps) i o n c f =
        omega (
          arith,
          alike (suc i),
          alike p.area,
          load_own p ps,
          f p.area,
          chain-cap ps (suc i) (o + p.size) n c.2 (λ k. omega (arith, load_rest k p ps, f k)),
        )

    -- THEOREM: then none has fewer pieces
    pub none_fewer : (m n : ℕ) (ps : List Piece) → Permitted free m n ps → length (greedy free m n) ≤ length ps
    none_fewer m n ps c = few m (length ps) 0 0 n (omega (arith, chain-cap ps 0 0 n c.chain c.fits))

-- .. so with an empty first area
pub none_fewer_empty : (s m n : ℕ) (ps : List Piece) → Permitted (free_of s s) m n ps → length (greedy (free_of s s) m n) ≤ length ps
none_fewer_empty s m n ps c = none_fewer (free_of s s) s (free-alike s) m n ps c
