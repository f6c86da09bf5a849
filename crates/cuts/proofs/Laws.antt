-- Laws of cuttings, each by going along the pieces; at the end, that a permitted cutting carries no more than its areas have room for.
use mathlib.Core.Path.{◌≡◌, refl}
use Prim.Native.Nat.{ℕ, zero, suc, ◌+◌, ◌-◌, ◌*◌, ◌≤◌, ◌<◌}
use native.Mathlib.Omega.{arith}
use native.Mathlib.Nat.{suc-mul}
use mathlib.Core.List.{List, [], ◌∷◌}
use mathlib.Core.Bool.{Bool, true, false}
use lib.Dec.{eqb, ltb}
use borrow.Author.Tests.{eqb-true, eqb-false, ltb-true, ltb-false, eq-eqb, ne_eqb, le-ltb, lt-ltb}
use Rattle.refusal.specs.Said.{pick}
use Rattle.pdu.specs.Pdu.{pdu_overhead}
use Rattle.cuts.specs.Cut.{Piece, Chain, Rising, load, Permitted, free_of, last_area}
use Rattle.cuts.specs.Measure.{size_in, size_after, cap}

-- ---- Chain

-- a chain's end is not before its start
pub chain-le : (o n : ℕ) (ps : List Piece) → Chain o n ps → o ≤ n
unfolding Chain
chain-le o n [] c = omega arith
chain-le o n (p ∷ ps) c = omega (arith, chain-le (o + p.size) n ps c.2)

-- ---- Rising and last_area

-- the last is no earlier than where they start
pub last-least : (lo m : ℕ) (ps : List Piece) → Rising lo m ps → lo ≤ last_area lo ps
unfolding last_area Rising
last-least lo m [] r = omega arith
last-least lo m (p ∷ ps) r = omega (arith, r.0, last-least p.area m ps r.2)

-- no area is past the last
pub rising-last : (l lo m : ℕ) (ps : List Piece) → Rising lo m ps → Rising lo (last_area l ps) ps
unfolding last_area Rising
rising-last l lo m [] r = tt
rising-last l lo m (p ∷ ps) r = (r.0, last-least p.area m ps r.2, rising-last p.area p.area m ps r.2)

-- the last is within the row
pub last-most : (l lo m : ℕ) (ps : List Piece) → l ≤ m → Rising lo m ps → last_area l ps ≤ m
unfolding last_area Rising
last-most l lo m [] h r = h
last-most l lo m (p ∷ ps) h r = last-most p.area p.area m ps r.1 r.2

-- areas before the first piece's have no load
pub rising_none : (k lo m : ℕ) (ps : List Piece) → k < lo → Rising lo m ps → load k ps ≡ 0
unfolding load Rising
rising_none k lo m [] h r = refl
rising_none k lo m (p ∷ ps) h r =
    rw (ne_eqb p.area k (λ e. omega (arith, r.0)))
    (omega (arith, rising_none k p.area m ps (omega (arith, r.0)) r.2))

-- .. nor have those past the row
pub rising-past : (k lo m : ℕ) (ps : List Piece) → m < k → Rising lo m ps → load k ps ≡ 0
unfolding load Rising
rising-past k lo m [] h r = refl
rising-past k lo m (p ∷ ps) h r = rw (ne_eqb p.area k (λ e. omega (arith, r.1))) (omega (arith, rising-past k p.area m ps h r.2))

-- ---- load and size_in

-- a piece in front needs its bytes and 12
pub load_own : (p : Piece) (ps : List Piece) → load p.area (p ∷ ps) ≡ p.size + pdu_overhead + load p.area ps
unfolding load
load_own p ps = rw (eq-eqb p.area p.area refl) refl

-- the pieces behind it need no more
pub load_rest : (k : ℕ) (p : Piece) (ps : List Piece) → load k ps ≤ load k (p ∷ ps)
unfolding load
load_rest k p ps = omega arith

in_load-one : (b : Bool) (z S L : ℕ) → S ≤ L - pdu_overhead → pick b z 0 + S ≤ pick b (z + pdu_overhead) 0 + L - pdu_overhead
in_load-one true z S L h = omega arith
in_load-one false z S L h = omega arith

-- an area carries at least 12 bytes less than its pieces need
pub in_load : (k : ℕ) (ps : List Piece) → size_in k ps ≤ load k ps - pdu_overhead
unfolding size_in load
in_load k [] = omega arith
in_load k (p ∷ ps) = in_load-one (eqb p.area k) p.size (size_in k ps) (load k ps) (in_load k ps)

-- .. and where the last piece lies in it, so much and 12 is at most its load
pub last-load : (p : Piece) (ps : List Piece) (k : ℕ) → last_area p.area ps ≡ k → size_in k (p ∷ ps) + pdu_overhead ≤ load k (p ∷ ps)
unfolding last_area load size_in
last-load p [] k e = rw (eq-eqb p.area k e) (omega arith)
last-load p (q ∷ ps) k e = one (eqb p.area k) p.size (size_in k (q ∷ ps)) (load k (q ∷ ps)) (last-load q ps k e)
  where
    one : (b : Bool) (z S L : ℕ) → S + pdu_overhead ≤ L → pick b z 0 + S + pdu_overhead ≤ pick b (z + pdu_overhead) 0 + L
    one true z S L h = omega arith
    one false z S L h = omega arith

-- ---- size_after

after_one : (i a z : ℕ) (b c d : Bool) → ltb i a ≡ b → eqb a (suc i) ≡ c → ltb (suc i) a ≡ d → pick b z 0 ≡ pick c z 0 + pick d z 0
after_one i a z true true true p q r = omega (arith, ltb-true, eqb-true)
after_one i a z true true false p q r = omega arith
after_one i a z true false true p q r = omega arith
after_one i a z true false false p q r = absurd (eqb-false a (suc i) q (omega (arith, ltb-true, ltb-false)))
after_one i a z false true true p q r = omega (arith, ltb-false, eqb-true)
after_one i a z false true false p q r = omega (arith, ltb-false, eqb-true)
after_one i a z false false true p q r = omega (arith, ltb-false, ltb-true)
after_one i a z false false false p q r = omega arith

-- what lies after area i lies in area i + 1, or after it
pub after_step : (i : ℕ) (ps : List Piece) → size_after i ps ≡ size_in (suc i) ps + size_after (suc i) ps
unfolding size_in size_after
after_step i [] = refl
after_step i (p ∷ ps) = omega (arith, after_step i ps, after_one i p.area p.size _ _ _ refl refl refl)

-- nothing lies after the row
pub after_none : (i lo m : ℕ) (ps : List Piece) → Rising lo m ps → m ≤ i → size_after i ps ≡ 0
unfolding size_after Rising
after_none i lo m [] r h = refl
after_none i lo m (p ∷ ps) r h = rw (le-ltb i p.area (omega (arith, r.1))) (omega (arith, after_none i p.area m ps r.2 h))

-- all of it lies after area 0
pub all_after : (o n lo m : ℕ) (ps : List Piece) → Chain o n ps → Rising lo m ps → 1 ≤ lo → o + size_after 0 ps ≡ n
unfolding size_after Rising Chain
all_after o n lo m [] c r h = omega arith
all_after o n lo m (p ∷ ps) c r h =
    rw (lt-ltb 0 p.area (omega (arith, r.0)))
    (omega (arith, all_after (o + p.size) n p.area m ps c.2 r.2 (omega (arith, r.0))))

-- ---- cap

module _ (free : ℕ → ℕ) where
  -- what lies after area i is no more than the areas up to the row's last have room for
  after-cap : (d i lo m : ℕ) (ps : List Piece) → Rising lo m ps → ((k : ℕ) → load k ps ≤ free k) → m ≤ i + d → size_after i ps ≤ cap free i d
  unfolding cap
  after-cap zero i lo m ps r f h = omega (arith, after_none i lo m ps r (omega arith))
  after-cap (suc d) i lo m ps r f h =
      omega (arith, after_step i ps, in_load (suc i) ps, f (suc i), after-cap d (suc i) lo m ps r f (omega arith))

  -- a permitted cutting carries no more than the areas up to its last have room for
  pub cutting-cap : (m n : ℕ) (ps : List Piece) → Permitted free m n ps → n ≤ cap free 0 (last_area 0 ps)
  cutting-cap m n ps c =
      let r = rising-last 0 1 m ps c.rising in
      omega (arith, all_after 0 n 1 m ps c.chain c.rising (omega arith), after-cap (last_area 0 ps) 0 1 (last_area 0 ps) ps r c.fits (omega arith))

-- ---- free_of

pub free_later : (f s k : ℕ) → 1 < k → free_of f s k ≡ s
free_later f s k h = rw (ne_eqb k 1 (λ e. omega arith)) refl

-- where the first area is empty, all are alike
pub free-alike : (s k : ℕ) → free_of s s k ≡ s
free-alike s k = go (eqb k 1)
  where
    go : (b : Bool) → pick b s s ≡ s
    go true = refl
    go false = refl

later_cap : (f s d i : ℕ) → 1 ≤ i → cap (free_of f s) i d ≡ d * (s - pdu_overhead)
unfolding cap
later_cap f s zero i h = omega arith
later_cap f s (suc d) i h = rw (free_later f s (suc i) (omega arith), later_cap f s d (suc i) (omega arith), suc-mul d (s - pdu_overhead)) (omega arith)

-- a row of d + 1 areas has room for the first's free bytes less 12, and d times the size less 12
pub row-cap : (f s d : ℕ) → cap (free_of f s) 0 (suc d) ≡ (f - pdu_overhead) + d * (s - pdu_overhead)
unfolding cap
row-cap f s d = rw (later_cap f s d 1 (omega arith)) refl
