-- A chain of pieces is what divides the image, byte by byte: both ways along the pieces, by which bytes the first one holds.
use mathlib.Core.Path.{◌≡◌, refl, sym, ◌∙◌}
use Prim.Native.Nat.{ℕ, ◌+◌, ◌-◌, ◌≤◌, ◌<◌}
use native.Mathlib.Omega.{arith}
use mathlib.Core.List.{List, [], ◌∷◌}
use mathlib.Core.Bool.{Bool, true, false, ◌&&◌}
use lib.Dec.{leb, ltb}
use borrow.Author.Tests.{leb-true, leb-false, ltb-true, ltb-false, le-leb, lt-leb, le-ltb, lt-ltb}
use Rattle.refusal.specs.Said.{pick}
use Rattle.cuts.specs.Cut.{Piece, Chain}
use Rattle.cuts.specs.Divide.{holders, NonEmpty, Ordered, Divides}
use Rattle.cuts.proofs.Laws.{chain-le}

-- ---- a byte in the first piece, before it, behind it

first_holds : (i : ℕ) (p : Piece) (ps : List Piece) → p.offset ≤ i → i < p.offset + p.size → holders i (p ∷ ps) ≡ 1 + holders i ps
unfolding holders
first_holds i p ps h k = rw (le-leb p.offset i h, lt-ltb i (p.offset + p.size) k) refl

first_later : (i : ℕ) (p : Piece) (ps : List Piece) → i < p.offset → holders i (p ∷ ps) ≡ holders i ps
unfolding holders
first_later i p ps h = rw (lt-leb p.offset i h) (omega arith)

first-earlier : (i : ℕ) (p : Piece) (ps : List Piece) → p.offset + p.size ≤ i → holders i (p ∷ ps) ≡ holders i ps
unfolding holders
first-earlier i p ps h = rw (le-ltb i (p.offset + p.size) h) (go (leb p.offset i))
  where
    go : (b : Bool) → pick (b && false) 1 0 + holders i ps ≡ holders i ps
    go true = omega arith
    go false = omega arith

-- ---- a chain divides

chain-before : (o n i : ℕ) (ps : List Piece) → Chain o n ps → i < o → holders i ps ≡ 0
unfolding Chain holders
chain-before o n i [] c h = refl
chain-before o n i (p ∷ ps) c h = first_later i p ps (omega (arith, c.0)) ∙ chain-before (o + p.size) n i ps c.2 (omega arith)

chain-past : (o n i : ℕ) (ps : List Piece) → Chain o n ps → n ≤ i → holders i ps ≡ 0
unfolding Chain holders
chain-past o n i [] c h = refl
chain-past o n i (p ∷ ps) c h =
    first-earlier i p ps (omega (arith, c.0, chain-le (o + p.size) n ps c.2)) ∙ chain-past (o + p.size) n i ps c.2 h

chain-once : (o n i : ℕ) (ps : List Piece) → Chain o n ps → o ≤ i → i < n → holders i ps ≡ 1
unfolding Chain
chain-once o n i [] c h k = absurd (let z : ⊥ = omega arith in z)
chain-once o n i (p ∷ ps) c h k = go (ltb i (o + p.size)) refl (λ le. chain-once (o + p.size) n i ps c.2 le k)
  where
    go : (b : Bool) → ltb i (o + p.size) ≡ b → (o + p.size ≤ i → holders i ps ≡ 1) → holders i (p ∷ ps) ≡ 1
    go true e ih =
        let lt : i < o + p.size = ltb-true _ _ e in
        omega (arith, first_holds i p ps (omega (arith, c.0)) (omega (arith, c.0)), chain-before (o + p.size) n i ps c.2 lt)
    go false e ih =
        let le : o + p.size ≤ i = ltb-false _ _ e in
        first-earlier i p ps (omega (arith, c.0)) ∙ ih le

chain_non_empty : (o n : ℕ) (ps : List Piece) → Chain o n ps → NonEmpty ps
unfolding Chain NonEmpty
chain_non_empty o n [] c = tt
chain_non_empty o n (p ∷ ps) c = (c.1, chain_non_empty (o + p.size) n ps c.2)

chain-ordered : (lo o n : ℕ) (ps : List Piece) → Chain o n ps → lo ≤ o → Ordered lo ps
unfolding Chain Ordered
chain-ordered lo o n [] c h = tt
chain-ordered lo o n (p ∷ ps) c h = (omega (arith, c.0), chain-ordered p.offset (o + p.size) n ps c.2 (omega (arith, c.0)))

-- THEOREM: a chain from 0 to n divides an image of n bytes
pub chain_divides : (n : ℕ) (ps : List Piece) → Chain 0 n ps → Divides n ps
chain_divides n ps c =
    record {
      non_empty = chain_non_empty 0 n ps c;
      ordered = chain-ordered 0 0 n ps c (omega arith);
      once = λ i h. chain-once 0 n i ps c (omega arith) h;
      inside = λ i h. chain-past 0 n i ps c h;
    }

-- ---- what divides is a chain

not_more : (a b : ℕ) → (b < a → ⊥) → a ≤ b
not_more a b f = go (leb a b) refl
  where
    go : (v : Bool) → leb a b ≡ v → a ≤ b
    go true e = leb-true a b e
    go false e = absurd (f (leb-false a b e))

ordered-before : (lo i : ℕ) (ps : List Piece) → Ordered lo ps → i < lo → holders i ps ≡ 0
unfolding Ordered holders
ordered-before lo i [] r h = refl
ordered-before lo i (p ∷ ps) r h = first_later i p ps (omega (arith, r.0)) ∙ ordered-before p.offset i ps r.1 (omega (arith, r.0))

-- the pieces ps hold each byte from o up to n once, and no other
record Once (o n : ℕ) (ps : List Piece) : Type 0 where
  before : (i : ℕ) → i < o → holders i ps ≡ 0
  once : (i : ℕ) → o ≤ i → i < n → holders i ps ≡ 1
  past : (i : ℕ) → n ≤ i → holders i ps ≡ 0

module _ (o n : ℕ) (p : Piece) (ps : List Piece) (some : 1 ≤ p.size) (rest : Ordered p.offset ps) (w : Once o n (p ∷ ps)) where
  starts-late : o ≤ p.offset
  starts-late = not_more o p.offset (λ lt. omega (arith, w.before p.offset lt, first_holds p.offset p ps (omega arith) (omega arith)))

  ends-early : p.offset + p.size ≤ n
  ends-early =
      let z : ℕ = p.offset + (p.size - 1) in
      not_more (p.offset + p.size) n (λ lt. omega (arith, w.past z (omega arith), first_holds z p ps (omega arith) (omega arith)))

  starts-at : p.offset ≡ o
  starts-at =
      let le : p.offset ≤ o = not_more p.offset o (λ lt. omega (arith, w.once o (omega arith) (omega (arith, ends-early)), first_later o p ps lt, ordered-before p.offset o ps rest lt)) in
      omega (arith, starts-late)

  once-rest : Once (o + p.size) n ps
  once-rest =
      let e : p.offset ≡ o = starts-at in
      record {
        before = λ i h. go i h (ltb i o) refl;
        once = λ i h k. sym (first-earlier i p ps (omega arith)) ∙ w.once i (omega arith) k;
        past = λ i h. sym (first-earlier i p ps (omega (arith, ends-early))) ∙ w.past i h;
      }
    where
      go : (i : ℕ) → i < o + p.size → (b : Bool) → ltb i o ≡ b → holders i ps ≡ 0
      go i h true q =
          let lt : i < o = ltb-true _ _ q in
          omega (arith, first_later i p ps (omega (arith, starts-late)), w.before i lt)
      go i h false q =
          let le : o ≤ i = ltb-false _ _ q in
          omega (arith, first_holds i p ps (omega (arith, starts-at)) (omega (arith, starts-at)), w.once i le (omega (arith, starts-at, ends-early)))

once-chain : (lo o n : ℕ) (ps : List Piece) → o ≤ n → NonEmpty ps → Ordered lo ps → Once o n ps → Chain o n ps
unfolding Chain NonEmpty Ordered holders
once-chain lo o n [] h s r w =
    let le : n ≤ o = not_more n o (λ lt. omega (arith, w.once o (omega arith) lt)) in omega arith
once-chain lo o n (p ∷ ps) h s r w =
    let e : p.offset ≡ o = starts-at o n p ps s.0 r.1 w in
    let k : p.offset + p.size ≤ n = ends-early o n p ps s.0 r.1 w in
    (e, s.0, once-chain p.offset (o + p.size) n ps (omega arith) s.1 r.1 (once-rest o n p ps s.0 r.1 w))

-- THEOREM: pieces that divide an image of n bytes are a chain from 0 to n
pub divides_chain : (n : ℕ) (ps : List Piece) → Divides n ps → Chain 0 n ps
divides_chain n ps d =
    once-chain 0 0 n ps (omega arith) d.non_empty d.ordered
    (record { before = λ i h. absurd (let z : ⊥ = omega arith in z); once = λ i h k. d.once i k; past = d.inside })
