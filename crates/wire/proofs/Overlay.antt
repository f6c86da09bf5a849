-- Laws of a list after another is laid over it, byte by byte and as lists: inside it is the laid list, outside what it was.
use Prim.Native.Nat.{ℕ, ◌+◌, ◌-◌, ◌≤◌, ◌<◌}
use native.Mathlib.Omega.{arith}
use mathlib.Core.Path.{◌≡◌, refl, ap, ◌∙◌}
use mathlib.Core.List.{List, ◌++◌, append_assoc}
use lib.ListN.{length, get_or, take, drop, length-take, get_or-append}
use lib.Seq.{get_or-append-add, get_or-take, get_or-drop, take_at, drop_at, drop-append-add, length-take-le}
use Rattle.wire.specs.Bytes.{byte_at, overlay}
use Rattle.wire.proofs.Laws.{front}

module _ (xs : List ℕ) (at : ℕ) (ys : List ℕ) (h : at + length ys ≤ length xs) where
  pub overlay-before : (i : ℕ) → i < at → byte_at (overlay xs at ys) i ≡ byte_at xs i
  unfolding byte_at overlay
  overlay-before i b =
      let f : i < length (take at xs ++ ys) = omega (arith, front xs at ys h) in
      let g : i < length (take at xs) = simp length-take (omega arith) in
      get_or-append (take at xs ++ ys) _ 255 i f ∙ get_or-append (take at xs) ys 255 i g ∙ get_or-take at xs i 255 b

  pub overlay-past : (i : ℕ) → at + length ys ≤ i → byte_at (overlay xs at ys) i ≡ byte_at xs i
  unfolding byte_at overlay
  overlay-past i b =
      let n = i - (at + length ys) in
      let e : i ≡ length (take at xs ++ ys) + n = omega (arith, front xs at ys h) in
      let f : at + length ys + n ≡ i = omega arith in
      ap (λ (j : ℕ). get_or (take at xs ++ ys ++ drop (at + length ys) xs) j 255) e
      ∙ get_or-append-add (take at xs ++ ys) _ n 255
      ∙ get_or-drop (at + length ys) xs n 255
      ∙ ap (λ (j : ℕ). get_or xs j 255) f

  pub overlay-inside : (k : ℕ) → k < length ys → byte_at (overlay xs at ys) (at + k) ≡ byte_at ys k
  unfolding byte_at overlay
  overlay-inside k b =
      let f : at + k < length (take at xs ++ ys) = omega (arith, front xs at ys h) in
      let g : at + k ≡ length (take at xs) + k = simp length-take (omega arith) in
      get_or-append (take at xs ++ ys) _ 255 (at + k) f
      ∙ ap (λ (j : ℕ). get_or (take at xs ++ ys) j 255) g
      ∙ get_or-append-add (take at xs) ys k 255

  -- ---- the same as lists

  before : length (take at xs) ≡ at
  before = length-take-le at xs (omega arith)

  pub overlay-front : take at (overlay xs at ys) ≡ take at xs
  unfolding overlay
  overlay-front = rw (append_assoc, take_at (take at xs) (ys ++ drop (at + length ys) xs) at before)

  pub take-overlay : take (at + length ys) (overlay xs at ys) ≡ take at xs ++ ys
  unfolding overlay
  take-overlay = take_at (take at xs ++ ys) (drop (at + length ys) xs) (at + length ys) (front xs at ys h)

  pub drop-overlay : drop (at + length ys) (overlay xs at ys) ≡ drop (at + length ys) xs
  unfolding overlay
  drop-overlay = drop_at (take at xs ++ ys) (drop (at + length ys) xs) (at + length ys) (front xs at ys h)

  pub middle_overlay : take (length ys) (drop at (overlay xs at ys)) ≡ ys
  unfolding overlay
  middle_overlay =
      rw (append_assoc, drop_at (take at xs) (ys ++ drop (at + length ys) xs) at before) (take_at ys (drop (at + length ys) xs) (length ys) refl)

  -- laid again at the same place
  pub overlay_again : (zs : List ℕ) → length zs ≡ length ys → overlay (overlay xs at ys) at zs ≡ overlay xs at zs
  unfolding overlay
  overlay_again zs e =
      let d : drop (at + length zs) (overlay xs at ys) ≡ drop (at + length zs) xs = rw e drop-overlay in
      let t : take at (overlay xs at ys) ≡ take at xs = overlay-front in
      rw (d, t) refl

-- laid just behind a list
pub overlay-behind : (xs rest ys : List ℕ) → overlay (xs ++ rest) (length xs) ys ≡ xs ++ (ys ++ drop (length ys) rest)
unfolding overlay
overlay-behind xs rest ys = rw (take_at xs rest (length xs) refl, drop-append-add xs rest (length ys)) (append_assoc xs ys (drop (length ys) rest))
