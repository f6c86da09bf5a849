-- Two images of one length that hold the same bytes from the first category's header on have the same categories, and what is read there is the same:
-- the search begins at word 0x0040 and only moves on.
use Prim.Native.Nat.{ℕ, zero, suc, ◌+◌, ◌*◌, ◌≤◌}
use native.Mathlib.Omega.{arith}
use mathlib.Core.Path.{◌≡◌, refl}
use mathlib.Core.List.{List, []}
use mathlib.Core.Bool.{Bool, true, false}
use lib.ListN.{length, get_or}
use lib.Dec.{ltb, leb, eqb}
use Rattle.refusal.specs.Said.{Said, gives, absent, refuses, pick, on2}
use Rattle.wire.specs.Bytes.{byte_at}
use Rattle.eeprom.specs.Image.{within}
use Rattle.eeprom.specs.Range.{new_said}
use Rattle.eeprom.proofs.Laws.{new_cases}
use Rattle.category.specs.Layout.{first_header, type_at, length_at, end_mark, word_most}
use Rattle.category.specs.Category.{empty_most, counted, among, numbers, Stepped, done, next, decided, stepped, follow, search_over, search_from, searched, category_said}

-- the first byte of the categories
abbrev pub categories : ℕ
categories = 2 * first_header

-- ---- what is found stands among the categories

-- an answer whose range, if it gives one, stands among the categories
abbrev pub Behind : Said → Type 0
Behind (gives l) = categories ≤ get_or l 0 0
Behind absent = Unit {0}
Behind (refuses n v) = Unit {0}

abbrev BehindStep : Stepped → Type 0
BehindStep (done s) = Behind s
BehindStep (next w e) = first_header ≤ w

new_behind : (w n : ℕ) → first_header ≤ w → Behind (new_said w n)
new_behind w n h = new_cases w n Behind (omega arith) tt

step_behind : (image : List ℕ) (number w e : ℕ) → first_header ≤ w → BehindStep (stepped image number w e)
unfolding stepped decided
step_behind image number w e h = go (length_at image w) (ltb word_most (w + 2)) (leb empty_most (counted (length_at image w) e)) (eqb (type_at image w) number) (eqb (type_at image w) end_mark) (ltb word_most (w + 2 + length_at image w))
  where
    go : (len : ℕ) (t₁ t₂ t₃ t₄ t₅ : Bool) → BehindStep (pick t₁ (done absent) (pick t₂ (done absent) (pick t₃ (done (new_said (w + 2) len)) (pick t₄ (done absent) (pick t₅ (done (refuses 1 [])) (next (w + 2 + len) (counted len e)))))))
    go len true t₂ t₃ t₄ t₅ = tt
    go len false true t₃ t₄ t₅ = tt
    go len false false true t₄ t₅ = new_behind (w + 2) len (omega arith)
    go len false false false true t₅ = tt
    go len false false false false true = tt
    go len false false false false false = omega arith

follow-behind : (s : Stepped) (go : ℕ → ℕ → Said) → BehindStep s → ((w e : ℕ) → first_header ≤ w → Behind (go w e)) → Behind (follow s go)
follow-behind (done s) go b h = b
follow-behind (next w e) go b h = h w e b

over-behind : (f : ℕ) (image : List ℕ) (number w e : ℕ) → first_header ≤ w → Behind (search_over f image number w e)
unfolding search_over
over-behind zero image number w e h = tt
over-behind (suc f) image number w e h =
    follow-behind (stepped image number w e) (search_over f image number) (step_behind image number w e h) (λ w' e'. over-behind f image number w' e')

searched-behind : (image : List ℕ) (number : ℕ) → Behind (searched image number)
unfolding searched search_from
searched-behind image number = over-behind (suc word_most) image number first_header 0 (omega arith)

pub category-behind : (image : List ℕ) (number : ℕ) → Behind (category_said image number)
unfolding category_said
category-behind image number = go (within image) (among number numbers)
  where
    go : (a b : Bool) → Behind (pick a (pick b (searched image number) (refuses 14 [])) (refuses 14 []))
    go true true = searched-behind image number
    go true false = tt
    go false b = tt

-- ---- two images that are the same from there on

follow-same : (x : Stepped) (a b : ℕ → ℕ → Said) → BehindStep x → ((w e : ℕ) → first_header ≤ w → a w e ≡ b w e) → follow x a ≡ follow x b
follow-same (done s) a b k h = refl
follow-same (next w e) a b k h = h w e k

module _ (s t : List ℕ) (size : length s ≡ length t) (same : (i : ℕ) → categories ≤ i → byte_at s i ≡ byte_at t i) (number : ℕ) where
  step_same : (w e : ℕ) → first_header ≤ w → stepped s number w e ≡ stepped t number w e
  unfolding stepped
  step_same w e h =
      let a : type_at s w ≡ type_at t w = rw (same (2 * w) (omega arith), same (2 * w + 1) (omega arith)) in
      let b : length_at s w ≡ length_at t w = rw (same (2 * (w + 1)) (omega arith), same (2 * (w + 1) + 1) (omega arith)) in
      rw (a, b)

  over-same : (f w e : ℕ) → first_header ≤ w → search_over f s number w e ≡ search_over f t number w e
  unfolding search_over
  over-same zero w e h = refl
  over-same (suc f) w e h =
      rw (step_same w e h) (follow-same (stepped t number w e) (search_over f s number) (search_over f t number) (step_behind t number w e h) (λ w' e'. over-same f w' e'))

  searched-same : searched s number ≡ searched t number
  unfolding searched search_from
  searched-same = over-same (suc word_most) first_header 0 (omega arith)

  pub category-same : category_said s number ≡ category_said t number
  unfolding category_said within
  category-same = rw (size, searched-same)

  -- what follows a category that is found, and reads only from its start on
  pub on_category-same : (a b : ℕ → ℕ → Said) → ((p end : ℕ) → categories ≤ p → a p end ≡ b p end) →
      on2 (category_said s number) a ≡ on2 (category_said t number) b
  unfolding on2
  on_category-same a b h = rw category-same (go (category_said t number) (category-behind t number))
    where
      go : (x : Said) → Behind x → on2 x a ≡ on2 x b
      go (gives l) k = h (get_or l 0 0) (get_or l 1 0) k
      go absent k = refl
      go (refuses n v) k = refl
