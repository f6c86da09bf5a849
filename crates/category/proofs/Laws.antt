-- Laws of the category search. The bound on headers is never met, since each header lies two words behind the one before:
-- so `search_step` unfolds the search header by header, and the laws below it go by that.
use Prim.Native.Nat.{ℕ, zero, suc, ◌+◌, ◌≤◌, ◌<◌}
use native.Mathlib.Omega.{arith}
use mathlib.Core.Path.{◌≡◌, refl, sym, ◌∙◌}
use mathlib.Core.List.{List, []}
use mathlib.Core.Bool.{Bool, true, false}
use borrow.Author.Tests.{lt-ltb, le-ltb, le-leb, lt-leb, eq-eqb, ne_eqb, ltb-false, leb-false, eqb-false}
use lib.Dec.{ltb, leb, eqb}
use Rattle.refusal.specs.Said.{Said, absent, refuses, pick}
use Rattle.eeprom.specs.Range.{new_said}
use Rattle.category.specs.Layout.{first_header, header_words, type_at, length_at, end_mark, word_most}
use Rattle.category.specs.Category.{empty_most, counted, Stepped, done, next, decided, stepped, follow, search_over, search_from, searched}
use Rattle.category.specs.First.{Passes}
use Rattle.category.specs.Inside.{onward, last_over, last_from, last_header}

-- ---- the count of empty headers

pub counted-empty : (e : ℕ) → counted 0 e ≡ e + 1
unfolding counted
counted-empty e = refl

pub counted-filled : (len e : ℕ) → 0 < len → counted len e ≡ e
unfolding counted
counted-filled len e h =
    let n : eqb len 0 ≡ false = ne_eqb len 0 (λ z. omega arith) in
    rw n

pub counted-more : (len e : ℕ) → e ≤ counted len e
unfolding counted
counted-more len e = go (eqb len 0)
  where
    go : (t : Bool) → e ≤ pick t (e + 1) e
    go true = omega arith
    go false = omega arith

-- ---- what one header decides

-- each test before the last failed, and so did the last
on_all : {w e : ℕ} (t₁ t₂ t₃ t₄ t₅ : Bool) (s : Said) (a b : ℕ) →
    next w e ≡ pick t₁ (done absent) (pick t₂ (done absent) (pick t₃ (done s) (pick t₄ (done absent) (pick t₅ (done (refuses 1 [])) (next a b))))) →
    (t₂ ≡ false) × (t₃ ≡ false) × (t₄ ≡ false) × (t₅ ≡ false) × (w ≡ a) × (e ≡ b)
on_all true t₂ t₃ t₄ t₅ s a b p = (cc, cc, cc, cc, cc, cc)
on_all false true t₃ t₄ t₅ s a b p = (cc, cc, cc, cc, cc, cc)
on_all false false true t₄ t₅ s a b p = (cc, cc, cc, cc, cc, cc)
on_all false false false true t₅ s a b p = (cc, cc, cc, cc, cc, cc)
on_all false false false false true s a b p = (cc, cc, cc, cc, cc, cc)
on_all false false false false false s a b p = (refl, refl, refl, refl, cc, cc)

module _ (type len number body e : ℕ) where
  decided-match : body ≤ word_most → e < empty_most → type ≡ number → decided type len number body e ≡ done (new_said body len)
  unfolding decided
  decided-match i f t = rw (le-ltb word_most body i, lt-leb empty_most e f, eq-eqb type number t)

  decided-other : body + len ≤ word_most → e < empty_most → (type ≡ number → ⊥) → (type ≡ end_mark → ⊥) → decided type len number body e ≡ next (body + len) e
  unfolding decided
  decided-other i f n m =
      let b : body ≤ word_most = omega arith in
      rw (le-ltb word_most body b, lt-leb empty_most e f, ne_eqb type number n, ne_eqb type end_mark m, le-ltb word_most (body + len) i)

  decided-over : body ≤ word_most → e < empty_most → (type ≡ number → ⊥) → (type ≡ end_mark → ⊥) → word_most < body + len → decided type len number body e ≡ done (refuses 1 [])
  unfolding decided
  decided-over i f n m h =
      rw (le-ltb word_most body i, lt-leb empty_most e f, ne_eqb type number n, ne_eqb type end_mark m, lt-ltb word_most (body + len) h)

  decided-empty : empty_most ≤ e → decided type len number body e ≡ done absent
  unfolding decided
  decided-empty h = rw (le-leb empty_most e h) (go (ltb word_most body))
    where
      go : (t : Bool) → pick t (done absent) (done absent) ≡ done absent
      go true = refl
      go false = refl

  decided-mark : (number ≡ end_mark → ⊥) → type ≡ end_mark → decided type len number body e ≡ done absent
  unfolding decided
  decided-mark n t =
      let m : type ≡ number → ⊥ = λ q. n (sym q ∙ t) in
      rw (ne_eqb type number m, eq-eqb type end_mark t) (go (ltb word_most body) (leb empty_most e))
    where
      go : (t₁ t₂ : Bool) → pick t₁ (done absent) (pick t₂ (done absent) (done absent)) ≡ done absent
      go true t₂ = refl
      go false true = refl
      go false false = refl

module _ (image : List ℕ) (number w e : ℕ) where
  pub step_passes : (w' e' : ℕ) → next w' e' ≡ stepped image number w e → Passes image number w e w' e'
  unfolding stepped decided
  step_passes w' e' p = go (type_at image w) (length_at image w) refl refl p
    where
      go : (type len : ℕ) → type_at image w ≡ type → length_at image w ≡ len →
          next w' e' ≡ decided type len number (w + header_words) (counted len e) → Passes image number w e w' e'
      go type len t l p =
          let q = on_all (ltb word_most (w + 2)) (leb empty_most (counted len e)) (eqb type number) (eqb type end_mark) (ltb word_most (w + 2 + len)) _ _ _ p in
          record {
            other = rw t (eqb-false type number q.1);
            unmarked = rw t (eqb-false type end_mark q.2);
            there = rw l q.4;
            inside = omega (arith, ltb-false word_most (w + 2 + len) q.3, q.4);
            count = rw l q.5;
            few = omega (arith, leb-false empty_most (counted len e) q.0, q.5);
          }

  -- a header of the number sought
  pub step_match : w + header_words ≤ word_most → counted (length_at image w) e < empty_most → type_at image w ≡ number →
      stepped image number w e ≡ done (new_said (w + header_words) (length_at image w))
  unfolding stepped
  step_match i f t = decided-match (type_at image w) (length_at image w) number (w + header_words) (counted (length_at image w) e) i f t

  -- a header of another number
  step_other : (w' e' : ℕ) → Passes image number w e w' e' → stepped image number w e ≡ next w' e'
  unfolding stepped
  step_other w' e' p =
      rw (p.there, p.count)
      (decided-other (type_at image w) (length_at image w) number (w + header_words) (counted (length_at image w) e) (omega (arith, p.there, p.inside)) (omega (arith, p.count, p.few)) p.other p.unmarked)

  -- the mark behind the last category
  pub step_mark : (number ≡ end_mark → ⊥) → type_at image w ≡ end_mark → stepped image number w e ≡ done absent
  unfolding stepped
  step_mark n t = decided-mark (type_at image w) (length_at image w) number (w + header_words) (counted (length_at image w) e) n t

  -- past the last word there is no body
  pub step_past : word_most < w + header_words → stepped image number w e ≡ done absent
  unfolding stepped decided
  step_past h = rw (lt-ltb word_most (w + header_words) h)

  -- the 32nd empty header
  pub step_empty : empty_most ≤ counted (length_at image w) e → stepped image number w e ≡ done absent
  unfolding stepped
  step_empty h = decided-empty (type_at image w) (length_at image w) number (w + header_words) (counted (length_at image w) e) h

  -- a length that leads past the last word
  pub step_over : w + header_words ≤ word_most → counted (length_at image w) e < empty_most → (type_at image w ≡ number → ⊥) → (type_at image w ≡ end_mark → ⊥) →
      word_most < w + header_words + length_at image w → stepped image number w e ≡ done (refuses 1 [])
  unfolding stepped
  step_over i f n m h =
      decided-over (type_at image w) (length_at image w) number (w + header_words) (counted (length_at image w) e) i f n m h

-- ---- the search

same : (s : Stepped) (a b : ℕ → ℕ → Said) → ((w e : ℕ) → next w e ≡ s → a w e ≡ b w e) → follow s a ≡ follow s b
same (done s) a b h = refl
same (next w e) a b h = h w e refl

enough : (image : List ℕ) (number f g w e : ℕ) → word_most < w + f → word_most < w + g → search_over f image number w e ≡ search_over g image number w e
unfolding search_over
enough image number zero zero w e h k = refl
enough image number zero (suc g) w e h k = rw (step_past image number w e (omega arith))
enough image number (suc f) zero w e h k = rw (step_past image number w e (omega arith))
enough image number (suc f) (suc g) w e h k =
    same (stepped image number w e) _ _ (λ w' e' p.
    let q = step_passes image number w e w' e' p in
    enough image number f g w' e' (omega (arith, q.there)) (omega (arith, q.there)))

-- the search goes header by header
pub search_step : (image : List ℕ) (number w e : ℕ) → search_from image number w e ≡ follow (stepped image number w e) (search_from image number)
unfolding search_from search_over
search_step image number w e =
    same (stepped image number w e) _ _ (λ w' e' p.
    let q = step_passes image number w e w' e' p in
    enough image number word_most (suc word_most) w' e' (omega (arith, q.there)) (omega (arith, q.there)))

-- .. and so does its last header
onward-same : (v : ℕ) (s : Stepped) (a b : ℕ → ℕ → ℕ) → ((w e : ℕ) → next w e ≡ s → a w e ≡ b w e) → onward v s a ≡ onward v s b
onward-same v (done s) a b h = refl
onward-same v (next w e) a b h = h w e refl

last_enough : (image : List ℕ) (number f g w e : ℕ) → word_most < w + f → word_most < w + g → last_over f image number w e ≡ last_over g image number w e
unfolding last_over
last_enough image number zero zero w e h k = refl
last_enough image number zero (suc g) w e h k = rw (step_past image number w e (omega arith))
last_enough image number (suc f) zero w e h k = rw (step_past image number w e (omega arith))
last_enough image number (suc f) (suc g) w e h k =
    onward-same w (stepped image number w e) _ _ (λ w' e' p.
    let q = step_passes image number w e w' e' p in
    last_enough image number f g w' e' (omega (arith, q.there)) (omega (arith, q.there)))

pub last_step : (image : List ℕ) (number w e : ℕ) → last_from image number w e ≡ onward w (stepped image number w e) (last_from image number)
unfolding last_from last_over
last_step image number w e =
    onward-same w (stepped image number w e) _ _ (λ w' e' p.
    let q = step_passes image number w e w' e' p in
    last_enough image number word_most (suc word_most) w' e' (omega (arith, q.there)) (omega (arith, q.there)))

module _ (image : List ℕ) (number w e : ℕ) where
  -- what the search says where its next header is of the number sought, of another, or the mark
  pub search_match : w + header_words ≤ word_most → counted (length_at image w) e < empty_most → type_at image w ≡ number →
      search_from image number w e ≡ new_said (w + header_words) (length_at image w)
  search_match i f t = search_step image number w e ∙ rw (step_match image number w e i f t)

  pub search_other : (w' e' : ℕ) → Passes image number w e w' e' → search_from image number w e ≡ search_from image number w' e'
  search_other w' e' p = search_step image number w e ∙ rw (step_other image number w e w' e' p)

  pub search_mark : (number ≡ end_mark → ⊥) → type_at image w ≡ end_mark → search_from image number w e ≡ absent
  search_mark n t = search_step image number w e ∙ rw (step_mark image number w e n t)

-- the search begins at the first header
pub search_first : (image : List ℕ) (number : ℕ) → search_from image number first_header 0 ≡ searched image number
unfolding searched
search_first image number = refl

-- .. with no header before it the last one is the whole search's
pub last-first : (image : List ℕ) (number : ℕ) → last_from image number first_header 0 ≡ last_header image number
unfolding last_header
last-first image number = refl

-- a loop that goes header by header: what the search says from here on is what the whole search says, and so is its last header
pub record Goes (image : List ℕ) (number w e : ℕ) : Type 0 where
  pub inside : w ≤ word_most
  pub few : e < empty_most
  pub says : search_from image number w e ≡ searched image number
  pub last : last_from image number w e ≡ last_header image number

pub goes_first : (image : List ℕ) (number : ℕ) → Goes image number first_header 0
goes_first image number = record { inside = omega arith; few = omega arith; says = search_first image number; last = last-first image number }

module _ (image : List ℕ) (number w e : ℕ) (g : Goes image number w e) where
  pub loop_done : (s : Said) → done s ≡ stepped image number w e → (s ≡ searched image number) × (w ≡ last_header image number)
  loop_done s p = (sym (search_step image number w e ∙ rw (← p)) ∙ g.says, sym (last_step image number w e ∙ rw (← p)) ∙ g.last)

  pub loop_passes : (w' e' : ℕ) → Passes image number w e w' e' → Goes image number w' e'
  loop_passes w' e' q =
      let l : last_from image number w e ≡ last_from image number w' e' = last_step image number w e ∙ rw (step_other image number w e w' e' q) in
      record { inside = q.inside; few = q.few; says = sym (search_other image number w e w' e' q) ∙ g.says; last = sym l ∙ g.last }

  pub loop_next : (w' e' : ℕ) → next w' e' ≡ stepped image number w e → (w + 2 ≤ w') × Goes image number w' e'
  loop_next w' e' p =
      let q = step_passes image number w e w' e' p in
      (omega (arith, q.there), loop_passes w' e' q)
