-- Each answer of a search has a definition that speaks of no search. A header of its kind is where the search ends, which gives one way;
-- and the header at which it ends is of one of the three kinds, which gives the other.
use Prim.Native.Nat.{ℕ, ◌+◌, ◌*◌, ◌%◌, ◌≤◌}
use native.Mathlib.Omega.{arith}
use mathlib.Core.Path.{◌≡◌, refl, sym, ap, ◌∙◌}
use mathlib.Core.List.{List, [], ◌∷◌}
use mathlib.Core.Bool.{Bool, true, false, false≢true}
use borrow.Author.Tests.{leb-true, leb-false}
use lib.Dec.{leb}
use Rattle.refusal.specs.Said.{Said, gives, absent, refuses, pick}
use Rattle.eeprom.specs.Image.{image_most, within, fine}
use Rattle.eeprom.specs.Range.{new_said}
use Rattle.eeprom.proofs.Laws.{bounds-is, fine-is, new_gives, new_refuses}
use Rattle.category.specs.Layout.{header_words, type_at, length_at, end_mark}
use Rattle.category.specs.Category.{numbers, among, done, stepped, searched, category_said}
use Rattle.category.specs.First.{Followed, FirstOf, NoneOf, NoFurther, past, empty, mark, LeadsPast, TooFar, over, above}
use Rattle.category.specs.Inside.{last_header}
use Rattle.category.proofs.Laws.{step_match, step_mark, step_past, step_empty, step_over}
use Rattle.category.proofs.Ends.{search_ends, reached_done, Why, none, named, leads, step_why}

-- ---- a search that ends at a header of a kind

module _ (image : List ℕ) (number : ℕ) where
  first_ends : (pos end : ℕ) (f : FirstOf image number pos end) → (searched image number ≡ gives (pos ∷ end ∷ [])) × (f.word ≡ last_header image number)
  first_ends pos end f =
      let w = f.word in
      let n = length_at image w in
      let m = step_match image number w f.before f.followed.inside f.followed.few f.named in
      let r = reached_done image number w f.before (new_said (w + header_words) n) f.header (sym m) in
      (sym r.0 ∙ new_gives (w + header_words) n (omega (arith, f.starts, f.ends, f.bounded)) ∙ rw (f.ends, f.starts), r.1)

  none-ends : (number ≡ end_mark → ⊥) → NoneOf image number → searched image number ≡ absent
  none-ends n f = sym (reached_done image number f.word f.before absent f.header (sym (go f.word f.before f.why))).0
    where
      go : (w e : ℕ) → NoFurther image w e → stepped image number w e ≡ done absent
      go w e (past h) = step_past image number w e h
      go w e (empty h) = step_empty image number w e h
      go w e (mark h) = step_mark image number w e n h

  past-ends : LeadsPast image number → searched image number ≡ refuses 1 []
  past-ends f = sym (reached_done image number f.word f.before (refuses 1 []) f.header (sym (go f.why))).0
    where
      go : TooFar image number f.word → stepped image number f.word f.before ≡ done (refuses 1 [])
      go (over n m h) = step_over image number f.word f.before f.followed.inside f.followed.few n m h
      go (above t h) =
          step_match image number f.word f.before f.followed.inside f.followed.few t
          ∙ ap done (new_refuses (f.word + header_words) (length_at image f.word) h)

-- ---- every search ends so

-- an answer, and why
pub data Answer (image : List ℕ) (number : ℕ) (s : Said) : Type 0 where
  found : (pos end : ℕ) → FirstOf image number pos end → s ≡ gives (pos ∷ end ∷ []) → Answer image number s
  nowhere : NoneOf image number → s ≡ absent → Answer image number s
  too_far : LeadsPast image number → s ≡ refuses 1 [] → Answer image number s

module _ (image : List ℕ) (number : ℕ) where
  search-answer : Answer image number (searched image number)
  search-answer =
      let e = search_ends image number in
      go (searched image number) (step_why image number (last_header image number) e.before (searched image number) e.decides)
    where
      leads-past : Followed image (last_header image number) (search_ends image number).before → TooFar image number (last_header image number) → LeadsPast image number
      leads-past f why =
          record { word = last_header image number; before = (search_ends image number).before; header = (search_ends image number).header; followed = f; why = why }

      ranged : (t : Bool) (s : Said) (v n : ℕ) → v ≡ last_header image number → n ≡ length_at image (last_header image number) → leb (2 * (v + 2) + 2 * n) image_most ≡ t →
          Followed image (last_header image number) (search_ends image number).before → type_at image (last_header image number) ≡ number → s ≡ new_said (v + 2) n → Answer image number s
      ranged true s v n p q h f t r =
          let k = leb-true (2 * (v + 2) + 2 * n) image_most h in
          found (2 * (v + 2)) (2 * (v + 2) + 2 * n)
          (record {
            word = last_header image number;
            before = (search_ends image number).before;
            header = (search_ends image number).header;
            followed = f;
            named = t;
            starts = rw p;
            ends = rw q;
            bounded = k;
          })
          (r ∙ new_gives (v + 2) n k)
      ranged false s v n p q h f t r =
          let k = leb-false (2 * (v + 2) + 2 * n) image_most h in
          too_far (leads-past f (above t (rw (← q, ← p) k))) (r ∙ new_refuses (v + 2) n k)

      go : (s : Said) → Why image number (last_header image number) (search_ends image number).before s → Answer image number s
      go s (none h q) =
          nowhere (record { word = last_header image number; before = (search_ends image number).before; header = (search_ends image number).header; why = h }) q
      go s (named f t q) = ranged _ s (last_header image number) (length_at image (last_header image number)) refl refl refl f t q
      go s (leads f n m h q) = too_far (leads-past f (over n m h)) q

-- ---- what `category` says

-- the image is not too long, and the number may be sought
pub record Asked (image : List ℕ) (number : ℕ) : Type 0 where
  pub short : within image ≡ true
  pub known : among number numbers ≡ true

-- the mark's type is none of the numbers
pub unmarked : (number : ℕ) → among number numbers ≡ true → number ≡ end_mark → ⊥
unfolding among
unmarked number k e = false≢true (sym (ap (λ (n : ℕ). among n numbers) e) ∙ k)

module _ (image : List ℕ) (number : ℕ) where
  pub asked_says : Asked image number → category_said image number ≡ searched image number
  unfolding category_said
  asked_says a = rw (a.short, a.known)

  -- what is not 14 was asked
  pub says_asked : (s : Said) → category_said image number ≡ s → (s ≡ refuses 14 [] → ⊥) → Asked image number
  unfolding category_said
  says_asked s p never = go (within image) (among number numbers) refl refl p
    where
      go : (a b : Bool) → within image ≡ a → among number numbers ≡ b → pick a (pick b (searched image number) (refuses 14 [])) (refuses 14 []) ≡ s → Asked image number
      go true true w k p = record { short = w; known = k }
      go true false w k p = absurd (never (sym p))
      go false b w k p = absurd (never (sym p))

  module _ (a : Asked image number) where
    -- one of the three
    pub category_answer : Answer image number (category_said image number)
    category_answer = rw (asked_says a) (search-answer image number)

    -- a range if it is the first category of the number, absent if there is none, 1 if it leads past
    pub first_found : (pos end : ℕ) → FirstOf image number pos end → category_said image number ≡ gives (pos ∷ end ∷ [])
    first_found pos end f = asked_says a ∙ (first_ends image number pos end f).0

    pub none-absent : NoneOf image number → category_said image number ≡ absent
    none-absent f = asked_says a ∙ none-ends image number (unmarked number a.known) f

    pub past-refused : LeadsPast image number → category_said image number ≡ refuses 1 []
    past-refused f = asked_says a ∙ past-ends image number f

  -- .. and only then
  pub found_first : (pos end : ℕ) → category_said image number ≡ gives (pos ∷ end ∷ []) → FirstOf image number pos end
  found_first pos end p = go (category_said image number) p (category_answer (says_asked _ p (λ q. (let z : ◌≡◌ {A = ℕ} 0 1 = cc in omega arith))))
    where
      go : (s : Said) → s ≡ gives (pos ∷ end ∷ []) → Answer image number s → FirstOf image number pos end
      go s p (found i j f q) =
          let a : pos ≡ i = cc in
          let b : end ≡ j = cc in
          rw (a, b) f
      go s p (nowhere f q) = let z : ◌≡◌ {A = ℕ} 0 1 = cc in absurd (omega arith)
      go s p (too_far f q) = let z : ◌≡◌ {A = ℕ} 0 1 = cc in absurd (omega arith)

  pub absent_none : category_said image number ≡ absent → NoneOf image number
  absent_none p = go (category_said image number) p (category_answer (says_asked _ p (λ q. (let z : ◌≡◌ {A = ℕ} 0 1 = cc in omega arith))))
    where
      go : (s : Said) → s ≡ absent → Answer image number s → NoneOf image number
      go s p (found i j f q) = let z : ◌≡◌ {A = ℕ} 0 1 = cc in absurd (omega arith)
      go s p (nowhere f q) = f
      go s p (too_far f q) = let z : ◌≡◌ {A = ℕ} 0 1 = cc in absurd (omega arith)

  pub refused-past : category_said image number ≡ refuses 1 [] → LeadsPast image number
  refused-past p = go (category_said image number) p (category_answer (says_asked _ p (λ q. (let z : ◌≡◌ {A = ℕ} 1 14 = cc in omega arith))))
    where
      go : (s : Said) → s ≡ refuses 1 [] → Answer image number s → LeadsPast image number
      go s p (found i j f q) = let z : ◌≡◌ {A = ℕ} 0 1 = cc in absurd (omega arith)
      go s p (nowhere f q) = let z : ◌≡◌ {A = ℕ} 0 1 = cc in absurd (omega arith)
      go s p (too_far f q) = f

-- the first category's header is the last that is looked at
pub first-last : (image : List ℕ) (number pos end : ℕ) (f : FirstOf image number pos end) → f.word ≡ last_header image number
first-last image number pos end f = (first_ends image number pos end f).1

-- ---- the range that is found

-- what a call on a range asks
pub record Readable (image : List ℕ) (end : ℕ) : Type 0 where
  pub short : within image ≡ true
  pub even : end % 2 ≡ 0
  pub last : end ≤ image_most

pub category_readable : (image : List ℕ) (number pos end : ℕ) → category_said image number ≡ gives (pos ∷ end ∷ []) → Readable image end
category_readable image number pos end p =
    let a = says_asked image number _ p (λ q. (let z : ◌≡◌ {A = ℕ} 0 1 = cc in omega arith)) in
    let f = found_first image number pos end p in
    record { short = a.short; even = omega (arith, f.starts, f.ends); last = f.bounded }

-- .. and has, wherever the range stands up to its end
pub readable_at : (image : List ℕ) (pos end : ℕ) → Readable image end → pos ≤ end → fine image pos end ≡ true
readable_at image pos end r h = fine-is image pos end r.short (bounds-is pos end (omega (arith, r.last)) r.last r.even)

-- a range that is found lies within the limit, as the search's answer tells it
pub found_within : (image : List ℕ) (number pos end : ℕ) → gives (pos ∷ end ∷ []) ≡ category_said image number → (pos ≤ image_most) × (end ≤ image_most)
found_within image number pos end p =
    let f = found_first image number pos end (sym p) in
    (omega (arith, f.ends, f.bounded), f.bounded)
