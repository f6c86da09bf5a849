-- What a search looks at lies in the image exactly if the last of it does, since the headers stand one behind the other.
-- Then nothing behind the image matters: a longer one has the same headers, and the same is decided at the last.
use Prim.Native.Nat.{ℕ, zero, suc, ◌+◌, ◌*◌, ◌≤◌, ◌<◌}
use native.Mathlib.Omega.{arith}
use mathlib.Core.Path.{◌≡◌, refl, sym, ◌∙◌}
use mathlib.Core.List.{List, [], ◌∷◌, ◌++◌}
use mathlib.Core.Bool.{Bool, true, false}
use lib.ListN.{length, get_or-append}
use lib.Dec.{leb, eqb}
use borrow.Author.Tests.{le-leb, leb-true, eq-eqb, ne_eqb, eqb-true, eqb-false}
use Rattle.refusal.specs.Said.{Said, gives, absent, refuses, pick}
use Rattle.wire.specs.Bytes.{byte_at}
use Rattle.eeprom.specs.Image.{image_most, within}
use Rattle.eeprom.proofs.Laws.{within-is}
use Rattle.category.specs.Layout.{mark_words, header_words, type_at, length_at, end_mark, word_most}
use Rattle.category.specs.Category.{numbers, among, Stepped, done, next, stepped, searched, category_said}
use Rattle.category.specs.First.{Passes, HeaderAt, first, behind, FirstOf}
use Rattle.wire.specs.Bytes.{bit}
use Rattle.category.specs.Inside.{header_end, Inside, onward, last_over, last_from, last_header, end_inside, inside_said}
use Rattle.category.proofs.Laws.{step_passes, step_mark, last_step}
use Rattle.category.proofs.Ends.{reaches, reached_done, search_ends}
use Rattle.category.proofs.First.{Asked, asked_says, says_asked, unmarked, Answer, found, nowhere, too_far, category_answer, first_found, found_first, first-last}

-- ---- what the call says

pub last_within : (image : List ℕ) (number w : ℕ) → w ≡ last_header image number → w ≤ word_most
last_within image number w e =
    let h = search_ends image number in
    rw e (reaches image number (last_header image number) h.before h.header).inside

module _ (image : List ℕ) (number : ℕ) where
  pub inside_ended : within image ≡ true → among number numbers ≡ true →
      (w : ℕ) (s r : Said) → s ≡ searched image number → w ≡ last_header image number → r ≡ end_inside image w s → r ≡ inside_said image number
  unfolding inside_said category_said
  inside_ended i n w s r p q e = rw (i, n, ← p, ← q) e

-- ---- the ends of headers

header_end_least : (image : List ℕ) (w : ℕ) → 2 * w ≤ header_end image w
unfolding header_end
header_end_least image w = go (eqb (type_at image w) end_mark)
  where
    go : (t : Bool) → 2 * w ≤ 2 * (w + pick t mark_words header_words)
    go true = omega arith
    go false = omega arith

header_end_most : (image : List ℕ) (w : ℕ) → header_end image w ≤ 2 * (w + header_words)
unfolding header_end
header_end_most image w = go (eqb (type_at image w) end_mark)
  where
    go : (t : Bool) → 2 * (w + pick t mark_words header_words) ≤ 2 * (w + header_words)
    go true = omega arith
    go false = omega arith

last-least : (f : ℕ) (image : List ℕ) (number w e : ℕ) → w ≤ last_over f image number w e
unfolding last_over
last-least zero image number w e = omega arith
last-least (suc f) image number w e = go (stepped image number w e) refl (λ w' e'. last-least f image number w' e')
  where
    go : (s : Stepped) → s ≡ stepped image number w e → ((w' e' : ℕ) → w' ≤ last_over f image number w' e') → w ≤ onward w s (last_over f image number)
    go (done s) q h = omega arith
    go (next w' e') q h = omega (arith, (step_passes image number w e w' e' q).there, h w' e')

-- no header ends behind the last one
header-before : (image : List ℕ) (number w e : ℕ) → HeaderAt image number w e → header_end image w ≤ header_end image (last_header image number)
unfolding last_from
header-before image number w e h = go (stepped image number w e) refl (sym (last_step image number w e) ∙ (reaches image number w e h).last)
  where
    go : (s : Stepped) → s ≡ stepped image number w e → onward w s (last_from image number) ≡ last_header image number → header_end image w ≤ header_end image (last_header image number)
    go (done s) q l = rw l (let z : header_end image (last_header image number) ≤ header_end image (last_header image number) = omega arith in z)
    go (next w' e') q l =
        omega (arith, (step_passes image number w e w' e' q).there, last-least (suc word_most) image number w' e', l, header_end_most image w, header_end_least image (last_header image number))

-- ---- inside exactly if every header that is come to, and the category found, lie in the image

-- what is said of the end that is looked at
bit_yes : (a b : ℕ) → gives (bit (leb a b) ∷ []) ≡ gives (1 ∷ []) → a ≤ b
bit_yes a b p = go (leb a b) refl p
  where
    go : (t : Bool) → leb a b ≡ t → gives (bit t ∷ []) ≡ gives (1 ∷ []) → a ≤ b
    go true h q = leb-true a b h
    go false h q = let z : ◌≡◌ {A = ℕ} 0 1 = cc in absurd (omega arith)

yes_bit : (a b : ℕ) → a ≤ b → gives (bit (leb a b) ∷ []) ≡ gives (1 ∷ [])
yes_bit a b h = rw (le-leb a b h)

module _ (image : List ℕ) (number : ℕ) where
  -- where `category` answers, what is said is by its answer
  inside-by : (s : Said) → category_said image number ≡ s → inside_said image number ≡ end_inside image (last_header image number) s
  unfolding inside_said
  inside-by s c = rw c

  inside_found : (pos end : ℕ) → category_said image number ≡ gives (pos ∷ end ∷ []) → inside_said image number ≡ gives (bit (leb end (length image)) ∷ [])
  unfolding end_inside
  inside_found pos end c = inside-by (gives (pos ∷ end ∷ [])) c

  inside-absent : category_said image number ≡ absent → inside_said image number ≡ gives (bit (leb (header_end image (last_header image number)) (length image)) ∷ [])
  unfolding end_inside
  inside-absent c = inside-by absent c

  pub inside-refuses : (n : ℕ) (v : List ℕ) → category_said image number ≡ refuses n v → inside_said image number ≡ refuses n v
  unfolding end_inside
  inside-refuses n v c = inside-by (refuses n v) c

  module _ (i : inside_said image number ≡ gives (1 ∷ [])) where
    pub inside_asked : Asked image number
    inside_asked = says_asked image number (category_said image number) refl (λ q.
        let r = sym i ∙ inside-refuses 14 [] q in
        let z : ◌≡◌ {A = ℕ} 0 1 = cc in
        omega arith)

    -- the category found
    inside-body : (pos end : ℕ) → FirstOf image number pos end → end ≤ length image
    inside-body pos end f = bit_yes end (length image) (sym (inside_found pos end (first_found image number inside_asked pos end f)) ∙ i)

    -- the last header, by the answer's cases
    inside-last : header_end image (last_header image number) ≤ length image
    inside-last = go (category_answer image number inside_asked)
      where
        go : Answer image number (category_said image number) → header_end image (last_header image number) ≤ length image
        go (found pos end f c) =
            omega (arith, inside-body pos end f, f.starts, f.ends, first-last image number pos end f, header_end_most image (last_header image number))
        go (nowhere f c) = bit_yes (header_end image (last_header image number)) (length image) (sym (inside-absent c) ∙ i)
        go (too_far f c) =
            let r = sym i ∙ inside-refuses 1 [] c in
            let z : ◌≡◌ {A = ℕ} 0 1 = cc in
            absurd (omega arith)

    pub inside_all : Inside image number
    inside_all = record { headers = λ w e h. omega (arith, header-before image number w e h, inside-last); body = inside-body }

  pub all_inside : ((n : ℕ) (v : List ℕ) → category_said image number ≡ refuses n v → ⊥) → Inside image number → inside_said image number ≡ gives (1 ∷ [])
  all_inside never i = go (category_answer image number (says_asked image number (category_said image number) refl (never 14 [])))
    where
      go : Answer image number (category_said image number) → inside_said image number ≡ gives (1 ∷ [])
      go (found pos end f c) = inside_found pos end c ∙ yes_bit end (length image) (i.body pos end f)
      go (nowhere f c) =
          let e = search_ends image number in
          inside-absent c ∙ yes_bit (header_end image (last_header image number)) (length image) (i.headers (last_header image number) e.before e.header)
      go (too_far f c) = absurd (never 1 [] c)

-- ---- a longer image

byte_longer : (image more : List ℕ) (i : ℕ) → i < length image → byte_at (image ++ more) i ≡ byte_at image i
unfolding byte_at
byte_longer image more i h = get_or-append image more 255 i h

module _ (image more : List ℕ) (w : ℕ) where
  type-longer : 2 * (w + 1) ≤ length image → type_at (image ++ more) w ≡ type_at image w
  type-longer h = rw (byte_longer image more (2 * w) (omega arith), byte_longer image more (2 * w + 1) (omega arith))

  length-longer : 2 * (w + 2) ≤ length image → length_at (image ++ more) w ≡ length_at image w
  length-longer h = rw (byte_longer image more (2 * (w + 1)) (omega arith), byte_longer image more (2 * (w + 1) + 1) (omega arith))

-- of the mark only the type lies in the image, of another header both words
header-marked : (image : List ℕ) (w : ℕ) → type_at image w ≡ end_mark → header_end image w ≡ 2 * (w + mark_words)
unfolding header_end
header-marked image w t = rw (eq-eqb (type_at image w) end_mark t)

header-whole : (image : List ℕ) (w : ℕ) → (type_at image w ≡ end_mark → ⊥) → header_end image w ≡ 2 * (w + header_words)
unfolding header_end
header-whole image w t = rw (ne_eqb (type_at image w) end_mark t)

module _ (image more : List ℕ) (number : ℕ) (i : Inside image number) where
  pass-longer : (w e w' e' : ℕ) → HeaderAt image number w e → Passes image number w e w' e' → Passes (image ++ more) number w e w' e'
  pass-longer w e w' e' h p =
      let b : 2 * (w + 2) ≤ length image = omega (arith, i.headers w e h, header-whole image w p.unmarked) in
      let t = type-longer image more w (omega arith) in
      let l = length-longer image more w b in
      record { other = rw t p.other; unmarked = rw t p.unmarked; there = rw l p.there; inside = p.inside; count = rw l p.count; few = p.few }

  header-longer : (w e : ℕ) → HeaderAt image number w e → HeaderAt (image ++ more) number w e
  header-longer _ _ first = first
  header-longer _ _ (behind w e w' e' h p) = behind w e w' e' (header-longer w e h) (pass-longer w e w' e' h p)

  -- the same is decided at each header
  step-longer : (number ≡ end_mark → ⊥) → (w e : ℕ) → HeaderAt image number w e → stepped (image ++ more) number w e ≡ stepped image number w e
  unfolding stepped
  step-longer n w e h = go (eqb (type_at image w) end_mark) refl
    where
      go : (t : Bool) → eqb (type_at image w) end_mark ≡ t → stepped (image ++ more) number w e ≡ stepped image number w e
      go true q =
          let m = eqb-true (type_at image w) end_mark q in
          let b : 2 * (w + 1) ≤ length image = omega (arith, i.headers w e h, header-marked image w m) in
          step_mark (image ++ more) number w e n (type-longer image more w b ∙ m) ∙ sym (step_mark image number w e n m)
      go false q =
          let b : 2 * (w + 2) ≤ length image = omega (arith, i.headers w e h, header-whole image w (eqb-false (type_at image w) end_mark q)) in
          rw (type-longer image more w (omega arith), length-longer image more w b)

  -- so the search ends at the same header with the same
  search-longer : (number ≡ end_mark → ⊥) → (searched image number ≡ searched (image ++ more) number) × (last_header image number ≡ last_header (image ++ more) number)
  search-longer n =
      let e = search_ends image number in
      let w = last_header image number in
      reached_done (image ++ more) number w e.before (searched image number) (header-longer w e.before e.header) (e.decides ∙ sym (step-longer n w e.before e.header))

-- what is read is read from the image alone: no bytes behind it change what is found ..
module _ (image more : List ℕ) (number : ℕ) (i : inside_said image number ≡ gives (1 ∷ [])) (h : length (image ++ more) ≤ image_most) where
  pub inside_longer : category_said (image ++ more) number ≡ category_said image number
  inside_longer =
      let a = inside_asked image number i in
      let s = (search-longer image more number (inside_all image number i) (unmarked number a.known)).0 in
      asked_says (image ++ more) number (record { short = within-is (image ++ more) h; known = a.known }) ∙ sym s ∙ sym (asked_says image number a)

  -- .. nor a byte of it
  pub inside-bytes : (pos end : ℕ) → category_said image number ≡ gives (pos ∷ end ∷ []) → (k : ℕ) → k < end → byte_at (image ++ more) k ≡ byte_at image k
  inside-bytes pos end c k l =
      byte_longer image more k (omega (arith, (inside_all image number i).body pos end (found_first image number pos end c)))
