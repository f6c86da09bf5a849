-- A category that stores texts gives the i-th as it is shown, since those before it are passed over one by one;
-- and what is given is the text of its index in the row that is stored there, which passing over them shows byte by byte.
use Prim.Native.Nat.{ℕ, zero, suc, ◌+◌, ◌-◌, ◌≤◌, ◌<◌}
use native.Mathlib.Omega.{arith}
use native.Mathlib.Numerals.{add-one}
use mathlib.Core.Path.{◌≡◌, refl, sym, ap, ◌∙◌}
use mathlib.Core.List.{List, [], ◌∷◌, ◌++◌, append-nil}
use mathlib.Core.Bool.{Bool, true, false}
use lib.ListN.{length, get_or, take, drop, length-append}
use lib.Seq.{take_at, drop_at}
use lib.Dec.{ltb}
use borrow.Author.Tests.{le-leb, ltb-true, ltb-false}
use Rattle.refusal.specs.Said.{Said, gives, absent, refuses, pick, on2, on3}
use Rattle.wire.specs.Bytes.{byte_at, span}
use Rattle.wire.proofs.Laws.{length-span, span-add}
use Rattle.eeprom.specs.Image.{within, in_bounds, fine}
use Rattle.eeprom.specs.Range.{byte_said, skip_said}
use Rattle.eeprom.proofs.Laws.{fine-bounds, byte-gives, byte-refuses, skip_gives, skip_refuses}
use Rattle.category.specs.Numbers.{strings}
use Rattle.category.specs.Category.{category_said}
use Rattle.category.proofs.First.{Readable, category_readable, readable_at, found_first}
use Rattle.strings.specs.Strings.{string_past, passed_one, passed, fitted, string_here, string_behind, string_in, sought_at, shown, text_said, room_most, fits, bounded, text_for, string_said}
use Rattle.strings.specs.Plain.{Plain}
use Rattle.strings.specs.Stored.{Lies, text_bytes, row_bytes, strings_bytes, Stored, TextOf}
use Rattle.strings.proofs.Laws.{past_not, not_past, past_all, sought_on, fitted-at, fitted-given}
use Rattle.strings.proofs.Given.{plain_shown}

-- ---- bytes that lie in an image

module _ (image : List ℕ) (p : ℕ) (a b : List ℕ) (h : Lies image p (a ++ b)) where
  halves : span image p (length a) ++ span image (p + length a) (length b) ≡ a ++ b
  unfolding Lies
  halves = sym (span-add image p (length a) (length b)) ∙ rw (← length-append a b) h

  lies-left : Lies image p a
  unfolding Lies
  lies-left =
      sym (take_at (span image p (length a)) (span image (p + length a) (length b)) (length a) (length-span image p (length a)))
      ∙ ap (take (length a)) halves ∙ take_at a b (length a) refl

  lies-right : Lies image (p + length a) b
  unfolding Lies
  lies-right =
      sym (drop_at (span image p (length a)) (span image (p + length a) (length b)) (length a) (length-span image p (length a)))
      ∙ ap (drop (length a)) halves ∙ drop_at a b (length a) refl

lies-place : (image : List ℕ) (p q : ℕ) (a : List ℕ) → p ≡ q → Lies image p a → Lies image q a
lies-place image p q a e h = rw (← e) h

lies-first : (image : List ℕ) (p b : ℕ) (bs : List ℕ) → Lies image p (b ∷ bs) → byte_at image p ≡ b
unfolding Lies span
lies-first image p b bs h = cc

lies_join : (image : List ℕ) (p : ℕ) (a b : List ℕ) → Lies image p a → Lies image (p + length a) b → Lies image p (a ++ b)
unfolding Lies
lies_join image p a b h k = rw (length-append, span-add, h, k)

-- ---- a text and those behind it

length_text : (t more : List ℕ) → length (text_bytes t ++ more) ≡ 1 + length t + length more
unfolding text_bytes
length_text t more = simp length-append (omega arith)

-- a text that is not the last has another behind it
some_more : (ts : List (List ℕ)) → 0 < length ts → 0 < length (row_bytes ts)
unfolding row_bytes
some_more [] h = h
some_more (t ∷ ts) h = omega (arith, length_text t (row_bytes ts))

module _ (image : List ℕ) (t more : List ℕ) (pos : ℕ) (l : Lies image pos (text_bytes t ++ more)) where
  length-there : byte_at image pos ≡ length t
  unfolding text_bytes
  length-there = lies-first image pos (length t) (t ++ more) l

  bytes-there : Lies image (pos + 1) t
  unfolding text_bytes
  bytes-there = lies-right image pos (length t ∷ []) t (lies-left image pos (text_bytes t) more l)

  more-there : Lies image (pos + 1 + length t) more
  unfolding text_bytes
  more-there =
      let z : pos + length (text_bytes t) ≡ pos + 1 + length t = omega arith in
      lies-place image (pos + length (text_bytes t)) (pos + 1 + length t) more z (lies-right image pos (text_bytes t) more l)

-- what lies behind a length is a text
text_here : (image : List ℕ) (pos n : ℕ) → byte_at image pos ≡ n → Lies image pos (text_bytes (span image (pos + 1) n))
unfolding Lies text_bytes span
text_here image pos n h = rw (length-span image (pos + 1) n, h, add-one)

-- ---- reading in a category that can be read

module _ (image : List ℕ) (end : ℕ) (r : Readable image end) where
  all-fine : (pos : ℕ) → pos ≤ end → fine image pos end ≡ true
  all-fine pos h = readable_at image pos end r h

  all_in : (pos : ℕ) → pos ≤ end → in_bounds pos end ≡ true
  all_in pos h = fine-bounds image pos end (all-fine pos h)

  byte-there : (pos : ℕ) → pos < end → byte_said image pos end ≡ gives (byte_at image pos ∷ (pos + 1) ∷ end ∷ [])
  byte-there pos h = byte-gives image pos end (all-fine pos (omega arith)) h

  -- a text here, and one passed over, by the byte that stands first
  here-fits : (k pos : ℕ) → pos < end → string_here image k pos end ≡ fitted image k (byte_at image pos) (pos + 1) end
  unfolding string_here on3
  here-fits k pos h = rw (byte-there pos h)

  over-skips : (pos : ℕ) → pos < end → passed_one image pos end ≡ skip_said (pos + 1) end (byte_at image pos)
  unfolding passed_one on3
  over-skips pos h = rw (byte-there pos h)

  -- .. where n stands there
  behind-none : (k pos n : ℕ) → byte_at image pos ≡ n → pos < end → string_behind image 0 k pos end ≡ fitted image k n (pos + 1) end
  unfolding string_behind passed on2
  behind-none k pos n b h = here-fits k pos h ∙ rw b

  behind-over : (s k pos n : ℕ) → byte_at image pos ≡ n → pos < end → pos + 1 + n < end → string_behind image (suc s) k pos end ≡ string_behind image s k (pos + 1 + n) end
  unfolding string_behind passed on2
  behind-over s k pos n b h m = rw (over-skips pos h, b, skip_gives (pos + 1) end n (all_in (pos + 1) (omega arith)) m)

  behind-cut : (s k pos n : ℕ) → byte_at image pos ≡ n → pos < end → end ≤ pos + 1 + n → string_behind image (suc s) k pos end ≡ refuses 2 []
  unfolding string_behind passed on2
  behind-cut s k pos n b h m = rw (over-skips pos h, b, skip_refuses (pos + 1) end n (all_in (pos + 1) (omega arith)) m)

  in-category : (s k pos : ℕ) → pos < end →
      string_in image s k pos end ≡ pick (string_past s (byte_at image pos)) absent (string_behind image s k (pos + 1) end)
  unfolding string_in on3
  in-category s k pos h = rw (byte-there pos h)

  -- an empty category has no count
  in-empty : (s k pos : ℕ) → pos ≤ end → end ≤ pos → string_in image s k pos end ≡ refuses 2 []
  unfolding string_in on3
  in-empty s k pos m h = rw (byte-refuses image pos end (all-fine pos m) h)

-- ---- what is stored is given

-- where a text lies
record At (image : List ℕ) (said : Said) (text : List ℕ) : Type 0 where
  place : ℕ
  gave : said ≡ gives (place ∷ length text ∷ [])
  lies : Lies image place text

module _ (image : List ℕ) (end k : ℕ) (r : Readable image end) where
  here-there : (t more : List ℕ) (pos : ℕ) → Lies image pos (text_bytes t ++ more) → pos + 1 + length t ≤ end → length t ≤ k → At image (string_behind image 0 k pos end) t
  here-there t more pos l e n =
      let z = length-there image t more pos l in
      record {
        place = pos + 1;
        gave = behind-none image end r k pos (length t) z (omega arith) ∙ sym (fitted-at image k (length t) (pos + 1) end (all-fine image end r (pos + 1) (omega arith)) n (omega arith));
        lies = bytes-there image t more pos l;
      }

  behind-there : (ts : List (List ℕ)) (i pos : ℕ) → i < length ts → Lies image pos (row_bytes ts) → pos + length (row_bytes ts) ≤ end →
      length (get_or ts i []) ≤ k → At image (string_behind image i k pos end) (get_or ts i [])
  unfolding row_bytes
  behind-there [] i pos h l e n = absurd (let z : ⊥ = omega arith in z)
  behind-there (t ∷ ts) zero pos h l e n = here-there t (row_bytes ts) pos l (omega (arith, length_text t (row_bytes ts))) n
  behind-there (t ∷ ts) (suc i) pos h l e n =
      let s = length_text t (row_bytes ts) in
      let m : 0 < length (row_bytes ts) = some_more ts (omega arith) in
      let z = length-there image t (row_bytes ts) pos l in
      let q = behind-there ts i (pos + 1 + length t) (omega arith) (more-there image t (row_bytes ts) pos l) (omega arith) n in
      let o = behind-over image end r i k pos (length t) z (omega arith) (omega arith) in
      record { place = q.place; gave = o ∙ q.gave; lies = q.lies }

  in-there : (ts : List (List ℕ)) (i pos : ℕ) → i < length ts → Stored image pos end ts → length (get_or ts i []) ≤ k → At image (string_in image i k pos end) (get_or ts i [])
  unfolding strings_bytes
  in-there ts i pos h s n =
      let c = lies-first image pos (length ts) (row_bytes ts) s.lies in
      let l = lies-right image pos (length ts ∷ []) (row_bytes ts) s.lies in
      let q = behind-there ts i (pos + 1) h l (omega (arith, s.inside)) n in
      record { place = q.place; gave = in-category image end r i k pos (omega (arith, s.inside)) ∙ rw (c, past_not i (length ts) h) q.gave; lies = q.lies }

  -- .. and no text behind the last
  in_absent : (ts : List (List ℕ)) (i pos : ℕ) → length ts ≤ i → Stored image pos end ts → string_in image i k pos end ≡ absent
  unfolding strings_bytes
  in_absent ts i pos h s =
      let c = lies-first image pos (length ts) (row_bytes ts) s.lies in
      in-category image end r i k pos (omega (arith, s.inside)) ∙ rw (c, past_all i (length ts) h)

-- the text at a place that was found
text_said_lem : (image : List ℕ) (k : ℕ) (said : Said) (text : List ℕ) → within image ≡ true → k ≤ room_most → At image said text → text_for image k said ≡ gives (shown text)
unfolding text_for bounded fits text_said on2 Lies
text_said_lem image k said text w m t = rw (w, le-leb k room_most m, t.gave, t.lies)

-- .. and where none was
no_text : (image : List ℕ) (k : ℕ) (said : Said) → within image ≡ true → k ≤ room_most → said ≡ absent → text_for image k said ≡ absent
unfolding text_for bounded fits text_said on2
no_text image k said w m a = rw (w, le-leb k room_most m, a)

module _ (image : List ℕ) (pos end : ℕ) (c : category_said image strings ≡ gives (pos ∷ end ∷ [])) where
  sought-in : (i k : ℕ) → sought_at image (i + 1) k ≡ string_in image i k pos end
  unfolding on2
  sought-in i k =
      let u : i + 1 - 1 ≡ i = omega arith in
      sym (sought_on image (i + 1) k (λ z. omega arith)) ∙ rw c (ap (λ (s : ℕ). string_in image s k pos end) u)

  module _ (ts : List (List ℕ)) (s : Stored image pos end ts) where
    -- by its index from 1, for a room that it fits
    pub stored-given : (i k : ℕ) → i < length ts → length (get_or ts i []) ≤ k → k ≤ room_most → string_said image (i + 1) k ≡ gives (shown (get_or ts i []))
    unfolding string_said
    stored-given i k h n m =
        let r = category_readable image strings pos end c in
        let t = in-there image end k r ts i pos h s n in
        text_said_lem image k (sought_at image (i + 1) k) (get_or ts i []) r.short m
        (record { place = t.place; gave = sought-in i k ∙ t.gave; lies = t.lies })

    -- an index above the count is absent, whatever lies behind the last text
    pub stored-absent : (i k : ℕ) → length ts ≤ i → k ≤ room_most → string_said image (i + 1) k ≡ absent
    unfolding string_said
    stored-absent i k h m =
        let r = category_readable image strings pos end c in
        no_text image k (sought_at image (i + 1) k) r.short m (sought-in i k ∙ in_absent image end k r ts i pos h s)

    -- plain texts as they are stored
    pub stored_plain : (i k : ℕ) → i < length ts → length (get_or ts i []) ≤ k → k ≤ room_most → Plain (get_or ts i []) → string_said image (i + 1) k ≡ gives (get_or ts i [])
    stored_plain i k h n m p = stored-given i k h n m ∙ ap gives (plain_shown (get_or ts i []) p)

-- ---- what is given is stored

-- texts from pos on, and behind s of them the one whose place was given
record Row (image : List ℕ) (pos end k s : ℕ) (place : List ℕ) : Type 0 where
  texts : List (List ℕ)
  many : length texts ≡ suc s
  lies : Lies image pos (row_bytes texts)
  inside : pos + length (row_bytes texts) ≤ end
  fits : length (get_or texts s []) ≤ k
  is : span image (get_or place 0 0) (get_or place 1 0) ≡ get_or texts s []

module _ (image : List ℕ) (end k : ℕ) (r : Readable image end) where
  row_here : (pos : ℕ) (l : List ℕ) → pos < end → string_behind image 0 k pos end ≡ gives l → Row image pos end k 0 l
  unfolding row_bytes
  row_here pos l h p =
      let n = byte_at image pos in
      let t = span image (pos + 1) n in
      let z : length t ≡ n = length-span image (pos + 1) n in
      let f = fitted-given image k n (pos + 1) end l (all-fine image end r (pos + 1) (omega arith)) (sym (behind-none image end r k pos n refl h) ∙ p) in
      record {
        texts = t ∷ [];
        many = refl;
        lies = rw append-nil (text_here image pos n refl);
        inside = omega (arith, length_text t [], f.2);
        fits = omega (arith, f.1);
        is = ap (λ (x : List ℕ). span image (get_or x 0 0) (get_or x 1 0)) f.0;
      }

  row-over : (s pos n : ℕ) (l : List ℕ) → byte_at image pos ≡ n → Row image (pos + 1 + n) end k s l → Row image pos end k (suc s) l
  unfolding row_bytes text_bytes
  row-over s pos n l b q =
      let t = span image (pos + 1) n in
      let z : length t ≡ n = length-span image (pos + 1) n in
      let e : pos + 1 + n ≡ pos + suc (length t) = omega arith in
      record {
        texts = t ∷ q.texts;
        many = ap suc q.many;
        lies = lies_join image pos (text_bytes t) (row_bytes q.texts) (text_here image pos n b) (lies-place image (pos + 1 + n) (pos + suc (length t)) (row_bytes q.texts) e q.lies);
        inside = omega (arith, length_text t (row_bytes q.texts), q.inside);
        fits = q.fits;
        is = q.is;
      }

  row-behind : (s pos : ℕ) (l : List ℕ) → pos < end → string_behind image s k pos end ≡ gives l → Row image pos end k s l
  row-behind zero pos l h p = row_here pos l h p
  row-behind (suc s) pos l h p = go (ltb (pos + 1 + byte_at image pos) end) refl (row-behind s (pos + 1 + byte_at image pos) l)
    where
      go : (t : Bool) → ltb (pos + 1 + byte_at image pos) end ≡ t →
          (pos + 1 + byte_at image pos < end → string_behind image s k (pos + 1 + byte_at image pos) end ≡ gives l → Row image (pos + 1 + byte_at image pos) end k s l) →
          Row image pos end k (suc s) l
      go true q ih =
          let m = ltb-true (pos + 1 + byte_at image pos) end q in
          row-over s pos (byte_at image pos) l refl (ih m (sym (behind-over image end r s k pos (byte_at image pos) refl h m) ∙ p))
      go false q ih =
          let c = sym (behind-cut image end r s k pos (byte_at image pos) refl h (ltb-false (pos + 1 + byte_at image pos) end q)) ∙ p in
          let z : ◌≡◌ {A = ℕ} 0 1 = cc in
          absurd (omega arith)

  -- the count admits it
  row_in : (s pos : ℕ) (l : List ℕ) → pos + 1 < end → string_in image s k pos end ≡ gives l → (s < byte_at image pos) × Row image (pos + 1) end k s l
  row_in s pos l h p = go (string_past s (byte_at image pos)) refl (sym (in-category image end r s k pos (omega arith)) ∙ p)
    where
      go : (t : Bool) → string_past s (byte_at image pos) ≡ t → pick t absent (string_behind image s k (pos + 1) end) ≡ gives l →
          (s < byte_at image pos) × Row image (pos + 1) end k s l
      go true q c = let z : ◌≡◌ {A = ℕ} 0 1 = cc in absurd (omega arith)
      go false q c = (not_past s (byte_at image pos) q, row-behind s (pos + 1) l h c)

  -- .. and the category is not empty
  in-filled : (s pos : ℕ) (l : List ℕ) → pos ≤ end → string_in image s k pos end ≡ gives l → pos < end
  in-filled s pos l m p = go (ltb pos end) refl
    where
      go : (t : Bool) → ltb pos end ≡ t → pos < end
      go true q = ltb-true pos end q
      go false q =
          let c = sym (in-empty image end r s k pos m (ltb-false pos end q)) ∙ p in
          let z : ◌≡◌ {A = ℕ} 0 1 = cc in
          absurd (omega arith)

-- a text that is given is what is shown of the bytes at a place
text_place : (image : List ℕ) (k : ℕ) (said : Said) (text : List ℕ) → text_for image k said ≡ gives text → (l : List ℕ) × (said ≡ gives l) × (text ≡ shown (span image (get_or l 0 0) (get_or l 1 0)))
unfolding text_for bounded text_said on2
text_place image k said text p = go (fits image k) said p
  where
    go : (t : Bool) (s : Said) → pick t (on2 s (λ p n. gives (shown (span image p n)))) (refuses 14 []) ≡ gives text →
        (l : List ℕ) × (s ≡ gives l) × (text ≡ shown (span image (get_or l 0 0) (get_or l 1 0)))
    go true (gives l) p = (l, refl, cc)
    go true absent p = let z : ◌≡◌ {A = ℕ} 0 1 = cc in absurd (omega arith)
    go true (refuses n v) p = let z : ◌≡◌ {A = ℕ} 0 1 = cc in absurd (omega arith)
    go false s p = let z : ◌≡◌ {A = ℕ} 0 1 = cc in absurd (omega arith)

module _ (image : List ℕ) (pos end : ℕ) (c : category_said image strings ≡ gives (pos ∷ end ∷ [])) where
  pub given-stored : (i k : ℕ) (text : List ℕ) → string_said image (i + 1) k ≡ gives text → TextOf image pos end i k text
  unfolding string_said
  given-stored i k text p =
      let r = category_readable image strings pos end c in
      let f = found_first image strings pos end c in
      let t = text_place image k (sought_at image (i + 1) k) text p in
      let n = sym (sought-in image pos end c i k) ∙ t.1 in
      let h : pos + 1 < end = omega (arith, f.starts, r.even, in-filled image end k r i pos t.0 (omega (arith, f.ends)) n) in
      let q = row_in image end k r i pos t.0 h n in
      record {
        counted = q.0;
        texts = q.1.texts;
        many = q.1.many ∙ sym (add-one i);
        lies = q.1.lies;
        inside = q.1.inside;
        fits = q.1.fits;
        shows = t.2 ∙ ap shown q.1.is;
      }

  -- in an empty category no text is stored, and none is given
  pub empty-refused : (i k : ℕ) → end ≤ pos → k ≤ room_most → string_said image (i + 1) k ≡ refuses 2 []
  unfolding string_said text_for bounded fits text_said on2
  empty-refused i k h m =
      let r = category_readable image strings pos end c in
      let f = found_first image strings pos end c in
      let e : pos ≤ end = omega (arith, f.ends) in
      rw (r.short, le-leb k room_most m, sought-in image pos end c i k, in-empty image end r i k pos e h)
