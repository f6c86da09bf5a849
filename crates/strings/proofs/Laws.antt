-- Laws of strings: passing over them, and the text laid byte by byte.
use Prim.Native.Nat.{ℕ, zero, suc, ◌+◌, ◌-◌, ◌≤◌, ◌<◌}
use native.Mathlib.Nat.{zero-add}
use native.Mathlib.Numerals.{sub-one}
use native.Mathlib.Omega.{arith}
use mathlib.Core.Path.{◌≡◌, refl, sym, ap, ◌∙◌}
use mathlib.Core.List.{List, [], ◌∷◌, ◌++◌}
use mathlib.Core.Bool.{Bool, true, false}
use lib.ListN.{length, get_or, set, length-append}
use lib.Dec.{eqb, ltb, leb}
use borrow.Author.Tests.{lt-ltb, le-ltb, le-leb, lt-leb, eq-eqb, ne_eqb, ltb-true, ltb-false, leb-true, leb-false}
use Rattle.refusal.specs.Said.{Said, gives, absent, refuses, on2, on3, pick}
use Rattle.refusal.proofs.Tests.{both}
use Rattle.wire.specs.Bytes.{byte_at, span, overlay}
use Rattle.wire.proofs.Laws.{span-add, length-overlay, overlay-next, overlay-none}
use Rattle.wire.proofs.Stretch.{overlay-one}
use Rattle.eeprom.specs.Image.{image_most, within, fine}
use Rattle.eeprom.specs.Range.{byte_said, exact_said}
use Rattle.eeprom.proofs.Laws.{bounds_of, fine-bounds, exact_gives, exact_none, exact_refuses, exact_given}
use Rattle.category.specs.Numbers.{strings}
use Rattle.category.specs.Category.{category_said}
use Rattle.strings.specs.Strings.{string_past, passed_one, passed, on_exact, fitted, string_here, string_behind, string_in, sought_at, ascii, shown, room_most, fits}
use Rattle.strings.specs.Answers.{Small}

-- ---- the rule of the last index

-- an index that the count has is looked for
pub past_not : (s count : ℕ) → s < count → string_past s count ≡ false
unfolding string_past
past_not s count h = lt-leb count s h

-- .. and no other
pub not_past : (s count : ℕ) → string_past s count ≡ false → s < count
unfolding string_past
not_past s count h = leb-false count s h

pub past_all : (s count : ℕ) → count ≤ s → string_past s count ≡ true
unfolding string_past
past_all s count h = le-leb count s h

-- ---- bytes that are read exactly

-- an exact read of n bytes gives if there are no fewer before the end, and else refuses
exact_said_lem : (image : List ℕ) (pos end n : ℕ) → fine image pos end ≡ true → n ≤ end - pos → exact_said image pos end n ≡ gives []
exact_said_lem image pos end zero f h = (exact_none image pos end f).0
exact_said_lem image pos end (suc n) f h = (exact_gives image pos end (suc n) f (omega arith)).0

module _ (image : List ℕ) (pos end n : ℕ) (f : fine image pos end ≡ true) (s : Said) where
  exact-fits : n ≤ end - pos → on_exact (exact_said image pos end n) s ≡ s
  unfolding on_exact
  exact-fits h = rw (exact_said_lem image pos end n f h)

  exact-short : end - pos < n → on_exact (exact_said image pos end n) s ≡ refuses 2 []
  unfolding on_exact
  exact-short h = rw (exact_refuses image pos end n f h).0

-- a string that is longer than the room, one that fits it, and one that its category cuts
module _ (image : List ℕ) (k n pos end : ℕ) where
  pub fitted-long : k < n → refuses 4 (k ∷ n ∷ []) ≡ fitted image k n pos end
  unfolding fitted
  fitted-long h = rw (lt-ltb k n h)

  pub fitted-at : fine image pos end ≡ true → n ≤ k → n ≤ end - pos → gives (pos ∷ n ∷ []) ≡ fitted image k n pos end
  unfolding fitted
  fitted-at f r h = rw (le-ltb k n r) (sym (exact-fits image pos end n f (gives (pos ∷ n ∷ [])) h))

  pub fitted-cut : fine image pos end ≡ true → n ≤ k → end - pos < n → refuses 2 [] ≡ fitted image k n pos end
  unfolding fitted
  fitted-cut f r h = rw (le-ltb k n r) (sym (exact-short image pos end n f (gives (pos ∷ n ∷ [])) h))

-- .. a place that is given is of one that fits
pub fitted-given : (image : List ℕ) (k n pos end : ℕ) (l : List ℕ) → fine image pos end ≡ true → fitted image k n pos end ≡ gives l →
    (l ≡ pos ∷ n ∷ []) × (n ≤ k) × (n ≤ end - pos)
fitted-given image k n pos end l f p = go (ltb k n) (leb n (end - pos)) refl refl
  where
    go : (t u : Bool) → ltb k n ≡ t → leb n (end - pos) ≡ u → (l ≡ pos ∷ n ∷ []) × (n ≤ k) × (n ≤ end - pos)
    go true u a b =
        let q = fitted-long image k n pos end (ltb-true k n a) ∙ p in
        let z : ◌≡◌ {A = ℕ} 0 1 = cc in
        absurd (omega arith)
    go false true a b =
        let q = fitted-at image k n pos end f (ltb-false k n a) (leb-true n (end - pos) b) ∙ p in
        (cc, ltb-false k n a, leb-true n (end - pos) b)
    go false false a b =
        let q = fitted-cut image k n pos end f (ltb-false k n a) (leb-false n (end - pos) b) ∙ p in
        let z : ◌≡◌ {A = ℕ} 0 1 = cc in
        absurd (omega arith)

-- ---- passing over strings

module _ (image : List ℕ) (pos end : ℕ) where
  pub passed_none : (n : ℕ) → n ≤ 0 → gives (pos ∷ end ∷ []) ≡ passed n image pos end
  unfolding passed
  passed_none zero h = refl
  passed_none (suc n) h = absurd (let z : ⊥ = omega arith in z)

  pub passed-more : (n p e : ℕ) → 0 < n → gives (p ∷ e ∷ []) ≡ passed_one image pos end → passed (n - 1) image p e ≡ passed n image pos end
  unfolding passed on2
  passed-more zero p e h q = absurd (let z : ⊥ = omega arith in z)
  passed-more (suc n) p e h q = rw (← q, sub-one)

  pub passed_stop : (n k : ℕ) (l : List ℕ) → 0 < n → refuses k l ≡ passed_one image pos end → refuses k l ≡ passed n image pos end
  unfolding passed on2
  passed_stop zero k l h q = absurd (let z : ⊥ = omega arith in z)
  passed_stop (suc n) k l h q = rw (← q)

-- ---- where a string stands

-- the count is read, and the rule of the last index goes by it
module _ (image : List ℕ) (s k pos end count p e : ℕ) (h : gives (count ∷ p ∷ e ∷ []) ≡ byte_said image pos end) (t : Bool) (r : t ≡ string_past s count) where
  pub in_absent : t ≡ true → absent ≡ string_in image s k pos end
  unfolding string_in on3
  in_absent q = rw (← h, ← r, q)

  pub in_behind : t ≡ false → string_behind image s k p e ≡ string_in image s k pos end
  unfolding string_in on3
  in_behind q = rw (← h, ← r, q)

pub sought_on : (image : List ℕ) (index k : ℕ) → (index ≡ 0 → ⊥) → on2 (category_said image strings) (string_in image (index - 1) k) ≡ sought_at image index k
unfolding sought_at
sought_on image index k h = rw (ne_eqb index 0 h)

-- every place found fits the room, and lies within the limit
small-on2 : (m : ℕ) (s : Said) (k : ℕ → ℕ → Said) → ((a b : ℕ) → Small m (k a b)) → Small m (on2 s k)
unfolding on2
small-on2 m (gives l) k h = h (get_or l 0 0) (get_or l 1 0)
small-on2 m absent k h = tt
small-on2 m (refuses n v) k h = tt

small-on3 : (m : ℕ) (s : Said) (k : ℕ → ℕ → ℕ → Said) → ((a b c : ℕ) → Small m (k a b c)) → Small m (on3 s k)
unfolding on3
small-on3 m (gives l) k h = h (get_or l 0 0) (get_or l 1 0) (get_or l 2 0)
small-on3 m absent k h = tt
small-on3 m (refuses n v) k h = tt

small-pick : (m : ℕ) (t : Bool) (a b : Said) → Small m a → Small m b → Small m (pick t a b)
small-pick m true a b x y = x
small-pick m false a b x y = y

small_exact : (m n p : ℕ) (s : Said) → n ≤ m → ((l : List ℕ) → s ≡ gives l → p ≤ image_most) → Small m (on_exact s (gives (p ∷ n ∷ [])))
unfolding on_exact
small_exact m n p (gives l) h b = (h, b l refl)
small_exact m n p absent h b = tt
small_exact m n p (refuses k v) h b = tt

small-fitted : (image : List ℕ) (m n p e : ℕ) → Small m (fitted image m n p e)
unfolding fitted
small-fitted image m n p e = go (ltb m n) refl
  where
    go : (t : Bool) → ltb m n ≡ t → Small m (pick t (refuses 4 (m ∷ n ∷ [])) (on_exact (exact_said image p e n) (gives (p ∷ n ∷ []))))
    go true h = tt
    go false h = small_exact m n p (exact_said image p e n) (ltb-false m n h) (λ l q. (bounds_of p e (fine-bounds image p e (exact_given image p e n l q))).stands)

small_in : (image : List ℕ) (s m pos end : ℕ) → Small m (string_in image s m pos end)
unfolding string_in string_behind string_here
small_in image s m pos end =
    small-on3 m (byte_said image pos end) _ (λ count p e.
    small-pick m (string_past s count) absent (string_behind image s m p e) tt
    (small-on2 m (passed s image p e) _ (λ p e. small-on3 m (byte_said image p e) _ (small-fitted image m))))

pub small_sought : (image : List ℕ) (index m : ℕ) → Small m (sought_at image index m)
unfolding sought_at
small_sought image index m =
    small-pick m (eqb index 0) absent (on2 (category_said image strings) (string_in image (index - 1) m)) tt
    (small-on2 m (category_said image strings) _ (small_in image (index - 1) m))

-- ---- the text

shown-append : (a b : List ℕ) → shown (a ++ b) ≡ shown a ++ shown b
unfolding shown
shown-append [] b = refl
shown-append (x ∷ a) b = go (eqb x 0) (shown-append a b)
  where
    go : (t : Bool) → shown (a ++ b) ≡ shown a ++ shown b →
        pick t (shown (a ++ b)) (ascii x ∷ shown (a ++ b)) ≡ pick t (shown a) (ascii x ∷ shown a) ++ shown b
    go true h = h
    go false h = ap (◌∷◌ (ascii x)) h

pub length-shown : (l : List ℕ) → length (shown l) ≤ length l
unfolding shown
length-shown [] = omega arith
length-shown (x ∷ l) = go (eqb x 0) (length-shown l)
  where
    go : (t : Bool) → length (shown l) ≤ length l → length (pick t (shown l) (ascii x ∷ shown l)) ≤ suc (length l)
    go true h = omega arith
    go false h = omega arith

-- a byte that is not shown, and one that is
pub put-none : (b k : ℕ) (room : List ℕ) → b ≡ 0 → (k ≡ k + length (shown (b ∷ []))) × (room ≡ overlay room k (shown (b ∷ [])))
unfolding shown
put-none b k room z = rw (eq-eqb b 0 z) (omega arith, sym (overlay-none room k))

pub put_one : (b k : ℕ) (room : List ℕ) → (b ≡ 0 → ⊥) → k < length room →
    (k + 1 ≡ k + length (shown (b ∷ []))) × (set room k (ascii b) ≡ overlay room k (shown (b ∷ [])))
unfolding shown
put_one b k room n h = rw (ne_eqb b 0 n) (refl, overlay-one room k (ascii b) h)

-- .. the two together
pub ruleset put_lem = (put-none, put_one)

-- the text of i bytes is laid
pub record Laid (image : List ℕ) (at i : ℕ) (room₀ room : List ℕ) (k : ℕ) : Type 0 where
  pub count : k ≡ length (shown (span image at i))
  pub most : k ≤ i
  pub size : length room ≡ length room₀
  pub same : room ≡ overlay room₀ 0 (shown (span image at i))

module _ (image : List ℕ) (at : ℕ) (room₀ : List ℕ) where
  pub laid_none : Laid image at 0 room₀ room₀ 0
  unfolding span shown
  laid_none = record { count = refl; most = omega arith; size = refl; same = sym (overlay-none room₀ 0) }

  -- the text of one byte more, laid behind
  pub laid_next : (i : ℕ) (room : List ℕ) (k b k' : ℕ) (room' : List ℕ) → b ≡ byte_at image (at + i) → Laid image at i room₀ room k → i < length room₀ →
      k' ≡ k + length (shown (b ∷ [])) → room' ≡ overlay room k (shown (b ∷ [])) → Laid image at (i + 1) room₀ room' k'
  unfolding span
  laid_next i room k b k' room' e l h n r =
      let text = shown (span image at i) in
      let more : shown (span image at (i + 1)) ≡ text ++ shown (b ∷ []) = rw (span-add, ← e, shown-append) in
      let one : length (shown (b ∷ [])) ≤ 1 = length-shown (b ∷ []) in
      let z : 0 + length text ≡ k = rw zero-add (sym l.count) in
      let fits : 0 + length text ≤ length room₀ = omega (arith, l.most) in
      let fits' : k + length (shown (b ∷ [])) ≤ length room = omega (arith, l.most, l.size) in
      record {
        count = rw (more, length-append, n, l.count);
        most = omega (arith, l.most);
        size = rw r (length-overlay room k (shown (b ∷ [])) fits' ∙ l.size);
        same = rw (more, r) (ap (λ (x : List ℕ). overlay x k (shown (b ∷ []))) l.same ∙ rw (← z) (overlay-next room₀ 0 text (shown (b ∷ [])) fits));
      }

-- ---- the bounds of image and room

module _ (image : List ℕ) (k : ℕ) (t : Bool) (e : t ≡ fits image k) where
  pub fits-room : t ≡ true → k ≤ room_most
  unfolding fits
  fits-room p = leb-true k room_most (both (within image) (leb k room_most) (sym e ∙ p)).1
