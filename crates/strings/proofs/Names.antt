-- Laws of the device's name and description: each is the string of the index that General holds, by the cases of what was said of General.
use Prim.Native.Nat.{ℕ, ◌+◌, ◌≤◌}
use native.Mathlib.Omega.{arith}
use mathlib.Core.Path.{◌≡◌, refl}
use mathlib.Core.List.{List, [], ◌∷◌}
use mathlib.Core.Bool.{Bool, true, false}
use lib.ListN.{length}
use borrow.Author.Tests.{le-leb}
use Rattle.refusal.specs.Said.{Said, gives, absent, refuses, pick, on2}
use Rattle.category.specs.Numbers as numbers
use Rattle.category.specs.Category.{category_said}
use Rattle.sii.specs.Layout.{field, order_idx, name_idx, general_bytes}
use Rattle.sii.specs.General.{general_of, general_admits, general_values, general_in, general_found, needed, general_said}
use Rattle.strings.specs.Strings.{fits, bounded, text_said, text_for, sought_at, string_said}
use Rattle.strings.specs.Names.{order_of, name_of, on_general, string_by, name_said, description_said}
use Rattle.strings.specs.Plain.{Plain}
use Rattle.strings.proofs.Given.{string_given}

-- ---- the string of an index that General holds

module _ (image : List ℕ) (k : ℕ) (said : Said) (index : List ℕ → ℕ) where
  -- where General is whole it is that string, in bounds and out of them
  pub by_string : (general : List ℕ) → said ≡ gives general → string_by image k said index ≡ string_said image (index general) k
  unfolding string_by on_general string_said text_for bounded
  by_string general h = rw h (go (fits image k) (text_said image (sought_at image (index general) k)))
    where
      go : (t : Bool) (s : Said) → pick t (pick t s (refuses 14 [])) (refuses 14 []) ≡ pick t s (refuses 14 [])
      go true s = refl
      go false s = refl

  -- else, in bounds, it is what was said of General
  pub by_absent : fits image k ≡ true → said ≡ absent → string_by image k said index ≡ absent
  unfolding string_by on_general bounded
  by_absent t h = rw (t, h)

  pub by_refuses : (n : ℕ) (v : List ℕ) → fits image k ≡ true → said ≡ refuses n v → string_by image k said index ≡ refuses n v
  unfolding string_by on_general bounded
  by_refuses n v t h = rw (t, h)

  -- a text given is plain and fits its room
  by-given : (text : List ℕ) → string_by image k said index ≡ gives text → Plain text × (length text ≤ k)
  unfolding string_by on_general bounded
  by-given text e = go (fits image k) said e
    where
      never : {n : ℕ} {v : List ℕ} → refuses n v ≡ gives text → Plain text × (length text ≤ k)
      never e = let z : ◌≡◌ {A = ℕ} 0 1 = cc in absurd (omega arith)

      go : (t : Bool) (said : Said) → pick t (on_general said (λ general. string_said image (index general) k)) (refuses 14 []) ≡ gives text →
          Plain text × (length text ≤ k)
      go true (gives general) e = string_given image (index general) k text e
      go true absent e = let z : ◌≡◌ {A = ℕ} 0 1 = cc in absurd (omega arith)
      go true (refuses n v) e = never e
      go false said e = never e

-- ---- name and description

module _ (image : List ℕ) (k : ℕ) where
  -- without General the name is absent, and the description 3
  pub without_general : fits image k ≡ true → general_found image ≡ absent → (name_said image k ≡ absent) × (description_said image k ≡ refuses 3 [])
  unfolding name_said description_said general_said needed
  without_general t h = rw h (by_absent image k absent order_of t refl, by_refuses image k (refuses 3 []) name_of 3 [] t refl)

  -- with it, each is the string of its index
  pub with_general : (general : List ℕ) → general_found image ≡ gives general →
      (name_said image k ≡ string_said image (order_of general) k) × (description_said image k ≡ string_said image (name_of general) k)
  unfolding name_said description_said general_said needed
  with_general general h =
      rw h (by_string image k (gives general) order_of general refl, by_string image k (gives general) name_of general refl)

  -- General's indices stand in its fields of the order number and of the name
  pub name-bytes : (p end : ℕ) → category_said image numbers.general ≡ gives (p ∷ end ∷ []) → p + general_bytes ≤ end → general_admits (general_of image p) ≡ true →
      (name_said image k ≡ string_said image (field image p order_idx) k) × (description_said image k ≡ string_said image (field image p name_idx) k)
  unfolding general_of general_found general_in on2
  name-bytes p end c h a = with_general (general_values (general_of image p)) whole
    where
      whole : general_found image ≡ gives (general_values (general_of image p))
      whole = rw (c, le-leb (p + general_bytes) end h, a)

  -- what is given is plain and fits its room
  pub name-given : (text : List ℕ) → name_said image k ≡ gives text → Plain text × (length text ≤ k)
  unfolding name_said
  name-given text e = by-given image k (general_found image) order_of text e

  pub description-given : (text : List ℕ) → description_said image k ≡ gives text → Plain text × (length text ≤ k)
  unfolding description_said
  description-given text e = by-given image k (general_said image) name_of text e
