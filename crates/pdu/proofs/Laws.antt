-- Laws of `rightly`, `body_at`, `places_at` and `frame_of`: one for each way that a test goes, so that no caller unfolds them.
use mathlib.Core.Path.{◌≡◌, refl, ◌∙◌}
use mathlib.Core.Bool.{Bool, true, false}
use Prim.Native.Nat.{ℕ, zero, suc, ◌+◌, ◌-◌, ◌*◌, ◌/◌, ◌≤◌, ◌<◌}
use native.Mathlib.Omega.{arith}
use mathlib.Core.List.{List, [], ◌∷◌, map}
use lib.ListN.{length}
use lib.Dec.{ltb, eqb}
use borrow.Author.Tests.{lt-ltb, le-ltb, le-leb, lt-leb, eq-eqb, ne_eqb, ltb-true, ltb-false, eqb-true, eqb-false, leb-true}
use Rattle.std.specs.Prelude.{Some, None}
use Rattle.refusal.specs.Said.{pick}
use Rattle.refusal.proofs.Tests.{both}
use Rattle.wire.specs.Bytes.{le16}
use Rattle.pdu.specs.declared.PduFields.{PduFields}
use Rattle.pdu.specs.Read.{length_of, pdu_end, pdus_end, rightly, Places, good, bad, before, body_at, places_at, headed, frame_of, seen_at, read, read_of}

-- ---- a PDU that ends rightly

module _ (i end flags : ℕ) where
  pub rightly-last : flags < 32768 → pdu_end i flags ≡ end → rightly i end flags ≡ true
  unfolding rightly
  rightly-last lt e = rw (lt-ltb flags 32768 lt, eq-eqb (pdu_end i flags) end e)

  pub rightly-more : 32768 ≤ flags → pdu_end i flags < end → rightly i end flags ≡ true
  unfolding rightly
  rightly-more le lt = rw (le-ltb flags 32768 le, lt-ltb (pdu_end i flags) end lt)

  -- what does not fit does not
  pub rightly-short : end < pdu_end i flags → rightly i end flags ≡ false
  unfolding rightly
  rightly-short h = go (ltb flags 32768)
    where
      go : (b : Bool) → pick b (eqb (pdu_end i flags) end) (ltb (pdu_end i flags) end) ≡ false
      go true = ne_eqb (pdu_end i flags) end (λ e. omega arith)
      go false = le-ltb (pdu_end i flags) end (omega arith)

  pub rightly-fits : rightly i end flags ≡ true → pdu_end i flags ≤ end
  unfolding rightly
  rightly-fits = go (ltb flags 32768)
    where
      go : (b : Bool) → pick b (eqb (pdu_end i flags) end) (ltb (pdu_end i flags) end) ≡ true → pdu_end i flags ≤ end
      go true e = let q : pdu_end i flags ≡ end = eqb-true _ _ e in omega arith
      go false e = let q : pdu_end i flags < end = ltb-true _ _ e in omega arith

  -- the last has no more-follows, and the others have it
  pub rightly-ends : rightly i end flags ≡ true → pdu_end i flags ≡ end → flags < 32768
  unfolding rightly
  rightly-ends r e = go (ltb flags 32768) refl r
    where
      go : (b : Bool) → ltb flags 32768 ≡ b → pick b (eqb (pdu_end i flags) end) (ltb (pdu_end i flags) end) ≡ true → flags < 32768
      go true t q = ltb-true _ _ t
      go false t q = let z : pdu_end i flags < end = ltb-true _ _ q in omega arith

  pub rightly_goes : rightly i end flags ≡ true → (pdu_end i flags ≡ end → ⊥) → 32768 ≤ flags
  unfolding rightly
  rightly_goes r n = go (ltb flags 32768) refl r
    where
      go : (b : Bool) → ltb flags 32768 ≡ b → pick b (eqb (pdu_end i flags) end) (ltb (pdu_end i flags) end) ≡ true → 32768 ≤ flags
      go true t q = absurd (n (eqb-true _ _ q))
      go false t q = ltb-false _ _ t

  -- counted from i on
  same_end : i ≤ end → eqb (12 + length_of flags) (end - i) ≡ eqb (pdu_end i flags) end
  same_end h = go (eqb (pdu_end i flags) end) refl
    where
      go : (b : Bool) → eqb (pdu_end i flags) end ≡ b → eqb (12 + length_of flags) (end - i) ≡ b
      go true e = let q : pdu_end i flags ≡ end = eqb-true _ _ e in eq-eqb (12 + length_of flags) (end - i) (omega arith)
      go false e = ne_eqb (12 + length_of flags) (end - i) (λ q. eqb-false (pdu_end i flags) end e (omega arith))

  same-past : i ≤ end → ltb (12 + length_of flags) (end - i) ≡ ltb (pdu_end i flags) end
  same-past h = go (ltb (pdu_end i flags) end) refl
    where
      go : (b : Bool) → ltb (pdu_end i flags) end ≡ b → ltb (12 + length_of flags) (end - i) ≡ b
      go true e = let q : pdu_end i flags < end = ltb-true _ _ e in lt-ltb (12 + length_of flags) (end - i) (omega arith)
      go false e = let q : end ≤ pdu_end i flags = ltb-false _ _ e in le-ltb (12 + length_of flags) (end - i) (omega arith)

  pub rightly-at : i ≤ end → flags < 32768 → eqb (12 + length_of flags) (end - i) ≡ rightly i end flags
  unfolding rightly
  rightly-at h lt = same_end h ∙ rw (lt-ltb flags 32768 lt)

  pub rightly-past : i ≤ end → 32768 ≤ flags → ltb (12 + length_of flags) (end - i) ≡ rightly i end flags
  unfolding rightly
  rightly-past h le = same-past h ∙ rw (le-ltb flags 32768 le)

-- ---- what stands at i

module _ (rest : ℕ → Places) (i end flags : ℕ) where
  pub body_wrong : rightly i end flags ≡ false → body_at rest i end flags ≡ bad
  unfolding body_at
  body_wrong r = rw r

  pub body-last : rightly i end flags ≡ true → pdu_end i flags ≡ end → body_at rest i end flags ≡ good (i ∷ [])
  unfolding body_at
  body-last r e = rw (r, eq-eqb (pdu_end i flags) end e)

  pub body_more : rightly i end flags ≡ true → (pdu_end i flags ≡ end → ⊥) → body_at rest i end flags ≡ before i (rest (pdu_end i flags))
  unfolding body_at
  body_more r n = rw (r, ne_eqb (pdu_end i flags) end n)

-- no room for a header
pub places-short : (f : ℕ) (s : List ℕ) (i end : ℕ) → end < i + 12 → places_at f s i end ≡ bad
unfolding places_at
places-short zero s i end lt = refl
places-short (suc f) s i end lt = body_wrong _ i end (le16 s (i + 6)) (rightly-short i end (le16 s (i + 6)) (omega arith))

-- where there is room for a header, the fuel is not used up
pub places_step : (f : ℕ) (s : List ℕ) (i end : ℕ) → i + 12 ≤ end → end - i ≤ f
    → (g : ℕ) × (end - (i + 10) ≤ g) × (places_at f s i end ≡ body_at (λ next. places_at g s next end) i end (le16 s (i + 6)))
unfolding places_at
places_step zero s i end le h = absurd (omega arith)
places_step (suc g) s i end le h = (g, omega arith, refl)

-- a PDU takes 12 bytes at least, so there are no more than fit
unfoldable pub Few : Places → ℕ → Type 0
Few bad n = Unit {0}
Few (good l) n = 12 * length l ≤ n

few-before : (i m n : ℕ) (R : Places) → Few R m → m + 12 ≤ n → Few (before i R) n
unfolding Few
few-before i m n bad q h = tt
few-before i m n (good l) q h = omega arith

few-body : (rest : ℕ → Places) (i end flags : ℕ) → ((j : ℕ) → Few (rest j) (end - j)) → Few (body_at rest i end flags) (end - i)
unfolding body_at Few
few-body rest i end flags few = go (rightly i end flags) (eqb (pdu_end i flags) end) refl
  where
    go : (b c : Bool) → rightly i end flags ≡ b → Few (pick b (before i (pick c (good []) (rest (pdu_end i flags)))) bad) (end - i)
    go true true r = omega (arith, rightly-fits i end flags r)
    go true false r = few-before i (end - pdu_end i flags) (end - i) (rest (pdu_end i flags)) (few (pdu_end i flags)) (omega (arith, rightly-fits i end flags r))
    go false c r = tt

pub few-places : (f : ℕ) (s : List ℕ) (i end : ℕ) → Few (places_at f s i end) (end - i)
unfolding places_at Few
few-places zero s i end = tt
few-places (suc f) s i end = few-body (λ next. places_at f s next end) i end (le16 s (i + 6)) (λ j. few-places f s j end)

-- ---- a whole frame

module _ (s : List ℕ) where
  pub headed-short : length s < 2 → headed s ≡ false
  unfolding headed
  headed-short lt = rw (lt-leb 2 (length s) lt)

  pub headed_type : 2 ≤ length s → (le16 s 0 / 4096 ≡ 1 → ⊥) → headed s ≡ false
  unfolding headed
  headed_type le ne = rw (le-leb 2 (length s) le, ne_eqb (le16 s 0 / 4096) 1 ne)

  pub headed-long : 2 ≤ length s → le16 s 0 / 4096 ≡ 1 → length s < length_of (le16 s 0) + 2 → headed s ≡ false
  unfolding headed
  headed-long le e lt = rw (le-leb 2 (length s) le, eq-eqb (le16 s 0 / 4096) 1 e, lt-leb (length_of (le16 s 0) + 2) (length s) lt)

  pub headed-fine : 2 ≤ length s → le16 s 0 / 4096 ≡ 1 → length_of (le16 s 0) + 2 ≤ length s → headed s ≡ true
  unfolding headed
  headed-fine le e fit = rw (le-leb 2 (length s) le, eq-eqb (le16 s 0 / 4096) 1 e, le-leb (length_of (le16 s 0) + 2) (length s) fit)

  pub frame-short : length s < 2 → frame_of s ≡ bad
  unfolding frame_of
  frame-short lt = rw (headed-short lt)

  pub frame_type : 2 ≤ length s → (le16 s 0 / 4096 ≡ 1 → ⊥) → frame_of s ≡ bad
  unfolding frame_of
  frame_type le ne = rw (headed_type le ne)

  -- where the PDUs end is known of a frame that is headed, and of no other
  pub end_none : pdus_end s ≡ None → headed s ≡ false
  end_none e = go (headed s) refl e
    where
      go : (b : Bool) → headed s ≡ b → pick b (Some (length_of (le16 s 0) + 2)) None ≡ None → headed s ≡ false
      go true h q = let z : ◌≡◌ {A = ℕ} 0 1 = cc in absurd (omega arith)
      go false h q = h

  pub end_some : (end : ℕ) → pdus_end s ≡ Some end → (headed s ≡ true) × (end ≡ length_of (le16 s 0) + 2)
  end_some end e = go (headed s) refl e
    where
      go : (b : Bool) → headed s ≡ b → pick b (Some (length_of (le16 s 0) + 2)) None ≡ Some end → (headed s ≡ true) × (end ≡ length_of (le16 s 0) + 2)
      go true h q = (h, cc)
      go false h q = let z : ◌≡◌ {A = ℕ} 0 1 = cc in absurd (omega arith)

  module _ (le : 2 ≤ length s) (e : le16 s 0 / 4096 ≡ 1) where
    pub frame-long : length s < length_of (le16 s 0) + 2 → frame_of s ≡ bad
    unfolding frame_of
    frame-long lt = rw (headed-long le e lt)

    pub frame-none : length_of (le16 s 0) ≡ 0 → frame_of s ≡ good []
    unfolding frame_of
    frame-none z =
        let fit : length_of (le16 s 0) + 2 ≤ length s = omega arith in
        rw (headed-fine le e fit, eq-eqb (length_of (le16 s 0)) 0 z)

    pub frame-some : length_of (le16 s 0) + 2 ≤ length s → (length_of (le16 s 0) ≡ 0 → ⊥) → frame_of s ≡ places_at (length s) s 2 (length_of (le16 s 0) + 2)
    unfolding frame_of
    frame-some fit ne = rw (headed-fine le e fit, ne_eqb (length_of (le16 s 0)) 0 ne)

  -- with a PDU in it, the walk from the header to that end says what the frame is
  pub frame-walked : (end : ℕ) → pdus_end s ≡ Some end → (end ≡ 2 → ⊥) → (end ≤ length s) × (frame_of s ≡ places_at (length s) s 2 end)
  unfolding frame_of headed
  frame-walked end e ne =
      let h = end_some end e in
      let fit : length_of (le16 s 0) + 2 ≤ length s = leb-true (length_of (le16 s 0) + 2) (length s) (both _ _ h.0).1 in
      let some : length_of (le16 s 0) ≡ 0 → ⊥ = omega (arith, ne, h.1) in
      (omega arith, rw (h.0, ne_eqb (length_of (le16 s 0)) 0 some, h.1) refl)

  pub read_as : (l : List ℕ) (v : List PduFields) → frame_of s ≡ good l → map (seen_at s) l ≡ v → read_of s ≡ read v
  unfolding read_of
  read_as l v e q = rw (e, q)
