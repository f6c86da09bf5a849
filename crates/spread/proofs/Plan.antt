-- The PDUs of a plan, area by area: they are its pieces in order, the areas of a permitted plan have room for them, and they carry the image. Each by going along the pieces.
use mathlib.Core.Path.{◌≡◌, refl, ap, sym, ◌∙◌}
use Prim.Native.Nat.{ℕ, zero, suc, ◌+◌, ◌-◌, ◌≤◌, ◌<◌}
use native.Mathlib.Omega.{arith}
use mathlib.Core.Bool.{Bool, true, false}
use mathlib.Core.List.{List, [], ◌∷◌, ◌++◌, append-nil, map}
use lib.ListN.{length, take, drop, length-take, take-append-drop, drop_of_length-le}
use lib.Dec.{eqb}
use lib.Seq.{drop-drop}
use borrow.Author.Tests.{eqb-true, eqb-false, eq-eqb, ne_eqb}
use Rattle.refusal.specs.Said.{pick}
use Rattle.pdu.specs.Pdu.{Pdu, layout, AllFit}
use Rattle.pdu.proofs.Rows.{layout-none, layout-length, append-length, fit_append}
use Rattle.cuts.specs.Cut.{Piece, Chain, Rising, load, Permitted, free_of}
use Rattle.cuts.proofs.Laws.{chain-le, free_later}
use Rattle.created_frame.specs.Frame.{after}
use Rattle.created_frame.proofs.Built.{made-length}
use Rattle.spread.specs.Laid.{bytes_of, pdu_of, in_area, news_of, Fitting}
use Rattle.spread.specs.ReadBack.{Back, joined, pieces_of, Numbered}
use Rattle.spread.proofs.Parts.{part_length}
use Rattle.spread.proofs.Laid.{back_of, backs}

-- ---- areas are numbered from 1, and never fall

less : (x y : ℕ) → x ≤ y → (y ≡ x → ⊥) → x < y
less x y g n = omega arith

module _ (command address : ℕ) (image : List ℕ) where
  -- an area before the first piece's has none
  pub none_in : (k lo m index : ℕ) (ps : List Piece) → Rising lo m ps → k < lo → in_area command address image k index ps ≡ []
  unfolding Rising in_area
  none_in k lo m index [] r h = refl
  none_in k lo m index (p ∷ ps) r h = rw (ne_eqb p.area k (λ e. omega (arith, r.0))) (none_in k p.area m (after index) ps r.2 (omega (arith, r.0)))

  -- a piece in front is not in the areas after its own
  pub news_later : (d i index : ℕ) (p : Piece) (ps : List Piece) → p.area < suc i
      → news_of command address image d i index (p ∷ ps) ≡ news_of command address image d i (after index) ps
  unfolding news_of in_area
  news_later zero i index p ps lt = refl
  news_later (suc d) i index p ps lt = rw (ne_eqb p.area (suc i) (λ e. omega arith), news_later d (suc i) index p ps (omega arith)) refl

  pub news-length : (d i index : ℕ) (ps : List Piece) → length (news_of command address image d i index ps) ≡ d
  unfolding news_of
  news-length zero i index ps = refl
  news-length (suc d) i index ps = ap suc (news-length d (suc i) index ps)

  -- ---- area by area, they are the pieces in order

  front : (d i m index : ℕ) (p : Piece) (ps : List Piece) → Rising p.area m ps → suc i ≤ p.area → p.area ≤ i + d
      → backs i (news_of command address image d i index (p ∷ ps)) ≡ back_of p.area (pdu_of command address image index p) ∷ backs i (news_of command address image d i (after index) ps)
  unfolding news_of in_area backs
  front zero i m index p ps r h k = absurd (let z : ⊥ = omega arith in z)
  front (suc d) i m index p ps r h k = go (eqb p.area (suc i)) refl (λ lt. front d (suc i) m index p ps r lt (omega arith))
    where
      go : (b : Bool) → eqb p.area (suc i) ≡ b
          → (suc (suc i) ≤ p.area → backs (suc i) (news_of command address image d (suc i) index (p ∷ ps)) ≡ back_of p.area (pdu_of command address image index p) ∷ backs (suc i) (news_of command address image d (suc i) (after index) ps))
          → map (back_of (suc i)) (pick b (pdu_of command address image index p ∷ in_area command address image (suc i) (after index) ps) (in_area command address image (suc i) (after index) ps)) ++ backs (suc i) (news_of command address image d (suc i) index (p ∷ ps))
          ≡ back_of p.area (pdu_of command address image index p) ∷ (map (back_of (suc i)) (in_area command address image (suc i) (after index) ps) ++ backs (suc i) (news_of command address image d (suc i) (after index) ps))
      go true e ih =
          let q : p.area ≡ suc i = eqb-true _ _ e in
          rw (news_later d (suc i) index p ps (omega arith), q) refl
      go false e ih =
          let lt : suc i < p.area = less (suc i) p.area h (eqb-false _ _ e) in
          rw (none_in (suc i) p.area m (after index) ps r lt) (ih lt)

  -- the pieces as they should be read back
  unfoldable pub carried_by : ℕ → List Piece → List Back
  carried_by index [] = []
  carried_by index (p ∷ ps) = record { area = p.area; command = command; index = index; address = address + p.offset; payload = bytes_of command address image p } ∷ carried_by (after index) ps

  no-news : (d i index : ℕ) → backs i (news_of command address image d i index []) ≡ []
  unfolding news_of in_area backs
  no-news zero i index = refl
  no-news (suc d) i index = no-news d (suc i) index

  -- a piece's PDU has its bytes
  pdu-payload : (index : ℕ) (p : Piece) → p.offset + p.size ≤ length image → (pdu_of command address image index p).payload ≡ bytes_of command address image p
  pdu-payload index p h =
      let z : p.size - length (bytes_of command address image p) ≡ 0 = omega (arith, part_length p.offset p.size image h) in
      rw z (append-nil (bytes_of command address image p))

  inside : (o : ℕ) (p : Piece) (ps : List Piece) → Chain o (length image) (p ∷ ps) → p.offset + p.size ≤ length image
  unfolding Chain
  inside o p ps c = omega (arith, c.0, chain-le (o + p.size) (length image) ps c.2)

  pub news-back : (ps : List Piece) (d i o lo m index : ℕ) → Chain o (length image) ps → Rising lo m ps → suc i ≤ lo → m ≤ i + d
      → backs i (news_of command address image d i index ps) ≡ carried_by index ps
  unfolding carried_by Chain Rising
  news-back [] d i o lo m index c r h k = no-news d i index
  news-back (p ∷ ps) d i o lo m index c r h k =
      front d i m index p ps r.2 (omega (arith, r.0)) (omega (arith, r.1))
      ∙ ap (λ (z : List Back). back_of p.area (pdu_of command address image index p) ∷ z) (news-back ps d i (o + p.size) p.area m (after index) c.2 r.2 (omega (arith, r.0)) k)
      ∙ ap (λ (z : List ℕ). record { area = p.area; command = command; index = index; address = address + p.offset; payload = z } ∷ carried_by (after index) ps) (pdu-payload index p (inside o p ps c))

  -- ---- what is read back of a chain of pieces

  pub carried_whole : (index : ℕ) (ps : List Piece) (o : ℕ) → Chain o (length image) ps → joined (carried_by index ps) ≡ drop o image
  unfolding Chain carried_by joined
  carried_whole index [] o c = sym (drop_of_length-le image {i = o} (omega arith))
  carried_whole index (p ∷ ps) o c =
      ap (λ (z : List ℕ). bytes_of command address image p ++ z) (carried_whole (after index) ps (o + p.size) c.2)
      ∙ ap (λ (z : ℕ). take p.size (drop z image) ++ drop (o + p.size) image) c.0
      ∙ ap (λ (z : List ℕ). take p.size (drop o image) ++ z) (sym (drop-drop p.size o image))
      ∙ take-append-drop p.size (drop o image)

  pub carried_pieces : (index : ℕ) (ps : List Piece) (o : ℕ) → Chain o (length image) ps → pieces_of o (carried_by index ps) ≡ ps
  unfolding Chain carried_by pieces_of
  carried_pieces index [] o c = refl
  carried_pieces index (p ∷ ps) o c =
      let l : length (bytes_of command address image p) ≡ p.size = part_length p.offset p.size image (inside o p ps c) in
      rw (l, carried_pieces (after index) ps (o + p.size) c.2, ← c.0) refl

  pub carried_numbered : (index : ℕ) (ps : List Piece) (o : ℕ) → Chain o (length image) ps → Numbered command address index o (carried_by index ps)
  unfolding Chain carried_by Numbered
  carried_numbered index [] o c = tt
  carried_numbered index (p ∷ ps) o c =
      let l : length (bytes_of command address image p) ≡ p.size = part_length p.offset p.size image (inside o p ps c) in
      rw l (refl, refl, ap (λ (z : ℕ). address + z) c.0, carried_numbered (after index) ps (o + p.size) c.2)

  pub carried_count : (index : ℕ) (ps : List Piece) → length (carried_by index ps) ≡ length ps
  unfolding carried_by
  carried_count index [] = refl
  carried_count index (p ∷ ps) = ap suc (carried_count (after index) ps)

  -- ---- the areas of a permitted plan have room

  piece-length : (index : ℕ) (p : Piece) → length (pdu_of command address image index p).payload ≡ p.size
  piece-length index p = made-length index command (address + p.offset) (bytes_of command address image p) p.size (simp length-take (omega arith))

  -- an area's PDUs take what the plan's pieces need
  area-load : (k index : ℕ) (ps : List Piece) → length (layout (in_area command address image k index ps)) ≡ load k ps
  unfolding in_area load
  area-load k index [] = layout-none
  area-load k index (p ∷ ps) = go (eqb p.area k) (area-load k (after index) ps)
    where
      go : (b : Bool) → length (layout (in_area command address image k (after index) ps)) ≡ load k ps
          → length (layout (pick b (pdu_of command address image index p ∷ in_area command address image k (after index) ps) (in_area command address image k (after index) ps))) ≡ pick b (p.size + 12) 0 + load k ps
      go true ih = omega (arith, layout-length (pdu_of command address image index p) (in_area command address image k (after index) ps), piece-length index p)
      go false ih = omega arith

  module _ (n : ℕ) (reach : address + n ≤ 4294967296) where
    -- and fit the wire
    area-fit : (k index o : ℕ) (ps : List Piece) → Chain o n ps → ((j : ℕ) → load j ps ≤ 2047) → AllFit (in_area command address image k index ps)
    unfolding in_area load Chain AllFit
    area-fit k index o [] c f = tt
    area-fit k index o (p ∷ ps) c f =
        go (eqb p.area k) (own (eqb p.area p.area) (eq-eqb p.area p.area refl) (f p.area)) (chain-le (o + p.size) n ps c.2) (area-fit k (after index) (o + p.size) ps c.2 (λ j. rest j (f j)))
      where
        own : (b : Bool) → b ≡ true → pick b (p.size + 12) 0 + load p.area ps ≤ 2047 → p.size + 12 ≤ 2047
        own true e h = omega arith
        own false e h = let z : ◌≡◌ {A = ℕ} 0 1 = cc in absurd (let w : ⊥ = omega arith in w)

        rest : (j : ℕ) → pick (eqb p.area j) (p.size + 12) 0 + load j ps ≤ 2047 → load j ps ≤ 2047
        rest j h = omega arith

        go : (b : Bool) → p.size + 12 ≤ 2047 → o + p.size ≤ n → AllFit (in_area command address image k (after index) ps)
            → AllFit (pick b (pdu_of command address image index p ∷ in_area command address image k (after index) ps) (in_area command address image k (after index) ps))
        go true small end ih = (
          record {
            address_fits = omega (arith, c.0, c.1);
            extra_fits = omega arith;
            irq_fits = omega arith;
            payload_fits = omega (arith, piece-length index p);
            counter_fits = omega arith;
          },
          ih,
        )
        go false small end ih = ih

    fit-later : (d i index size : ℕ) (ps : List Piece) → Chain 0 n ps → ((k : ℕ) → load k ps ≤ 2047) → ((k : ℕ) → i < k → load k ps ≤ size) → Fitting size [] (news_of command address image d i index ps)
    unfolding Fitting news_of
    fit-later zero i index size ps c m f = tt
    fit-later (suc d) i index size ps c m f =
        (omega (arith, area-load (suc i) index ps, f (suc i) (omega arith)), area-fit (suc i) index 0 ps c m, fit-later d (suc i) index size ps c m (λ k h. f k (omega arith)))

    -- the first area holds `olds`
    pub fitting : (d m index size used : ℕ) (olds : List Pdu) (ps : List Piece) → Permitted (free_of (size - used) size) m n ps → size ≤ 2047 → used ≡ length (layout olds) → used ≤ size → AllFit olds
        → Fitting size olds (news_of command address image d 0 index ps)
    unfolding Fitting news_of
    fitting zero m index size used olds ps p s u v a = tt
    fitting (suc d) m index size used olds ps p s u v a =
        (omega (arith, append-length olds (in_area command address image 1 index ps), area-load 1 index ps, p.fits 1), fit_append olds (in_area command address image 1 index ps) a (area-fit 1 index 0 ps p.chain most), fit-later d 1 index size ps p.chain most later)
      where
        most : (k : ℕ) → load k ps ≤ 2047
        most k = go (eqb k 1) (p.fits k)
          where
            go : (b : Bool) → load k ps ≤ pick b (size - used) size → load k ps ≤ 2047
            go true h = omega arith
            go false h = omega arith

        later : (k : ℕ) → 1 < k → load k ps ≤ size
        later k h = rw (free_later (size - used) size k h) at (p.fits k)
