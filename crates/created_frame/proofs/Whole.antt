-- The whole area after a PDU more, byte by byte, whatever it held before: the four places where a byte can lie.
use Rattle.std.proofs.Common.{◌≡◌, ℕ, ◌+◌, ◌<◌, ◌≤◌, Bool, true, false, eqb, ◌≢◌, List, ◌++◌, length, take, refl, ap, ◌∙◌, arith, length-append, length-take, get_or-set_other, get_or-set_same, ne_eqb}
use borrow.Author.Tests.{eqb-false}
use Rattle.refusal.specs.Said.{pick}
use Rattle.wire.specs.Bytes.{byte_at, overlay}
use Rattle.wire.proofs.Laws.{length-overlay}
use Rattle.wire.proofs.Overlay.{overlay-before, overlay-inside, overlay-past}
use Rattle.pdu.specs.Pdu.{header_of}
use Rattle.created_frame.specs.declared.Builder.{Builder}
use Rattle.created_frame.specs.Frame.{more_on, more, marked, acceptable, with_pdu, Roomy, taken, after_rest}
use Rattle.created_frame.proofs.Laws.{accepted, has_room, length_marked}

-- ---- more-follows

marked-there : (xs : List ℕ) (count last : ℕ) → 0 < count → last + 7 < length xs → byte_at (marked xs count last) (last + 7) ≡ more_on (byte_at xs (last + 7))
unfolding marked more byte_at
marked-there xs count last some lt = rw (ne_eqb count 0 (λ z. omega arith)) (get_or-set_same xs (last + 7) _ 255 lt)

marked_else : (xs : List ℕ) (count last i : ℕ) → (0 < count → i ≢ last + 7) → byte_at (marked xs count last) i ≡ byte_at xs i
unfolding marked more byte_at
marked_else xs count last i ne = go (eqb count 0) refl
  where
    go : (t : Bool) → eqb count 0 ≡ t → byte_at (pick t xs (more xs (last + 7))) i ≡ byte_at xs i
    go true e = refl
    go false e = let z = eqb-false count 0 e in get_or-set_other xs (last + 7) i _ 255 (ne (omega arith))

-- ---- the area after a PDU of len payload bytes

-- the PDU lies behind the used bytes: its header, and the bytes that are given
pub pdu_behind : (xs : List ℕ) (b : Builder) (index command address len : ℕ) (bytes : List ℕ)
    → with_pdu xs b index command address len bytes ≡ overlay (marked xs b.count b.last) b.used (header_of command index address len 0 ++ bytes)
pdu_behind xs b index command address len bytes = refl

module _ (xs : List ℕ) (b : Builder) (index command address len : ℕ) (bytes : List ℕ) (r : Roomy (length xs) b len (length bytes)) where
  abbrev ys : List ℕ
  ys = header_of command index address len 0 ++ bytes

  byte_of : (i : ℕ) → byte_at (with_pdu xs b index command address len bytes) i ≡ byte_at (overlay (marked xs b.count b.last) b.used ys) i
  byte_of i = ap (λ (z : List ℕ). byte_at z i) (pdu_behind xs b index command address len bytes)

  inside : b.used + length ys ≤ length (marked xs b.count b.last)
  inside =
      let n : length ys ≡ 10 + length bytes = length-append (header_of command index address len 0) bytes in
      omega (arith, length_marked xs b.count b.last, r.fits, r.given_fits)

  -- it is as long as it was
  pub length_with : length (with_pdu xs b index command address len bytes) ≡ length xs
  length_with = ap length (pdu_behind xs b index command address len bytes) ∙ length-overlay (marked xs b.count b.last) b.used ys inside ∙ length_marked xs b.count b.last

  -- its header and the given bytes are written
  pub new_bytes : (k : ℕ) → k < 10 + length bytes → byte_at (with_pdu xs b index command address len bytes) (b.used + k) ≡ byte_at (header_of command index address len 0 ++ bytes) k
  new_bytes k lt = byte_of (b.used + k) ∙ overlay-inside (marked xs b.count b.last) b.used ys inside k (omega (arith, length-append (header_of command index address len 0) bytes))

  -- bit 15 of the flags of the PDU before is set
  pub flag-set : 0 < b.count → byte_at (with_pdu xs b index command address len bytes) (b.last + 7) ≡ more_on (byte_at xs (b.last + 7))
  flag-set some =
      byte_of (b.last + 7)
      ∙ overlay-before (marked xs b.count b.last) b.used ys inside (b.last + 7) (omega (arith, r.header_in some))
      ∙ marked-there xs b.count b.last some (omega (arith, r.header_in some, r.fits))

  -- every other used byte is as it was
  pub used_kept : (i : ℕ) → i < b.used → (0 < b.count → i ≢ b.last + 7) → byte_at (with_pdu xs b index command address len bytes) i ≡ byte_at xs i
  used_kept i lt ne =
      byte_of i
      ∙ overlay-before (marked xs b.count b.last) b.used ys inside i lt ∙ marked_else xs b.count b.last i ne

  -- and so is all that lies behind the given bytes: the missing ones, the last two, the rest of the area
  pub rest_kept : (i : ℕ) → b.used + (10 + length bytes) ≤ i → byte_at (with_pdu xs b index command address len bytes) i ≡ byte_at xs i
  rest_kept i le =
      byte_of i
      ∙ overlay-past (marked xs b.count b.last) b.used ys inside i (omega (arith, length-append (header_of command index address len 0) bytes))
      ∙ marked_else xs b.count b.last i (λ some e. omega (arith, r.header_in some))

-- ---- a push of as much as fits keeps the area's length

module _ (xs : List ℕ) (b : Builder) (index command address : ℕ) (bytes : List ℕ) where
  pub length-after_rest : length (after_rest xs b index command address bytes) ≡ length xs
  unfolding after_rest
  length-after_rest = go _ _ refl refl
    where
      go : (t z : Bool) → acceptable (length xs) b command (length bytes) 0 ≡ t → eqb (taken (length xs) b.used (length bytes)) 0 ≡ z
          → let n = taken (length xs) b.used (length bytes) in
          length (pick t (pick z xs (with_pdu xs b index command address n (take n bytes))) xs) ≡ length xs
      go true false e f =
          let n = taken (length xs) b.used (length bytes) in
          let pos : n ≢ 0 = eqb-false n 0 f in
          let l : length (take n bytes) ≡ n = rw length-take (omega arith) in
          let a = accepted (length xs) b command (length bytes) 0 e in
          length_with xs b index command address n (take n bytes) (has_room _ _ _ _ a.state (omega arith) (omega arith))
      go true true e f = refl
      go false z e f = refl
