-- What `push_pdu` does, said of its own result: the contract's equations, taken apart by the outcomes of the two tests, are what `Pushes` says.
use Rattle.std.proofs.Common.{Ok, Err, ◌≡◌, ℕ, ◌+◌, ◌*◌, ◌%◌, ◌<◌, ◌≤◌, max, Bool, true, false, List, [], ◌∷◌, ◌++◌, length, sym, refl, ◌∙◌, arith, leb-false, leb-true}
use Rattle.refusal.specs.Said.{refuses}
use Rattle.refusal.specs.declared.Refusal.{Refusal}
use Rattle.refusal.specs.declared.Refusal.TheVariants.{TooLong, BadArgument}
use Rattle.wire.specs.Bytes.{long_past, byte_at, le16, Bytes}
use Rattle.pdu.specs.Pdu.{pdu_overhead, flags_at, more_bit, Pdu}
use Rattle.created_frame.specs.declared.Builder.{Builder}
use Rattle.created_frame.specs.declared.PduResponseHandle.{PduResponseHandle}
use Rattle.created_frame.specs.declared.Push.{Push}
use Rattle.created_frame.specs.Frame.{acceptable, room, more_on, with_pdu, grown, after, Roomy, pushed, pushed_builder, pushed_next, after_push}
use Rattle.created_frame.specs.Bounds.{InBounds}
use Rattle.created_frame.specs.Built.{made, push_adds, Ours, then_pushed}
use Rattle.created_frame.specs.Pushes.{handle_of, Written, Pushes}
use Rattle.created_frame.proofs.Laws.{accepted, bounds-accepted, has_room, Met}
use Rattle.created_frame.proofs.Unique.{pushed_unique}
use Rattle.created_frame.proofs.Built.{ours-built}
use Rattle.created_frame.proofs.Whole.{length_with, new_bytes, flag-set, used_kept, rest_kept}

-- ---- the area after a PDU more

-- more-follows set in the flags' second byte is set in the flags
flags-more : (low high : ℕ) → low < 256 → low + 256 * more_on high ≡ (low + 256 * high) % more_bit + more_bit
flags-more low high h = omega arith

module _ (xs : List ℕ) (b : Builder) (index command address len : ℕ) (bytes : List ℕ) (r : Roomy (length xs) b len (length bytes)) where
  abbrev zs : List ℕ
  zs = with_pdu xs b index command address len bytes

  flags-set : Bytes xs → 0 < b.count → le16 zs (b.last + flags_at) ≡ le16 xs (b.last + flags_at) % more_bit + more_bit
  unfolding Bytes
  flags-set known some =
      let low : byte_at zs (b.last + 6) ≡ byte_at xs (b.last + 6) =
      used_kept xs b index command address len bytes r (b.last + 6) (omega (arith, r.header_in some)) (λ h e. omega arith) in
      let next : b.last + 6 + 1 ≡ b.last + 7 = omega arith in
      let high : byte_at zs (b.last + 6 + 1) ≡ more_on (byte_at xs (b.last + 6 + 1)) = rw next (flag-set xs b index command address len bytes r some) in
      rw (low, high) (flags-more (byte_at xs (b.last + 6)) (byte_at xs (b.last + 6 + 1)) (known (b.last + 6)))

  written : Written xs b index command address len bytes zs
  written =
      record {
        as_long = length_with xs b index command address len bytes r;
        put = new_bytes xs b index command address len bytes r;
        more_set = flags-set;
        used_kept = used_kept xs b index command address len bytes r;
        rest_kept = rest_kept xs b index command address len bytes r;
      }

-- ---- the call

module _ (xs : List ℕ) (b : Builder) (index command address : ℕ) (bytes : List ℕ) (over : ℕ) (r : Push PduResponseHandle) (ys : List ℕ) (met : Met xs b index command address bytes over r ys) where
  abbrev size : ℕ
  size = length xs

  abbrev given : ℕ
  given = length bytes

  abbrev len : ℕ
  len = max given over

  abbrev Within : Type 0
  Within = InBounds size b command given over

  -- out of bounds
  at-14 : acceptable size b command given over ≡ false → (r.answer ≡ Err BadArgument) × (r.builder ≡ b) × (r.next ≡ index) × (ys ≡ xs)
  unfolding pushed pushed_builder pushed_next after_push
  at-14 e =
      (pushed_unique r.answer (Err BadArgument) (refuses 14 []) (met.0 ∙ simp e) refl, met.1.0.0 ∙ simp e, met.1.0.1 ∙ simp e, met.1.1 ∙ simp e)

  -- no space
  at_8 : acceptable size b command given over ≡ true → room size b len ≡ false
      → (r.answer ≡ Err TooLong) × (r.builder ≡ b) × (r.next ≡ after index) × (ys ≡ xs)
  unfolding pushed pushed_builder pushed_next after_push
  at_8 e f =
      (pushed_unique r.answer (Err TooLong) (refuses 8 []) (met.0 ∙ simp (e, f)) refl, met.1.0.0 ∙ simp (e, f), met.1.0.1 ∙ simp e, met.1.1 ∙ simp (e, f))

  -- pushed
  at_done : acceptable size b command given over ≡ true → room size b len ≡ true
      → (r.answer ≡ Ok (handle_of b len index command)) × (r.builder ≡ grown b len) × (r.next ≡ after index) × (ys ≡ with_pdu xs b index command address len bytes)
  unfolding pushed pushed_builder pushed_next after_push
  at_done e f =
      (pushed_unique r.answer (Ok (handle_of b len index command)) _ (met.0 ∙ simp (e, f)) refl, met.1.0.0 ∙ simp (e, f), met.1.0.1 ∙ simp e, met.1.1 ∙ simp (e, f))

  -- a refusal gives no handle
  refused_not : (x : Refusal) (h : PduResponseHandle) → r.answer ≡ Err x → r.answer ≡ Ok h → ⊥
  refused_not x h p q = let z : ◌≡◌ {A = ℕ} 0 1 = cc in omega arith

  space : room size b len ≡ true → b.used + (len + pdu_overhead) ≤ size
  unfolding room
  space f = leb-true _ _ f

  no-space : room size b len ≡ false → size < b.used + (len + pdu_overhead)
  unfolding room
  no-space f = leb-false _ _ f

  -- .. into an area as our builder left it
  adds_one : acceptable size b command given over ≡ true → room size b len ≡ true → push_adds size b index command address bytes over ≡ made index command address bytes len ∷ []
  unfolding push_adds
  adds_one e f = simp (e, f)

  our-more : acceptable size b command given over ≡ true → room size b len ≡ true → address < long_past → (olds : List Pdu) → Ours olds xs b
      → Ours (olds ++ (made index command address bytes len ∷ [])) ys r.builder
  our-more e f small olds o = rw (met.1.1, met.1.0.0, ← adds_one e f) (then_pushed index command address bytes over o small)

  -- THE THEOREM
  pub pushes : Pushes xs b index command address bytes over r ys
  pushes = go (acceptable size b command given over) (room size b len) refl refl
    where
      go : (t q : Bool) → acceptable size b command given over ≡ t → room size b len ≡ q → Pushes xs b index command address bytes over r ys
      go false q e f =
          let a = at-14 e in
          let none : Within → ⊥ = λ w. (let z : ◌≡◌ {A = Bool} true false = sym (bounds-accepted size b command given over w) ∙ e in absurd (let z0 : ◌≡◌ {A = ℕ} 0 1 = cc in omega arith)) in
          record {
            answers_14 = (λ p. none, λ n. a.0);
            answers_8 = (λ p. absurd (let z : ◌≡◌ {A = ℕ} 8 14 = cc in omega arith), λ w. absurd (none w.0));
            answers_handle = (λ p. absurd (refused_not _ _ a.0 p), λ w. absurd (none w.0));
            index_taken = λ w. absurd (none w);
            index_kept = λ n. a.2;
            refused_kept = λ x p. (a.1, a.3);
            state_grown = λ h p. absurd (refused_not _ _ a.0 p);
            area_written = λ h p. absurd (refused_not _ _ a.0 p);
            area_built = λ h p. absurd (refused_not _ _ a.0 p);
          }
      go true false e f =
          let a = at_8 e f in
          let w = accepted size b command given over e in
          let lack = no-space f in
          record {
            answers_14 = (λ p. absurd (let z : ◌≡◌ {A = ℕ} 8 14 = cc in omega arith), λ n. absurd (n w));
            answers_8 = (λ p. (w, lack), λ v. a.0);
            answers_handle = (λ p. absurd (refused_not _ _ a.0 p), λ v. absurd (omega (arith, lack, v.1)));
            index_taken = λ v. a.2;
            index_kept = λ n. absurd (n w);
            refused_kept = λ x p. (a.1, a.3);
            state_grown = λ h p. absurd (refused_not _ _ a.0 p);
            area_written = λ h p. absurd (refused_not _ _ a.0 p);
            area_built = λ h p. absurd (refused_not _ _ a.0 p);
          }
      go true true e f =
          let a = at_done e f in
          let w = accepted size b command given over e in
          let fits = space f in
          record {
            answers_14 = (λ p. absurd (refused_not _ _ p a.0), λ n. absurd (n w));
            answers_8 = (λ p. absurd (refused_not _ _ p a.0), λ v. absurd (omega (arith, fits, v.1)));
            answers_handle = (λ p. (w, fits), λ v. a.0);
            index_taken = λ v. a.2;
            index_kept = λ n. absurd (n w);
            refused_kept = λ x p. absurd (refused_not _ _ p a.0);
            state_grown = λ h p. a.1;
            area_written = λ h p. rw a.3 (written xs b index command address len bytes (has_room _ _ _ _ w.state fits (omega arith)));
            area_built = λ h p small olds o. let ours = our-more e f small olds o in (ours-built ours, ours);
          }
