-- Areas laid with PDUs are read back as these: each is as our builder leaves one, and the row goes by going along it.
use mathlib.Core.Path.{◌≡◌, refl, ap, sym, ◌∙◌}
use Prim.Native.Nat.{ℕ, zero, suc, ◌+◌, ◌*◌, ◌-◌, ◌≤◌}
use native.Mathlib.Omega.{arith}
use native.Mathlib.Nat.{suc-mul, zero-mul}
use mathlib.Core.List.{List, [], ◌∷◌, ◌++◌, append_assoc, append-nil, map, map-append}
use lib.ListN.{length, take, drop, replicate, length-append, length-replicate, length-map}
use lib.Seq.{take_at, drop_at, take_all, take-append-le}
use Rattle.pdu.specs.Pdu.{Pdu, follows, layout, AllFit, frame_header}
use Rattle.pdu.specs.Read.{Reading, read, read_of, pdus_of, shown, shown_all, payload_of}
use Rattle.pdu.proofs.Reading.{shown-length, shown-front}
use Rattle.created_frame.specs.declared.Builder.{Builder}
use Rattle.created_frame.specs.Built.{Built}
use Rattle.created_frame.proofs.Built.{built-length, built-read, built-payloads}
use Rattle.spread.specs.Laid.{laid_in, state_of, laid, states_of, Fitting, AllBuilt}
use Rattle.spread.specs.ReadBack.{frame_of, frames_of, fields_in, AllRead, Back, back_at, read_back, Kept, same, more_follows_set, StillThere}

-- ---- an area

laid-length : (size : ℕ) (ps : List Pdu) → length (layout ps) ≤ size → length (laid_in size ps) ≡ size
unfolding laid_in
laid-length size ps h = omega (arith, length-append (layout ps) (replicate (size - length (layout ps)) 0), length-replicate {A = ℕ} (size - length (layout ps)) 0)

-- it is as our builder leaves one
laid-built : (size : ℕ) (ps : List Pdu) → size ≤ 2047 → length (layout ps) ≤ size → AllFit ps → Built ps (laid_in size ps) (state_of ps)
unfolding laid_in
laid-built size ps m h fit =
    record { free = size - length (layout ps); bytes = refl; small = omega (arith, laid-length size ps h); used_is = refl; count_is = refl; last_is = refl; fit = fit }

-- what our builder leaves is laid, and its state is the PDUs'
module _ (ps : List Pdu) (xs : List ℕ) (b : Builder) (h : Built ps xs b) where
  pub built-laid : xs ≡ laid_in (length xs) ps
  unfolding laid_in
  built-laid =
      let f : length xs - length (layout ps) ≡ h.free = omega (arith, built-length ps xs b h, h.used_is) in
      rw f h.bytes

  pub built-state : b ≡ state_of ps
  built-state =
      ap (λ (z : ℕ). record { used = z; count = b.count; last = b.last }) h.used_is
      ∙ ap (λ (z : ℕ). record { used = length (layout ps); count = z; last = b.last }) h.count_is
      ∙ ap (λ (z : ℕ). record { used = length (layout ps); count = length ps; last = z }) h.last_is

-- ---- one frame

module _ (size : ℕ) (ps : List Pdu) (rest : List ℕ) (m : size ≤ 2047) (h : length (layout ps) ≤ size) (fit : AllFit ps) where
  -- what lies behind the area is not in its frame
  same-frame : frame_of (laid_in size ps ++ rest) (state_of ps) ≡ frame_of (laid_in size ps) (state_of ps)
  same-frame = ap (λ (l : List ℕ). frame_header (length (layout ps)) ++ l) (take-append-le (length (layout ps)) (laid_in size ps) rest (omega (arith, laid-length size ps h)))

  one-read : read_of (frame_of (laid_in size ps ++ rest) (state_of ps)) ≡ read (shown_all 2 ps)
  one-read = ap read_of same-frame ∙ built-read ps (laid_in size ps) (state_of ps) (laid-built size ps m h fit)

  one-payloads : map (payload_of (frame_of (laid_in size ps ++ rest) (state_of ps))) (shown_all 2 ps) ≡ map (λ (p : Pdu). p.payload) ps
  one-payloads = rw same-frame (built-payloads ps (laid_in size ps) (state_of ps) (laid-built size ps m h fit))

-- ---- the PDUs behind others

module _ {A B : Type 0} (f : A → B) where
  map-drop : (n : ℕ) (xs : List A) → map f (drop n xs) ≡ drop n (map f xs)
  map-drop zero xs = refl
  map-drop (suc n) [] = refl
  map-drop (suc n) (x ∷ xs) = map-drop n xs

  map-take : (n : ℕ) (xs : List A) → map f (take n xs) ≡ take n (map f xs)
  map-take zero xs = refl
  map-take (suc n) [] = refl
  map-take (suc n) (x ∷ xs) = ap (λ (z : List B). f x ∷ z) (map-take n xs)

-- a PDU as it should be read back
abbrev pub back_of : ℕ → Pdu → Back
back_of a p = record { area = a; command = p.command; index = p.index; address = p.address; payload = p.payload }

backs-one : (a i : ℕ) (f : List ℕ) (ps : List Pdu) → map (payload_of f) (shown_all i ps) ≡ map (λ (p : Pdu). p.payload) ps
    → map (back_at a f) (shown_all i ps) ≡ map (back_of a) ps
unfolding shown_all
backs-one a i f [] e = refl
backs-one a i f (p ∷ ps) e =
    let x : payload_of f (shown i p (follows ps)) ≡ p.payload = cc in
    let y : map (payload_of f) (shown_all (i + (12 + length p.payload)) ps) ≡ map (λ (q : Pdu). q.payload) ps = cc in
    rw (x, backs-one a (i + (12 + length p.payload)) f ps y) refl

behind_olds : (a : ℕ) (f : List ℕ) (olds ps : List Pdu) → read_of f ≡ read (shown_all 2 (olds ++ ps))
    → map (payload_of f) (shown_all 2 (olds ++ ps)) ≡ map (λ (p : Pdu). p.payload) (olds ++ ps)
    → map (back_at a f) (drop (length olds) (fields_in f)) ≡ map (back_of a) ps
behind_olds a f olds ps r e =
    ap (λ (z : Reading). map (back_at a f) (drop (length olds) (pdus_of z))) r
    ∙ map-drop (back_at a f) (length olds) (shown_all 2 (olds ++ ps))
    ∙ ap (λ (z : List Back). drop (length olds) z) (backs-one a 2 f (olds ++ ps) e ∙ map-append (back_of a) olds ps)
    ∙ drop_at (map (back_of a) olds) (map (back_of a) ps) (length olds) (length-map olds (back_of a))

-- ---- the PDUs before them

front_kept : (olds ps : List Pdu) → Kept (shown_all 2 olds) (take (length olds) (shown_all 2 (olds ++ ps)))
front_kept olds [] = rw (append-nil olds, take_all (length olds) (shown_all 2 olds) (omega (arith, shown-length 2 olds))) same
front_kept olds (q ∷ qs) = rw (shown-front 2 olds q qs) more_follows_set

-- f₀ had `olds`; f has them, and `ps` behind them
still_there : (f₀ f : List ℕ) (olds ps : List Pdu)
    → read_of f₀ ≡ read (shown_all 2 olds) → map (payload_of f₀) (shown_all 2 olds) ≡ map (λ (p : Pdu). p.payload) olds
    → read_of f ≡ read (shown_all 2 (olds ++ ps)) → map (payload_of f) (shown_all 2 (olds ++ ps)) ≡ map (λ (p : Pdu). p.payload) (olds ++ ps)
    → StillThere (length olds) f₀ f
still_there f₀ f olds ps r₀ e₀ r e =
    let v₀ : fields_in f₀ ≡ shown_all 2 olds = ap pdus_of r₀ in
    let v : fields_in f ≡ shown_all 2 (olds ++ ps) = ap pdus_of r in
    record {
      were = r₀ ∙ ap read (sym v₀);
      counted = ap length v₀ ∙ shown-length 2 olds;
      fields = rw (v₀, v) (front_kept olds ps);
      payloads =
          rw (v₀, v) (map-take (payload_of f) (length olds) (shown_all 2 (olds ++ ps))
          ∙ ap (λ (z : List (List ℕ)). take (length olds) z) (e ∙ map-append (λ (p : Pdu). p.payload) olds ps)
          ∙ take_at (map (λ (p : Pdu). p.payload) olds) (map (λ (p : Pdu). p.payload) ps) (length olds) (length-map olds (λ (p : Pdu). p.payload)) ∙ sym e₀);
    }

-- ---- the row

-- the PDUs of the areas after area i, as they should be read back
unfoldable pub backs : ℕ → List (List Pdu) → List Back
backs i [] = []
backs i (ps ∷ pss) = map (back_of (suc i)) ps ++ backs (suc i) pss

pub count-states : (olds : List Pdu) (pss : List (List Pdu)) → length (states_of olds pss) ≡ length pss
unfolding states_of
count-states olds [] = refl
count-states olds (ps ∷ pss) = ap suc (count-states [] pss)

module _ (size : ℕ) (m : size ≤ 2047) where
  pub length-laid : (olds : List Pdu) (pss : List (List Pdu)) → Fitting size olds pss → length (laid size olds pss) ≡ length pss * size
  unfolding Fitting laid
  length-laid olds [] f = sym (zero-mul size)
  length-laid olds (ps ∷ pss) f =
      length-append (laid_in size (olds ++ ps)) (laid size [] pss)
      ∙ omega (arith, laid-length size (olds ++ ps) f.0, length-laid [] pss f.2, suc-mul (length pss) size)

  -- what comes after an area
  next-area : (qs : List Pdu) (ys : List ℕ) → length (layout qs) ≤ size → drop size (laid_in size qs ++ ys) ≡ ys
  next-area qs ys h = drop_at (laid_in size qs) ys size (laid-length size qs h)

  row-split : (olds ps : List Pdu) (pss : List (List Pdu)) (rest : List ℕ) → laid size olds (ps ∷ pss) ++ rest ≡ laid_in size (olds ++ ps) ++ (laid size [] pss ++ rest)
  unfolding laid
  row-split olds ps pss rest = append_assoc (laid_in size (olds ++ ps)) (laid size [] pss) rest

  -- each frame is accepted
  pub laid-accepted : (olds : List Pdu) (pss : List (List Pdu)) (rest : List ℕ) → Fitting size olds pss → AllRead (frames_of size (laid size olds pss ++ rest) (states_of olds pss))
  unfolding Fitting states_of frames_of AllRead
  laid-accepted olds [] rest f = tt
  laid-accepted olds (ps ∷ pss) rest f =
      let y = laid size [] pss ++ rest in
      let r = one-read size (olds ++ ps) y m f.0 f.1 in
      rw (row-split olds ps pss rest, next-area (olds ++ ps) y f.0) (r ∙ ap (λ (z : Reading). read (pdus_of z)) (sym r), laid-accepted [] pss rest f.2)

  -- .. and each area is one of our builder's
  pub all_built : (olds : List Pdu) (pss : List (List Pdu)) (rest : List ℕ) → Fitting size olds pss → AllBuilt size olds pss (laid size olds pss ++ rest)
  unfolding Fitting AllBuilt
  all_built olds [] rest f = tt
  all_built olds (ps ∷ pss) rest f =
      let y = laid size [] pss ++ rest in
      let t : take size (laid_in size (olds ++ ps) ++ y) ≡ laid_in size (olds ++ ps) = take_at (laid_in size (olds ++ ps)) y size (laid-length size (olds ++ ps) f.0) in
      rw (row-split olds ps pss rest, next-area (olds ++ ps) y f.0, t) (laid-built size (olds ++ ps) m f.0 f.1, all_built [] pss rest f.2)

  -- .. and the PDUs behind `olds` are read back, in order
  pub laid-back : (i : ℕ) (olds : List Pdu) (pss : List (List Pdu)) (rest : List ℕ) → Fitting size olds pss
      → read_back i (length olds) (frames_of size (laid size olds pss ++ rest) (states_of olds pss)) ≡ backs i pss
  unfolding Fitting states_of frames_of read_back backs
  laid-back i olds [] rest f = refl
  laid-back i olds (ps ∷ pss) rest f =
      let y = laid size [] pss ++ rest in
      let r = one-read size (olds ++ ps) y m f.0 f.1 in
      let p = one-payloads size (olds ++ ps) y m f.0 f.1 in
      rw (row-split olds ps pss rest, next-area (olds ++ ps) y f.0, behind_olds (suc i) _ olds ps r p, laid-back (suc i) [] pss rest f.2) refl

  -- the first frame has what the area held before
  pub laid-earlier : (olds : List Pdu) (pss : List (List Pdu)) (rest area : List ℕ) (first : Builder) (f : List ℕ) (fs : List (List ℕ)) → Fitting size olds pss
      → read_of (frame_of area first) ≡ read (shown_all 2 olds) → map (payload_of (frame_of area first)) (shown_all 2 olds) ≡ map (λ (p : Pdu). p.payload) olds
      → frames_of size (laid size olds pss ++ rest) (states_of olds pss) ≡ f ∷ fs → StillThere (length olds) (frame_of area first) f
  unfolding Fitting states_of frames_of
  laid-earlier olds [] rest area first f fs g r₀ e₀ h = let z : ◌≡◌ {A = ℕ} 0 1 = cc in absurd (omega arith)
  laid-earlier olds (ps ∷ pss) rest area first f fs g r₀ e₀ h =
      let y = laid size [] pss ++ rest in
      let x : frame_of (laid size olds (ps ∷ pss) ++ rest) (state_of (olds ++ ps)) ≡ f = cc in
      let q : f ≡ frame_of (laid_in size (olds ++ ps) ++ y) (state_of (olds ++ ps)) = sym x ∙ ap (λ (z : List ℕ). frame_of z (state_of (olds ++ ps))) (row-split olds ps pss rest) in
      still_there (frame_of area first) f olds ps r₀ e₀ (rw q (one-read size (olds ++ ps) y m g.0 g.1)) (rw q (one-payloads size (olds ++ ps) y m g.0 g.1))
