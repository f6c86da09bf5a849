-- What `receive` does, said of its own result: the contract's equation carries what is found over to the answer and the list, and `Back` says what is found.
use mathlib.Core.Path.{◌≡◌, refl, ap, sym, ◌∙◌}
use mathlib.Core.Bool.{Bool, true, false}
use Prim.Native.Nat.{ℕ, ◌+◌, ◌-◌, ◌%◌, ◌/◌, ◌≤◌, ◌<◌}
use native.Mathlib.Omega.{arith}
use mathlib.Core.List.{List, [], ◌∷◌, map}
use lib.ListN.{length, take}
use lib.Dec.{eqb}
use lib.Seq.{take_at, drop_at}
use borrow.Author.Tests.{eq-eqb, eqb-true, eqb-false}
use Rattle.refusal.specs.Said.{pick}
use Rattle.std.specs.Prelude.{Result, Ok, Err}
use Rattle.refusal.specs.declared.Refusal.{Refusal}
use Rattle.refusal.specs.declared.Refusal.TheVariants.{BadArgument, WrongFrame}
use Rattle.wire.specs.Bytes.{le16, Bytes}
use Rattle.pdu.specs.declared.PduFields.{PduFields}
use Rattle.pdu.specs.Pdu.{area_most, pdus_most, Pdu, layout}
use Rattle.pdu.specs.Read.{length_of, headed, good, frame_of, seen_at, payload_of, shown_all, starts}
use Rattle.pdu.specs.Grammar.{WellFormed}
use Rattle.pdu.proofs.Laws.{headed-fine, frame-none, frame-some, read_as}
use Rattle.pdu.proofs.Reading.{well_seen, well-fits}
use Rattle.pdu.proofs.Grammar.{headed-holds, accepted-well}
use Rattle.created_frame.specs.Built.{Call, opened_with, run, run_adds, Addressed}
use Rattle.created_frame.proofs.Built.{run-well}
use Rattle.received.specs.declared.ReceivedPdu.{ReceivedPdu}
use Rattle.received.specs.declared.Received.{Received}
use Rattle.received.specs.Matching.{handles_in, came_back, Receiving, refused, got, matched_at, matched, received_of}
use Rattle.received.specs.Answers.{unused, padded, told}
use Rattle.received.specs.Receives.{run_handles, frame_in, InTransit, Alike, payload_in, Lists, Receives}
use Rattle.received.proofs.Back.{back_at, Stands, all_got, stood_stands, itself_stands, SeenAlike, seen_alike, ended, found}
use Rattle.received.proofs.Ours.{handles_agree}

-- ---- from PDUs that stand in s to what is found of it

found-is : (row s : List ℕ) (ps : List Pdu) → length row % 4 ≡ 0 → Alike (handles_in row) ps → headed s ≡ true → length_of (le16 s 0) ≡ length (layout ps) → Stands s 2 ps
    → received_of row s ≡ got (back_at s (starts 2 ps))
unfolding received_of matched
found-is row s ps four a h n t =
    let e : length_of (le16 s 0) + 2 ≡ 2 + length (layout ps) = omega arith in
    rw (eq-eqb (length row % 4) 0 four, h, all_got ps (handles_in row) s 2 (length_of (le16 s 0) + 2) 0 e t a) refl

well-found : (row s : List ℕ) (ps : List Pdu) → length row % 4 ≡ 0 → Alike (handles_in row) ps → WellFormed s ps → received_of row s ≡ got (map came_back (shown_all 2 ps))
well-found row s ps four a w =
    let seen = well_seen s ps w in
    found-is row s ps four a (headed-fine s w.header_there w.type_one (well-fits s ps w)) w.length_is (itself_stands ps s 2 seen) ∙ ap (λ (vs : List PduFields). got (map came_back vs)) seen

ours-found : (row s xs : List ℕ) (index : ℕ) (cs : List Call) → length xs ≤ area_most → Addressed cs
    → let k = opened_with xs index in
    row ≡ run_handles k cs → InTransit (frame_in (run k cs)) s (run_adds k cs) → received_of row s ≡ got (back_at s (starts 2 (run_adds k cs)))
ours-found row s xs index cs small addressed e t =
    let k = opened_with xs index in
    let f = frame_in (run k cs) in
    let ps = run_adds k cs in
    let w : WellFormed f ps = run-well xs index cs small addressed in
    let a = handles_agree cs k in
    let same : le16 s 0 ≡ le16 f 0 = t.header_same in
    let long : length f ≤ length s = t.whole in
    let two : 2 ≤ length f = w.header_there in
    let fits : length_of (le16 f 0) + 2 ≤ length f = well-fits f ps w in
    let one : le16 s 0 / 4096 ≡ 1 = ap (λ (n : ℕ). n / 4096) same ∙ w.type_one in
    let len : length_of (le16 s 0) ≡ length_of (le16 f 0) = ap (λ (n : ℕ). length_of n) same in
    let fit : length_of (le16 s 0) + 2 ≤ length s = omega arith in
    rw e (found-is (run_handles k cs) s ps a.1 a.0 (headed-fine s (omega arith) one fit) (len ∙ w.length_is) (stood_stands ps f s 2 (well_seen f ps w) t.pdus_stood))

-- ---- from what is found of s to its PDUs

record Shown (row s : List ℕ) (l : List ReceivedPdu) : Type 0 where
  ps : List Pdu
  well : WellFormed s ps
  alike : Alike (handles_in row) ps
  given_is : l ≡ map came_back (shown_all 2 ps)
  payloads : map (payload_in s) l ≡ map (λ (p : Pdu). p.payload) ps

same-payloads : (s : List ℕ) (vs : List PduFields) → map (payload_in s) (map came_back vs) ≡ map (payload_of s) vs
unfolding payload_in payload_of
same-payloads s [] = refl
same-payloads s (v ∷ vs) = ap (λ (l : List (List ℕ)). payload_of s v ∷ l) (same-payloads s vs)

module _ (row s : List ℕ) (bytes : Bytes s) (l : List ReceivedPdu) where
  from_places : (at : List ℕ) → frame_of s ≡ good at → SeenAlike (handles_in row) (map (seen_at s) at) → l ≡ back_at s at → Shown row s l
  from_places at f a g =
      let w = accepted-well s bytes (map (seen_at s) at) (read_as s at (map (seen_at s) at) f refl) in
      record {
        ps = w.0;
        well = w.1;
        alike = seen_alike (handles_in row) 2 w.0 (rw (← w.2) a);
        given_is = g ∙ ap (map came_back) w.2;
        payloads = ap (map (payload_in s)) g ∙ same-payloads s (map (seen_at s) at) ∙ w.3;
      }

  from-matched : headed s ≡ true → matched_at (handles_in row) s 2 (length_of (le16 s 0) + 2) 0 ≡ got l → Shown row s l
  unfolding SeenAlike
  from-matched h e = go (eqb (length_of (le16 s 0)) 0) refl
    where
      go : (b : Bool) → eqb (length_of (le16 s 0)) 0 ≡ b → Shown row s l
      go true z =
          let t = headed-holds s bytes h in
          let n : length_of (le16 s 0) ≡ 0 = eqb-true _ _ z in
          let none = ended (handles_in row) s 2 0 l (ap (λ (z : ℕ). matched_at (handles_in row) s 2 (z + 2) 0) (sym n) ∙ e) in
          from_places [] (frame-none s t.0 t.1 n) (rw none.0 tt) none.1
      go false z =
          let t = headed-holds s bytes h in
          let n : length_of (le16 s 0) ≡ 0 → ⊥ = eqb-false _ _ z in
          let pos : 2 < length_of (le16 s 0) + 2 = omega (arith, n) in
          let fits : length_of (le16 s 0) + 2 ≤ length s = t.2 in
          let f = found (handles_in row) s 2 (length_of (le16 s 0) + 2) 0 (length s) l pos (omega arith) e in
          from_places f.at (frame-some s t.0 t.1 t.2 n ∙ f.good_is) f.alike f.given_is

  got-shown : received_of row s ≡ got l → Shown row s l
  unfolding received_of matched
  got-shown e = go (eqb (length row % 4) 0) (headed s) refl e
    where
      go : (b c : Bool) → headed s ≡ c
          → pick b (pick c (matched_at (handles_in row) s 2 (length_of (le16 s 0) + 2) 0) (refused (WrongFrame 0))) (refused BadArgument) ≡ got l → Shown row s l
      go true true h q = from-matched h q
      go true false h q = let z : ◌≡◌ {A = ℕ} 0 1 = cc in absurd (omega arith)
      go false c h q = let z : ◌≡◌ {A = ℕ} 0 1 = cc in absurd (omega arith)

-- ---- the answer

module _ (row s : List ℕ) (r : Result Received Refusal) (met : r ≡ told (received_of row s)) where
  matched-lists : (vs : List ReceivedPdu) → received_of row s ≡ got vs → (l : Received) × (r ≡ Ok l) × Lists vs l
  unfolding told padded
  matched-lists vs e = (
    record { count = length vs; pdus = padded vs },
    met ∙ ap told e,
    record {
      count_is = refl;
      pdus_are = take_at vs (unused (pdus_most - length vs)) (length vs) refl;
      rest_unused = drop_at vs (unused (pdus_most - length vs)) (length vs) refl;
    },
  )

  answered : (l : Received) → r ≡ Ok l → (vs : List ReceivedPdu) × (received_of row s ≡ got vs) × Lists vs l
  unfolding told
  answered l p = go (received_of row s) refl
    where
      go : (v : Receiving) → received_of row s ≡ v → (vs : List ReceivedPdu) × (received_of row s ≡ got vs) × Lists vs l
      go (got vs) e =
          let m = matched-lists vs e in
          let same : ◌≡◌ {A = Result Received Refusal} (Ok m.0) (Ok l) = sym m.1 ∙ p in
          let is : m.0 ≡ l = cc in
          (vs, e, rw (← is) m.2)
      go (refused x) e =
          let q : ◌≡◌ {A = Result Received Refusal} (Err x) (Ok l) = sym (met ∙ ap told e) ∙ p in
          let z : ◌≡◌ {A = ℕ} 0 1 = cc in absurd (omega arith)

  accepted : Bytes s → (l : Received) → r ≡ Ok l
      → (ps : List Pdu) × WellFormed s ps × Alike (handles_in row) ps × Lists (map came_back (shown_all 2 ps)) l
      × (map (payload_in s) (take l.count l.pdus) ≡ map (λ (p : Pdu). p.payload) ps)
  accepted known l p =
      let a = answered l p in
      let w = got-shown row s known a.0 a.1 in
      (w.ps, w.well, w.alike, rw (← w.given_is) a.2, ap (map (payload_in s)) a.2.pdus_are ∙ w.payloads)

  -- THE THEOREM
  pub receives : Receives row s r
  receives =
      record {
        ours_accepted = λ xs index cs small addressed e t. matched-lists (back_at s (starts 2 (run_adds (opened_with xs index) cs))) (ours-found row s xs index cs small addressed e t);
        frame_accepted = λ ps w four a. matched-lists (map came_back (shown_all 2 ps)) (well-found row s ps four a w);
        accepted_frame = accepted;
      }
