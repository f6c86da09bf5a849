-- The handles that a row of calls gives are those of the PDUs that it adds: a call that adds one says its handle, and one that adds none says none. By the calls' own tests.
use mathlib.Core.Path.{◌≡◌, refl, ap}
use mathlib.Core.Bool.{Bool, true, false}
use Prim.Native.Nat.{ℕ, ◌+◌, ◌%◌, ◌≤◌, max}
use native.Mathlib.Omega.{arith}
use mathlib.Core.List.{List, [], ◌∷◌, ◌++◌}
use lib.ListN.{length, take, drop, length-take}
use lib.Dec.{eqb}
use Rattle.refusal.specs.Said.{gives, absent, refuses, pick}
use Rattle.pdu.specs.Pdu.{Pdu}
use Rattle.created_frame.specs.declared.Builder.{Builder}
use Rattle.created_frame.specs.Frame.{acceptable, room, taken, handle, pushed, rest_pushed}
use Rattle.created_frame.specs.Built.{made, push_adds, rest_adds, Call, a_push, a_rest, Kept, called, run_adds}
use Rattle.created_frame.proofs.Built.{made-length}
use Rattle.received.specs.Matching.{handles_in}
use Rattle.received.specs.Receives.{values_in, run_handles, Alike}

-- numbers before a row of handles: as many handles as PDUs, and whole ones
record Agree (ys row : List ℕ) (news ps : List Pdu) : Type 0 where
  alike : Alike (handles_in (ys ++ row)) (news ++ ps)
  by_four : length (ys ++ row) % 4 ≡ 0

module _ (row : List ℕ) (ps : List Pdu) (a : Alike (handles_in row) ps) (four : length row % 4 ≡ 0) where
  none : Agree [] row [] ps
  none = record { alike = a; by_four = four }

  one : (b : Builder) (index command address : ℕ) (bytes : List ℕ) (len : ℕ) → length bytes ≤ len
      → Agree (handle b len index command) row (made index command address bytes len ∷ []) ps
  unfolding handles_in Alike
  one b index command address bytes len h =
      record { alike = (refl, refl, ap (λ (n : ℕ). n + 12) (made-length index command address bytes len h), a); by_four = omega arith }

  module _ (size : ℕ) (b : Builder) (index command address : ℕ) (bytes : List ℕ) where
    push-agrees : (over : ℕ) → Agree (values_in (pushed size b index command (length bytes) over)) row (push_adds size b index command address bytes over) ps
    unfolding pushed push_adds
    push-agrees over = go (acceptable size b command (length bytes) over) (room size b (max (length bytes) over))
      where
        go : (t r : Bool) → let len = max (length bytes) over in
            Agree (values_in (pick t (pick r (gives (handle b len index command)) (refuses 8 [])) (refuses 14 []))) row
            (pick t (pick r (made index command address bytes len ∷ []) []) []) ps
        go true true = one b index command address bytes (max (length bytes) over) (omega arith)
        go true false = none
        go false r = none

    rest-agrees : Agree (drop 1 (values_in (rest_pushed size b index command (length bytes)))) row (rest_adds size b index command address bytes) ps
    unfolding rest_pushed rest_adds
    rest-agrees = go (acceptable size b command (length bytes) 0) (eqb (taken size b.used (length bytes)) 0)
      where
        go : (t e : Bool) → let n = taken size b.used (length bytes) in
            Agree (drop 1 (values_in (pick t (pick e absent (gives (n ∷ handle b n index command))) (refuses 14 [])))) row
            (pick t (pick e [] (made index command address (take n bytes) n ∷ [])) []) ps
        go true false = let n = taken size b.used (length bytes) in one b index command address (take n bytes) n (simp length-take (omega arith))
        go true true = none
        go false e = none

no_handles : Alike (handles_in []) []
unfolding handles_in Alike
no_handles = tt

pub handles_agree : (cs : List Call) (k : Kept) → Alike (handles_in (run_handles k cs)) (run_adds k cs) × (length (run_handles k cs) % 4 ≡ 0)
unfolding run_handles run_adds
handles_agree [] k = (no_handles, refl)
handles_agree (a_push command address bytes over ∷ cs) k =
    let c = called k (a_push command address bytes over) in
    let r = handles_agree cs c in
    let g = push-agrees (run_handles c cs) (run_adds c cs) r.0 r.1 (length k.area) k.builder k.next command address bytes over in
    (g.alike, g.by_four)
handles_agree (a_rest command address bytes ∷ cs) k =
    let c = called k (a_rest command address bytes) in
    let r = handles_agree cs c in
    let g = rest-agrees (run_handles c cs) (run_adds c cs) r.0 r.1 (length k.area) k.builder k.next command address bytes in
    (g.alike, g.by_four)
