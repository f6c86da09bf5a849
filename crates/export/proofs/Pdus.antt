-- What a frame's PDUs leave in a row: no frame has more PDUs than the reader's list, and their count and fields are laid one behind the other.
use Prim.Native.Nat.{ℕ, ◌+◌, ◌-◌, ◌%◌, ◌≤◌}
use native.Mathlib.Omega.{arith}
use mathlib.Core.Path.{◌≡◌, refl, sym}
use mathlib.Core.Bool.{Bool, true, false}
use mathlib.Core.List.{List, [], ◌∷◌}
use lib.ListN.{length, take, length-append, length-map}
use lib.Seq.{take_at}
use lib.Dec.{eqb}
use Rattle.refusal.specs.Said.{pick}
use Rattle.wire.specs.Bytes.{le16}
use Rattle.pdu.specs.declared.PduFields.{PduFields}
use Rattle.pdu.specs.Pdu.{pdus_most}
use Rattle.pdu.specs.Read.{Places, bad, good, headed, places_at, frame_of, seen_at, seen_all, read_of, pdus_of}
use Rattle.pdu.proofs.Laws.{Few, few-places}
use Rattle.frame_reader.specs.Answers.{unused, padded}

few_seen : (s : List ℕ) (R : Places) → Few R 2047 → length (pdus_of (seen_all s R)) ≤ pdus_most
unfolding Few
few_seen s bad f = omega arith
few_seen s (good l) f = omega (arith, length-map l (seen_at s))

few-more : (R : Places) (a b : ℕ) → Few R a → a ≤ b → Few R b
unfolding Few
few-more bad a b f h = tt
few-more (good l) a b f h = omega arith

-- a PDU takes 12 bytes at least, and a frame has at most 2,047
pub pdus-most : (s : List ℕ) → length (pdus_of (read_of s)) ≤ pdus_most
unfolding read_of frame_of Few
pdus-most s = few_seen s (frame_of s) (go (headed s) (eqb n 0))
  where
    n : ℕ
    n = le16 s 0 % 2048

    go : (t u : Bool) → Few (pick t (pick u (good []) (places_at (length s) s 2 (n + 2))) bad) 2047
    go true true = omega arith
    go true false = few-more (places_at (length s) s 2 (n + 2)) (n + 2 - 2) 2047 (few-places (length s) s 2 (n + 2)) (omega arith)
    go false u = tt

module _ (vs pdus : List PduFields) (n : ℕ) (counted : n ≡ length vs) (listed : pdus ≡ padded vs) where
  -- the list has so many places
  pub listed-most : n ≤ length pdus
  unfolding padded
  listed-most = rw (listed, counted, length-append vs (unused (pdus_most - length vs))) (omega arith)

  -- .. of which so many are the frame's PDUs
  pub read-pdus : take n pdus ≡ vs
  unfolding padded
  read-pdus = rw listed (take_at vs (unused (pdus_most - length vs)) n (sym counted))

-- where there are none, their list is empty
pub read-none : (vs : List PduFields) → 0 ≡ length vs → [] ≡ vs
read-none [] e = refl
read-none (v ∷ vs) e = absurd (let z : ⊥ = omega arith in z)
