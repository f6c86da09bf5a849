-- One push into an area that accepts it: how much it takes, and what it adds.
use mathlib.Core.Path.{◌≡◌, refl, sym}
use mathlib.Core.Bool.{Bool, true, false}
use mathlib.Core.List.{List, [], ◌∷◌}
use Prim.Native.Nat.{ℕ, ◌≤◌}
use native.Mathlib.Omega.{arith}
use borrow.Author.Tests.{eqb-true, eq-eqb}
use lib.Dec.{eqb}
use lib.ListN.{length, take, length-replicate}
use Rattle.refusal.specs.Said.{gives, absent, pick}
use Rattle.created_frame.specs.declared.Builder.{Builder}
use Rattle.created_frame.specs.Frame.{command_most, data_most, sound, handle, taken, rest_pushed}
use Rattle.created_frame.specs.Built.{made, rest_adds}
use Rattle.created_frame.proofs.States.{accepts, rest_said}
use Rattle.spread.specs.Answers.{first_of}
use Rattle.spread.specs.Row.{zeroed}

pub zeroed-length : (size : ℕ) → length (zeroed size) ≡ size
unfolding zeroed
zeroed-length size = length-replicate {A = ℕ} size 0

-- it says how much it takes
pub push_takes : (size : ℕ) (b : Builder) (index command given : ℕ) → sound size b ≡ true → command ≤ command_most → given ≤ data_most
    → first_of (rest_pushed size b index command given) ≡ taken size b.used given
push_takes size b index command given s c g = rw (rest_said size b s index command given c g) (go (eqb (taken size b.used given) 0) refl)
  where
    go : (e : Bool) → eqb (taken size b.used given) 0 ≡ e
        → first_of (pick e absent (gives (taken size b.used given ∷ handle b (taken size b.used given) index command))) ≡ taken size b.used given
    go true e = sym (eqb-true _ _ e)
    go false e = refl

-- it is absent where that is 0
pub push_none : (size : ℕ) (b : Builder) (index command given : ℕ) → sound size b ≡ true → command ≤ command_most → given ≤ data_most
    → taken size b.used given ≡ 0 → rest_pushed size b index command given ≡ absent
push_none size b index command given s c g z = rw (rest_said size b s index command given c g, eq-eqb (taken size b.used given) 0 z) refl

-- else it adds a PDU of the first bytes
pub push_adds_lem : (size : ℕ) (b : Builder) (index command address : ℕ) (bytes : List ℕ) → sound size b ≡ true → command ≤ command_most → length bytes ≤ data_most
    → let t = taken size b.used (length bytes) in
    rest_adds size b index command address bytes ≡ pick (eqb t 0) [] (made index command address (take t bytes) t ∷ [])
unfolding rest_adds
push_adds_lem size b index command address bytes s c g = rw (accepts size b s command (length bytes) 0 c g (omega arith)) refl
