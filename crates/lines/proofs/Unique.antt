-- An answer is known from what it says, by an inverse: so a promise on what is said allows one answer.
use Prim.Native.Nat.{ℕ}
use mathlib.Core.Path.{◌≡◌, refl}
use Rattle.std.specs.Prelude.{Option, Some, None}
use lib.ListN.{get_or}
use Rattle.refusal.specs.Said.{Said, gives, absent, refuses}
use Rattle.refusal.proofs.Unique.{unique}
use Rattle.lines.specs.Numbers.{said_number}
use Rattle.lines.specs.Pairs.{said_hex}

unfoldable if_said : Said → Option ℕ
if_said (gives l) = Some (get_or l 0 0)
if_said absent = None
if_said (refuses n l) = None

number-back : (r : Option ℕ) → if_said (said_number r) ≡ r
unfolding if_said
number-back (Some n) = refl
number-back None = refl

pub number_unique : (a b : Option ℕ) (s : Said) → said_number a ≡ s → said_number b ≡ s → a ≡ b
number_unique = unique said_number if_said number-back

hex_back : (r : Option ℕ) → if_said (said_hex r) ≡ r
unfolding if_said
hex_back (Some n) = refl
hex_back None = refl

pub hex_unique : (a b : Option ℕ) (s : Said) → said_hex a ≡ s → said_hex b ≡ s → a ≡ b
hex_unique = unique said_hex if_said hex_back
