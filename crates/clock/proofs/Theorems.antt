-- The list is what lies inside its category, and setting the alias leaves it as it was: the theorems of `lists`, for this kind of record.
use Prim.Native.Nat.{ℕ, ◌<◌}
use native.Mathlib.Omega.{arith}
use mathlib.Core.Path.{◌≡◌}
use mathlib.Core.List.{List, []}
use Rattle.refusal.specs.Said.{gives}
use Rattle.category.specs.Numbers as numbers
use Rattle.sii.specs.Fixed.{checksum_end, set_said, set_image}
use Rattle.sii.specs.Alias.{SameFrom}
use Rattle.category.proofs.Same.{categories}
use Rattle.sii.proofs.Same.{same_weaker}
use Rattle.sii.proofs.Alias.{alias-kept}
use Rattle.lists.specs.Records.{holds}
use Rattle.lists.specs.Inside.{Lists, SameIn}
use Rattle.lists.proofs.Inside.{Holds, list_inside, inside-list, list_local, all}
use Rattle.lists.proofs.Alias.{list_same}
use Rattle.clock.specs.Layout.{clock_bytes}
use Rattle.clock.specs.Clocks.{clock_at, clock_most, clocks_of}
use Rattle.clock.specs.declared.DistributedClock.{DistributedClock}
use Rattle.clock.proofs.Reading.{clock_moves, clock_stops, clock_local}

pub clocks_inside : (image : List ℕ) (p end : ℕ) (l : List DistributedClock) → Holds image numbers.clock p end → clocks_of image ≡ holds l → Lists (clock_at image end) clock_bytes end clock_most p l
unfolding clocks_of
clocks_inside = list_inside clock_at clock_moves clock_bytes clock_stops clock_local clock_most numbers.clock (λ p end. end) all

pub clocks_exact : (image : List ℕ) (p end : ℕ) (l : List DistributedClock) → Holds image numbers.clock p end → Lists (clock_at image end) clock_bytes end clock_most p l → clocks_of image ≡ holds l
unfolding clocks_of
clocks_exact = inside-list clock_at clock_moves clock_bytes clock_stops clock_local clock_most numbers.clock (λ p end. end) all

pub clocks_local : (s t : List ℕ) (p end : ℕ) → Holds s numbers.clock p end → Holds t numbers.clock p end → SameIn p end s t → clocks_of s ≡ clocks_of t
unfolding clocks_of
clocks_local = list_local clock_at clock_moves clock_bytes clock_stops clock_local clock_most numbers.clock (λ p end. end) all

pub clocks_same : (s t : List ℕ) → SameFrom categories s t → clocks_of s ≡ clocks_of t
unfolding clocks_of
clocks_same s t e = list_same s t e clock_at clock_moves clock_local clock_most numbers.clock (λ p end. end)

pub alias_clocks : (image : List ℕ) (alias : ℕ) → alias < 65536 → set_said image ≡ gives [] → clocks_of (set_image image alias) ≡ clocks_of image
alias_clocks image alias f p =
    clocks_same _ _ (same_weaker checksum_end categories _ _ (omega arith) (alias-kept image alias f p).behind)
