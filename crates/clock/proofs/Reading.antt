-- What `lists` asks of a kind of record: it ends behind its start and within its category, and nothing outside is read.
use Prim.Native.Nat.{ℕ, ◌+◌, ◌≤◌}
use native.Mathlib.Omega.{arith}
use mathlib.Core.Path.{◌≡◌, refl}
use mathlib.Core.Bool.{Bool, true, false}
use mathlib.Core.List.{List}
use lib.Dec.{leb}
use borrow.Author.Tests.{leb-true}
use Rattle.refusal.specs.Said.{pick}
use Rattle.lists.specs.Records.{one, none}
use Rattle.lists.specs.Inside.{SameIn, Moves, Stops, Local}
use Rattle.lists.proofs.Reading.{ends_in, one-some, sized_stops, field_in}
use Rattle.clock.specs.Layout.{clock_bytes, cycle_time0_field, shift_time0_field, shift_time1_field, sync1_cycle_factor_field, assign_activate_field, sync0_cycle_factor_field, mode_name_idx, mode_desc_idx}
use Rattle.clock.specs.Clocks.{clock_of, clock_at}

pub clock_moves : Moves clock_at
unfolding clock_at
clock_moves image end p r q e =
    let f = ends_in (leb (p + clock_bytes) end) true r (clock_of image p) q (p + clock_bytes) e in
    (omega (arith, f.2), omega (arith, f.2, leb-true (p + clock_bytes) end f.0))

pub clock_stops : Stops clock_at clock_bytes
unfolding clock_at
clock_stops = sized_stops clock_bytes clock_at (λ image end p. one (clock_of image p) (p + clock_bytes)) (λ image end p. refl) (λ image end p. one-some _ _)

clock-same : (s t : List ℕ) (end p : ℕ) → SameIn p end s t → p + clock_bytes ≤ end → clock_of s p ≡ clock_of t p
unfolding clock_of
clock-same s t end p e h =
    rw (
      field_in s t end p e cycle_time0_field (omega arith),
      field_in s t end p e shift_time0_field (omega arith),
      field_in s t end p e shift_time1_field (omega arith),
      field_in s t end p e sync1_cycle_factor_field (omega arith),
      field_in s t end p e assign_activate_field (omega arith),
      field_in s t end p e sync0_cycle_factor_field (omega arith),
      field_in s t end p e mode_name_idx (omega arith),
      field_in s t end p e mode_desc_idx (omega arith),
    )

pub clock_local : Local clock_at
unfolding clock_at
clock_local s t end p e = go (leb (p + clock_bytes) end) refl
  where
    go : (b : Bool) → leb (p + clock_bytes) end ≡ b → pick b (one (clock_of s p) (p + clock_bytes)) none ≡ pick b (one (clock_of t p) (p + clock_bytes)) none
    go true h = rw (clock-same s t end p e (leb-true (p + clock_bytes) end h))
    go false h = refl
