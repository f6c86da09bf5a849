-- Two cases of a spreading that RULES, bench, does not mark P, and a worked example: from the definitions by computation.
use mathlib.Core.Path.{◌≡◌, refl}
use mathlib.Core.List.{[], ◌∷◌, ◌++◌}
use Prim.Native.Nat.{ℕ}
use lib.ListN.{replicate}
use Rattle.refusal.specs.Said.{Said, gives}
use Rattle.cuts.specs.Measure.{cap}
use Rattle.created_frame.specs.declared.Builder.{Builder}
use Rattle.wire.specs.Bytes.{byte_at, overlay}
use Rattle.created_frame.specs.Frame.{sound, acceptable, more, marked, fresh, rest_builder, rest_next, after_rest}
use Rattle.spread.specs.Row.{zeroed, row_from, lawful, room_in, Outcome, spread_of}

-- what is said of an image of n bytes over two areas of 100, the first in this state
abbrev bench_said : Builder → ℕ → Said
bench_said first n = (spread_of (replicate 200 0) 100 first 0 12 0 (replicate n 0)).said

module _ where
  pub bench_176 : bench_said fresh 176 ≡ gives (2 ∷ [])
  unfolding spread_of lawful sound room_in cap row_from rest_builder rest_next acceptable
  bench_176 = refl

  -- the first with 90 used: 1 byte ends in 2
  pub bench_90_used : bench_said (record { used = 90; count = 1; last = 0 }) 1 ≡ gives (2 ∷ [])
  unfolding spread_of lawful sound room_in cap row_from rest_builder rest_next acceptable
  bench_90_used = refl

-- ---- a worked example: three areas of 14 bytes, the first opened, the others holding 0xFF; LRW from address 0xFFFFFFFD, index 255, image 01 02 03

abbrev example : Outcome
example = spread_of (replicate 14 0 ++ replicate 28 255) 14 fresh 255 12 4294967293 (1 ∷ 2 ∷ 3 ∷ [])

module _ where
  -- it ends in area 2, and the next index is 1
  pub example-said : example.said ≡ gives (2 ∷ [])
  unfolding spread_of lawful sound room_in cap row_from rest_builder rest_next acceptable
  example-said = refl

  pub example-next : example.run.next ≡ 1
  unfolding spread_of lawful sound room_in cap row_from rest_builder rest_next acceptable
  example-next = refl

  pub example-states : example.run.states ≡ record { used = 14; count = 1; last = 0 } ∷ record { used = 13; count = 1; last = 0 } ∷ []
  unfolding spread_of lawful sound room_in cap row_from rest_builder rest_next acceptable
  example-states = refl

  -- a PDU of two bytes at the address, one of the last byte at the address + 2, index 0 after 255, and the third area as it was
  pub example-bytes : example.run.areas ≡
      12 ∷ 255 ∷ 253 ∷ 255 ∷ 255 ∷ 255 ∷ 2 ∷ 0 ∷ 0 ∷ 0 ∷ 1 ∷ 2 ∷ 0 ∷ 0
      ∷ 12 ∷ 0 ∷ 255 ∷ 255 ∷ 255 ∷ 255 ∷ 1 ∷ 0 ∷ 0 ∷ 0 ∷ 3 ∷ 0 ∷ 0 ∷ 0
      ∷ replicate 14 255
  unfolding spread_of lawful sound room_in cap row_from rest_builder rest_next acceptable after_rest zeroed overlay marked more byte_at
  example-bytes = refl
