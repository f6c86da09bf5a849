-- The bytes that the checksum goes over: filled in one by one, and the image's first where it has as many.
use Prim.Native.Nat.{ℕ, zero, suc, ◌+◌, ◌≤◌, ◌<◌}
use native.Mathlib.Nat.{zero-add, le_of_eq}
use native.Mathlib.Omega.{arith}
use mathlib.Core.Path.{◌≡◌, refl, ap}
use mathlib.Core.List.{List, ◌∷◌, append-nil}
use lib.ListN.{length, set, take, drop, drop_of_length-le}
use lib.Seq.{drop-cons}
use Rattle.wire.specs.Bytes.{byte_at, span, filled}
use Rattle.wire.proofs.Laws.{filled_more}
use Rattle.sii.specs.Layout.{start, checksum}
use Rattle.setup.specs.Setup.{summed}

pub front-more : (image buf : List ℕ) (n : ℕ) → n < length buf → set (filled image 0 n buf) n (byte_at image n) ≡ filled image 0 (n + 1) buf
front-more image buf n h = rw (zero-add) at (filled_more image 0 n buf h)

pub front_all : (image buf : List ℕ) → length buf ≡ start checksum → filled image 0 (start checksum) buf ≡ summed image
unfolding filled summed
front_all image buf h = rw (drop_of_length-le buf (le_of_eq h), append-nil)

-- ---- an image that has them all

span_in : (s : List ℕ) (i n : ℕ) → i + n ≤ length s → span s i n ≡ take n (drop i s)
unfolding span byte_at
span_in s i zero h = refl
span_in s i (suc n) h = rw (drop-cons s i 255 (omega arith)) (ap (◌∷◌ (byte_at s i)) (span_in s (suc i) n (omega arith)))

pub summed_in : (image : List ℕ) → start checksum ≤ length image → summed image ≡ take (start checksum) image
unfolding summed
summed_in image h = span_in image 0 14 (omega arith)
