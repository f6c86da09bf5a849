-- Of two images that hold the same bytes from a place on, what is read behind it is the same.
use Prim.Native.Nat.{ℕ, ◌+◌, ◌≤◌}
use native.Mathlib.Omega.{arith}
use mathlib.Core.Path.{◌≡◌}
use mathlib.Core.List.{List}
use Rattle.eeprom.specs.Image.{within}
use Rattle.sii.specs.Layout.{Field, byte, word, long, start, field}
use Rattle.sii.specs.Alias.{SameFrom}

pub same_weaker : (a b : ℕ) (s t : List ℕ) → a ≤ b → SameFrom a s t → SameFrom b s t
same_weaker a b s t h e = record { size = e.size; bytes = λ i k. e.bytes i (omega arith) }

module _ (place : ℕ) (s t : List ℕ) (e : SameFrom place s t) where
  -- a field that lies behind the place
  pub field-same : (p : ℕ) (f : Field) → place ≤ p + start f → field s p f ≡ field t p f
  field-same p (byte k) h = e.bytes (p + k) (omega arith)
  field-same p (word k) h = rw (e.bytes (p + k) (omega arith), e.bytes (p + k + 1) (omega arith))
  field-same p (long k) h =
      rw (
        e.bytes (p + k) (omega arith),
        e.bytes (p + k + 1) (omega arith),
        e.bytes (p + k + 2) (omega arith),
        e.bytes (p + k + 2 + 1) (omega arith),
      )

  pub within_same : within s ≡ within t
  unfolding within
  within_same = rw e.size
