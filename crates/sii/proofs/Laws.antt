-- Setting the alias: what each way out says, and what it leaves in the image, from what leads there.
use Prim.Native.Nat.{ℕ, ◌≤◌, ◌<◌}
use mathlib.Core.Path.{◌≡◌}
use mathlib.Core.List.{List, []}
use mathlib.Core.Bool.{true, false}
use lib.ListN.{length}
use borrow.Author.Tests.{le-leb, lt-leb}
use Rattle.refusal.specs.Said.{gives, refuses}
use Rattle.eeprom.specs.Image.{within}
use Rattle.sii.specs.Fixed.{lent, checksum_end, aliased, set_said, set_image}

module _ (image : List ℕ) (alias : ℕ) where
  pub set_yes : within image ≡ true → checksum_end ≤ length image → (gives [] ≡ set_said image) × (aliased image alias ≡ set_image image alias)
  unfolding set_said set_image lent
  set_yes y h = (simp (y, le-leb _ _ h), simp (y, le-leb _ _ h))

  pub set-short : within image ≡ true → length image < checksum_end → (refuses 7 [] ≡ set_said image) × (image ≡ set_image image alias)
  unfolding set_said set_image lent
  set-short y h = (simp (y, lt-leb _ _ h), simp (y, lt-leb _ _ h))

  pub set_long : within image ≡ false → (refuses 14 [] ≡ set_said image) × (image ≡ set_image image alias)
  unfolding set_said set_image lent
  set_long n = (simp n, simp n)
