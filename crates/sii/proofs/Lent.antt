-- An image that is lent: a read-out says what its rule says of one that is not too long, and 14 of one that is.
use mathlib.Core.Path.{◌≡◌}
use Prim.Native.Nat.{ℕ, ◌<◌}
use mathlib.Core.List.{List}
use mathlib.Core.Bool.{true, false}
use lib.ListN.{length}
use borrow.Author.Tests.{lt-leb}
use Rattle.refusal.specs.Said.{Said}
use Rattle.eeprom.specs.Image.{image_most, within}
use Rattle.sii.specs.Fixed.{lent}

pub lent-within : (image : List ℕ) → within image ≡ true → (said : Said) → lent image said ≡ said
unfolding lent
lent-within image w said = rw w

pub lent_same : (s t : List ℕ) (a b : Said) → within s ≡ within t → a ≡ b → lent s a ≡ lent t b
unfolding lent
lent_same s t a b w e = rw (w, e)

pub past-within : (image : List ℕ) → image_most < length image → within image ≡ false
unfolding within
past-within image h = lt-leb _ _ h
