-- The two checksums of the bench (RULES, bench), computed: so that a table of examples cites them and opens nothing of the division.
use mathlib.Core.Path.{◌≡◌, refl}
use mathlib.Core.List.{[], ◌∷◌}
use lib.ListN.{replicate}
use Rattle.crc.specs.Crc.{bits, bits_of, brought_down, remainder, started, crc_of}

-- 14 bytes of zero
pub crc_zeros : crc_of (replicate 14 0) ≡ 0x30
unfolding bits bits_of brought_down remainder started crc_of
crc_zeros = refl

-- "123456789"
pub crc_digits : crc_of (0x31 ∷ 0x32 ∷ 0x33 ∷ 0x34 ∷ 0x35 ∷ 0x36 ∷ 0x37 ∷ 0x38 ∷ 0x39 ∷ []) ≡ 0xFB
unfolding bits bits_of brought_down remainder started crc_of
crc_digits = refl
