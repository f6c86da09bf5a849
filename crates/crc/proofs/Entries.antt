-- The table's rule, for every byte: its entry is what eight places make of the byte. That the code's constant is this table is computed in crc/Proof.antt.
use mathlib.Core.Path.{◌≡◌, ap, ◌∙◌}
use Prim.Native.Nat.{ℕ, zero, suc, ◌+◌, ◌<◌}
use native.Mathlib.Nat.{add-zero, zero-add, add-suc, suc-add, le_of_suc-le-suc, not-suc-le-zero}
use lib.ListN.{get_or}
use Rattle.crc.specs.Crc.{byte_bits}
use Rattle.crc.specs.Steps.{shifted_by, entries_from, entries, byte_count}

from_at : (n c k : ℕ) → k < n → get_or (entries_from n c) k 0 ≡ shifted_by byte_bits (c + k)
unfolding entries_from
from_at zero c k h = absurd (not-suc-le-zero h)
from_at (suc n) c zero h = rw (add-zero c)
from_at (suc n) c (suc k) h = rw (add-suc c k, ← suc-add c k) (from_at n (suc c) k (le_of_suc-le-suc h))

pub table_rule : (c : ℕ) → c < byte_count → get_or entries c 0 ≡ shifted_by byte_bits c
table_rule c h = from_at byte_count 0 c h ∙ ap (shifted_by byte_bits) (zero-add c)
