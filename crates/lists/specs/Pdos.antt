-- PDOs as the SII lists them. Definitions only.
use Rattle.std.specs.Prelude.{ℕ, zero, suc, ◌+◌, ◌*◌, List, [], ◌∷◌, leb}
use Rattle.refusal.specs.Said.{pick}
use Rattle.category.specs.Category.{category_said}
use Rattle.sii.specs.Layout.{field}
use Rattle.lists.specs.Layout.{pdo_bytes, pdo_index, n_entry, pdo_sync_m, entry_bytes, bit_length}
use Rattle.lists.specs.Records.{Item, one, none, bad, Listed, records, in_category}
use Rattle.lists.specs.declared.Pdo.{Pdo}

-- the most that are listed (RULES, limits); one more is 6
abbrev pub pdo_most : ℕ
pdo_most = 64

-- a PDO's bit length has 16 bits
abbrev pub bit_len_below : ℕ
bit_len_below = 65536

-- how many entries the PDO at p has; where entry k stands; and where the PDO ends
unfoldable pub entries_of : List ℕ → ℕ → ℕ
entries_of image p = field image p n_entry

abbrev pub entry_at : ℕ → ℕ → ℕ
entry_at p k = p + pdo_bytes + entry_bytes * k

abbrev pub pdo_end : List ℕ → ℕ → ℕ
pdo_end image p = entry_at p (entries_of image p)

-- the sum of f over 0 to n less 1
unfoldable pub sum_to : (ℕ → ℕ) → ℕ → ℕ
sum_to f zero = 0
sum_to f (suc n) = sum_to f n + f n

-- the bit length of entry k of the PDO at p, and that of the PDO: the sum over its entries
unfoldable pub entry_bits : List ℕ → ℕ → ℕ → ℕ
entry_bits image p k = field image (entry_at p k) bit_length

abbrev pub bits_of : List ℕ → ℕ → ℕ
bits_of image p = sum_to (entry_bits image p) (entries_of image p)

unfoldable pub pdo_of : List ℕ → ℕ → Pdo
pdo_of image p = record {
  index = field image p pdo_index;
  num_entries = entries_of image p;
  sync_manager = field image p pdo_sync_m;
  bit_len = bits_of image p;
}

-- the numbers that a list gives of it
abbrev pub pdo_values : Pdo → List ℕ
pdo_values p = p.index ∷ p.num_entries ∷ p.sync_manager ∷ p.bit_len ∷ []

-- what stands at p of a category that ends at end; an entry that is missing is bad
unfoldable pub pdo_at : List ℕ → ℕ → ℕ → Item Pdo
pdo_at image end p =
    pick (leb (p + pdo_bytes) end) (pick (leb (pdo_end image p) end) (one (pdo_of image p) (pdo_end image p)) bad) none

-- the list of a category, TxPDO or RxPDO
unfoldable pub pdos_of : List ℕ → ℕ → Listed Pdo
pdos_of image number = in_category (category_said image number) (λ p end. records (pdo_at image end) pdo_most p)

-- what a place of the list holds that is not used
abbrev pub pdo_zero : Pdo
pdo_zero = record { index = 0; num_entries = 0; sync_manager = 0; bit_len = 0 }
