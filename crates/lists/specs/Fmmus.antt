-- FMMUs as the SII lists them: the usage of each, and the sync manager of each extended one. Definitions only.
use Rattle.std.specs.Prelude.{ℕ, ◌+◌, min, List, Bool, true, leb, eqb}
use Rattle.refusal.specs.Said.{pick}
use Rattle.category.specs.Numbers as numbers
use Rattle.category.specs.Category.{category_said}
use Rattle.sii.specs.Layout.{field}
use Rattle.sii.specs.General.{listed}
use Rattle.lists.specs.Layout.{fmmu_bytes, fmmu_usage, fmmu_usage_last, fmmu_unused, ex_bytes, ex_sync_m}
use Rattle.lists.specs.Records.{Item, one, none, bad, Listed, records, in_category}

-- the most FMMUs (ETG1000.4 6.6.1): of usages, the bytes that are looked at; of extended FMMUs, the most that are listed (RULES, limits)
abbrev pub fmmu_most : ℕ
fmmu_most = 16

-- no usage is admitted that is not listed
unfoldable pub usage_admits : ℕ → Bool
usage_admits u = pick (leb u fmmu_usage_last) true (eqb u fmmu_unused)

abbrev pub usage_of : ℕ → ℕ
usage_of u = listed fmmu_usage_last u

-- what stands at p of a category that ends at end
unfoldable pub usage_at : List ℕ → ℕ → ℕ → Item ℕ
usage_at image end p =
    pick (leb (p + fmmu_bytes) end)
    (pick (usage_admits (field image p fmmu_usage)) (one (usage_of (field image p fmmu_usage)) (p + fmmu_bytes)) bad)
    none

unfoldable pub usages_of : List ℕ → Listed ℕ
usages_of image = in_category (category_said image numbers.fmmu) (λ p end. records (usage_at image (min end (p + fmmu_most))) fmmu_most p)

-- every sync manager is admitted
unfoldable pub ex_at : List ℕ → ℕ → ℕ → Item ℕ
ex_at image end p = pick (leb (p + ex_bytes) end) (one (field image p ex_sync_m) (p + ex_bytes)) none

unfoldable pub ex_of : List ℕ → Listed ℕ
ex_of image = in_category (category_said image numbers.fmmu_extended) (λ p end. records (ex_at image end) fmmu_most p)
