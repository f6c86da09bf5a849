-- The modes of the distributed clock as the SII lists them, by the scheme of `lists`. Definitions only.
use Rattle.std.specs.Prelude.{ℕ, ◌+◌, List, [], ◌∷◌, leb}
use Rattle.refusal.specs.Said.{pick}
use Rattle.category.specs.Numbers as numbers
use Rattle.category.specs.Category.{category_said}
use Rattle.sii.specs.Layout.{field}
use Rattle.lists.specs.Records.{Item, one, none, Listed, records, in_category}
use Rattle.clock.specs.Layout.{clock_bytes, cycle_time0_field, shift_time0_field, shift_time1_field, sync1_cycle_factor_field, assign_activate_field, sync0_cycle_factor_field, mode_name_idx, mode_desc_idx}
use Rattle.clock.specs.declared.DistributedClock.{DistributedClock}

-- the most that are listed; one more is 6
abbrev pub clock_most : ℕ
clock_most = 8

unfoldable pub clock_of : List ℕ → ℕ → DistributedClock
clock_of image p = record {
  cycle_time0 = field image p cycle_time0_field;
  shift_time0 = field image p shift_time0_field;
  shift_time1 = field image p shift_time1_field;
  sync1_cycle_factor = field image p sync1_cycle_factor_field;
  assign_activate = field image p assign_activate_field;
  sync0_cycle_factor = field image p sync0_cycle_factor_field;
  name_string_idx = field image p mode_name_idx;
  description_string_idx = field image p mode_desc_idx;
}

-- the numbers that the list gives of it
abbrev pub clock_values : DistributedClock → List ℕ
clock_values c =
    c.cycle_time0 ∷ c.shift_time0 ∷ c.shift_time1 ∷ c.sync1_cycle_factor ∷ c.assign_activate ∷ c.sync0_cycle_factor
    ∷ c.name_string_idx ∷ c.description_string_idx ∷ []

-- what stands at p of a category that ends at end; every value is admitted
unfoldable pub clock_at : List ℕ → ℕ → ℕ → Item DistributedClock
clock_at image end p = pick (leb (p + clock_bytes) end) (one (clock_of image p) (p + clock_bytes)) none

unfoldable pub clocks_of : List ℕ → Listed DistributedClock
clocks_of image = in_category (category_said image numbers.clock) (λ p end. records (clock_at image end) clock_most p)

-- what a place of the list holds that is not used
abbrev pub clock_zero : DistributedClock
clock_zero = record {
  cycle_time0 = 0;
  shift_time0 = 0;
  shift_time1 = 0;
  sync1_cycle_factor = 0;
  assign_activate = 0;
  sync0_cycle_factor = 0;
  name_string_idx = 0;
  description_string_idx = 0;
}
