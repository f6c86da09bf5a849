-- What `default` gives is what a place of the list holds that is not used.
use mathlib.Core.Path.{◌≡◌}
use Rattle.clock.specs.Clocks.{clock_zero}
use Rattle.clock.specs.declared.DistributedClock.{DistributedClock}

pub clock_blank : (c : DistributedClock) →
    (c.cycle_time0 ≡ 0) × ((c.shift_time0 ≡ 0) × ((c.shift_time1 ≡ 0) × ((c.sync1_cycle_factor ≡ 0) × ((c.assign_activate ≡ 0) × ((c.sync0_cycle_factor ≡ 0) × ((c.name_string_idx ≡ 0) × (c.description_string_idx ≡ 0)))))))
    → c ≡ clock_zero
clock_blank c d i = record {
  cycle_time0 = d.0 i;
  shift_time0 = d.1.0 i;
  shift_time1 = d.1.1.0 i;
  sync1_cycle_factor = d.1.1.1.0 i;
  assign_activate = d.1.1.1.1.0 i;
  sync0_cycle_factor = d.1.1.1.1.1.0 i;
  name_string_idx = d.1.1.1.1.1.1.0 i;
  description_string_idx = d.1.1.1.1.1.1.1 i;
}
