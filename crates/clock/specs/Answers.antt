-- What comes back: what is said, in numbers and values (RULES, refusals), the count and every place. Definitions only.
use Rattle.std.specs.Prelude.{Result}
use Rattle.refusal.specs.declared.Refusal.{Refusal}
use Rattle.lists.specs.Records.{Back, back_of}
use Rattle.clock.specs.Clocks.{clock_zero, clock_most}
use Rattle.clock.specs.declared.DistributedClock.{DistributedClock}
use Rattle.clock.specs.declared.DistributedClocks.{DistributedClocks}

abbrev pub back_clocks : Result DistributedClocks Refusal → Back DistributedClock
back_clocks = back_of clock_zero clock_most (λ r. r.count) (λ r. r.items)
