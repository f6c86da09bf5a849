-- A list that comes back is known from its promise, as those of `lists` are.
use mathlib.Core.Path.{◌≡◌, refl}
use Rattle.std.specs.Prelude.{Result}
use Rattle.refusal.specs.declared.Refusal.{Refusal}
use Rattle.lists.specs.Records.{Back}
use Rattle.lists.proofs.Unique.{back_unique}
use Rattle.clock.specs.Clocks.{clock_zero, clock_most}
use Rattle.clock.specs.Answers.{back_clocks}
use Rattle.clock.specs.declared.DistributedClock.{DistributedClock}
use Rattle.clock.specs.declared.DistributedClocks.{DistributedClocks}

pub clocks_unique : (r s : Result DistributedClocks Refusal) (x : Back DistributedClock) → back_clocks r ≡ x → back_clocks s ≡ x → r ≡ s
clocks_unique = back_unique clock_zero clock_most (λ r. r.count) (λ r. r.items) (λ n l. record { count = n; items = l }) (λ r. refl)
