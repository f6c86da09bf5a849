-- The usages' list ends at the category's sixteenth byte.
use Prim.Native.Nat.{ℕ, ◌+◌, min}
use mathlib.Core.Path.{◌≡◌}
use mathlib.Core.List.{List}
use Rattle.std.specs.Prelude.{Option, Some, None, Ok}
use Rattle.std.specs.Option.{MatchOption, IsSomeAnd}
use Rattle.eeprom.specs.declared.Range.{Range}
use Rattle.category.specs.Answers.{said_found}
use Rattle.lists.specs.Records.{records, in_category}
use Rattle.lists.specs.Fmmus.{fmmu_most, usage_at}

pub usages-cut : (image : List ℕ) (found cut : Option Range) → MatchOption found (cut ≡ None) (λ g. IsSomeAnd cut (λ r. r ≡ record { byte_pos = g.byte_pos; end = min g.end (g.byte_pos + fmmu_most) })) →
    in_category (said_found (Ok cut)) (λ p end. records (usage_at image end) fmmu_most p) ≡ in_category (said_found (Ok found)) (λ p end. records (usage_at image (min end (p + fmmu_most))) fmmu_most p)
unfolding in_category
usages-cut image None cut h = rw h
usages-cut image (Some g) None h = absurd h
usages-cut image (Some g) (Some c) h = rw h
