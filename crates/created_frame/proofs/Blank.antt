-- What `default` gives is the state of an area without PDUs.
use mathlib.Core.Path.{◌≡◌}
use Rattle.created_frame.specs.Frame.{fresh}
use Rattle.created_frame.specs.declared.Builder.{Builder}

pub builder_blank : (b : Builder) → (b.used ≡ 0) × ((b.count ≡ 0) × (b.last ≡ 0)) → b ≡ fresh
builder_blank b d i = record { used = d.0 i; count = d.1.0 i; last = d.1.1 i }
