-- What a text is made of. Definitions only.
use Rattle.std.specs.Prelude.{ℕ, ◌<◌, List, [], ◌∷◌}
use Rattle.strings.specs.Strings.{ascii_end}

-- ASCII without zeros
unfoldable pub Plain : List ℕ → Type 0
Plain [] = Unit {0}
Plain (b ∷ l) = (0 < b) × (b < ascii_end) × Plain l
