-- RULES, strings, device name and description: strings whose indices the category General holds
-- (ETG2010 Table 7, ETG1000.6 Table 21). Definitions only.
use Rattle.std.specs.Prelude.{ℕ, List, get_or}
use Rattle.refusal.specs.Said.{Said, gives, absent, refuses}
use Rattle.sii.specs.General.{general_found, general_said}
use Rattle.strings.specs.Strings.{bounded, string_said}

-- General's index of the order number, and of the name: the third and the fourth of its values
abbrev pub order_of : List ℕ → ℕ
order_of general = get_or general 2 0

abbrev pub name_of : List ℕ → ℕ
name_of general = get_or general 3 0

-- what follows from General's values; else what was said of General
unfoldable pub on_general : Said → (List ℕ → Said) → Said
on_general (gives general) k = k general
on_general absent k = absent
on_general (refuses n l) k = refuses n l

-- the string of an index that General holds, for a room of k bytes
unfoldable pub string_by : List ℕ → ℕ → Said → (List ℕ → ℕ) → Said
string_by image k said index = bounded image k (on_general said (λ general. string_said image (index general) k))

-- the device's name: the string of the order index; absent without General
unfoldable pub name_said : List ℕ → ℕ → Said
name_said image k = string_by image k (general_found image) order_of

-- its description: the string of the name index; 3 without General
unfoldable pub description_said : List ℕ → ℕ → Said
description_said image k = string_by image k (general_said image) name_of
