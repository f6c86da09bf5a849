-- The answer on paper, RULES' number and values for each case; and what the call promises. Definitions only.
use Rattle.std.specs.Prelude.{◌≡◌, ℕ, List, get_or, Result}
use Rattle.refusal.specs.Said.{Said, gives, absent, refuses, said, number_value}
use Rattle.refusal.specs.declared.Refusal.{Refusal}
use Rattle.created_frame.specs.declared.Builder.{Builder}
use Rattle.spread.specs.declared.Spreading.{Spreading}
use Rattle.spread.specs.Row.{padded, spread_of}

-- the last area's number
abbrev pub said_last : Result ℕ Refusal → Said
said_last = said number_value

-- the first value that is given, or 0: how many bytes a push took
abbrev pub first_of : Said → ℕ
first_of (gives l) = get_or l 0 0
first_of absent = 0
first_of (refuses n l) = 0

-- THE CONTRACT: of the result r, and of the row ys as it is left, all is what the rule says
abbrev pub Promised : List ℕ → ℕ → Builder → ℕ → ℕ → ℕ → List ℕ → Spreading → List ℕ → Type 0
Promised row size first index command address image r ys =
    let o = spread_of row size first index command address image in
    (said_last r.answer ≡ o.said) × (((r.states ≡ padded o.run.states) × (r.next ≡ o.run.next)) × (ys ≡ o.run.areas))
