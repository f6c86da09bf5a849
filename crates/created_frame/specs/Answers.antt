-- Each answer on paper: number and values for each case (RULES, refusals). Definitions only.
use Rattle.std.specs.Prelude.{ℕ, Bool, List, [], ◌∷◌, Option, Result}
use Rattle.refusal.specs.Said.{Said, said, said_if_any, pick}
use Rattle.refusal.specs.declared.Refusal.{Refusal}
use Rattle.created_frame.specs.declared.Builder.{Builder}
use Rattle.created_frame.specs.declared.PduResponseHandle.{PduResponseHandle}

-- the PDU's place, its whole size, its index, its command
abbrev pub handle_values : PduResponseHandle → List ℕ
handle_values h = h.start ∷ h.size ∷ h.index ∷ h.command ∷ []

-- .. behind the bytes that went in
abbrev pub rest_values : ℕ × PduResponseHandle → List ℕ
rest_values r = r.0 ∷ handle_values r.1

-- a state's numbers: used, count, last
abbrev pub state_values : Builder → List ℕ
state_values b = b.used ∷ b.count ∷ b.last ∷ []

-- 1 or 0
abbrev pub can_values : Bool → List ℕ
can_values t = pick t 1 0 ∷ []

abbrev pub said_opened : Result Builder Refusal → Said
said_opened = said state_values

abbrev pub said_pushed : Result PduResponseHandle Refusal → Said
said_pushed = said handle_values

abbrev pub said_rest : Result (Option (ℕ × PduResponseHandle)) Refusal → Said
said_rest = said_if_any rest_values

abbrev pub said_can : Result Bool Refusal → Said
said_can = said can_values
