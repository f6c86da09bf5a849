-- What is within the bounds, in plain numbers (RULES, frames): the facts that `sound` and `acceptable` test. Definitions only.
use Rattle.std.specs.Prelude.{◌≡◌, ℕ, ◌+◌, ◌*◌, ◌<◌, ◌≤◌}
use Rattle.pdu.specs.Pdu.{area_most, pdu_overhead, header_bytes}
use Rattle.created_frame.specs.declared.Builder.{Builder}
use Rattle.created_frame.specs.Frame.{command_most, data_most}

-- the state fits an area of size bytes
pub record Sound (size : ℕ) (b : Builder) : Type 0 where
  pub small : size ≤ area_most
  pub inside : b.used ≤ size
  pub none_used : b.count ≡ 0 → b.used ≡ 0
  pub counted : pdu_overhead * b.count ≤ b.used
  pub header_in : 0 < b.count → b.last + header_bytes ≤ b.used

-- .. and the command, the data's length and the override are such as are taken
pub record InBounds (size : ℕ) (b : Builder) (command given over : ℕ) : Type 0 where
  pub state : Sound size b
  pub known : command ≤ command_most
  pub given_fits : given ≤ data_most
  pub over_fits : over ≤ data_most
