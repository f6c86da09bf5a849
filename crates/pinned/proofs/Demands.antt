-- Each row: the contract's clauses are what the crate's theorem asks of a result; `of_one`, `of_two`, `of_three` by how many they are.
use mathlib.Core.Path.{sym, ◌∙◌}
use seplogic.Ra.Ura.{Ura}
use base.Logic.{SProp}
use prog.Memory.{Memory}
use prog.Routine.{Routine}
use types.Logic.{Logic}
use contract.Monad.{Fun}
use Rattle.eeprom.proofs.Laws.{byte_never_1}
use Rattle.created_frame.proofs.Pushes.{pushes}
use Rattle.frame_reader.proofs.Reading.{reads}
use Rattle.received.proofs.Receiving.{receives}
use Rattle.spread.proofs.Demand.{demand3}
use Rattle.pinned.specs.Demands.{EveryDemand}
use Rattle.pinned.proofs.Laws.{of_one, of_three}

-- a model of the logic
module _ {M : Type 1} {𝓤 : Ura M} (𝓛 : Logic 𝓤) (mem : Memory → SProp 𝓤) (run : Routine → Fun 𝓤) where
  -- THE STATEMENT
  pub every_demand : EveryDemand 𝓛 mem run
  every_demand = record {
    «eeprom::Range::read_byte» = λ κs a g r e. of_one 𝓤 (λ met l p. byte_never_1 _ _ _ l (sym met ∙ p));
    «created_frame::push_pdu» = λ κs a g r e. of_three 𝓤 (λ met. pushes _ _ _ _ _ _ _ r _ met);
    «frame_reader::read_frame» = λ κs a g r e. of_three 𝓤 (λ met. reads _ r met);
    «received::receive» = λ κs a g r e. of_one 𝓤 (λ met. receives _ _ r met);
    «spread::spread» = λ κs a g r e. of_one 𝓤 (λ met. demand3 _ _ _ _ _ _ _ r _ met);
  }
