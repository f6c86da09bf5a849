-- WHAT A CONTRACT COMES TO: whatever the model of the logic, what a call's contract says at exit entails the crate's one statement of the call, as a fact of the
-- arguments at entry, the answer, and what is lent at exit. A row a statement, named as the call. Definitions only.
use Rattle.std.specs.Prelude.{ℕ, ◌≡◌, List}
use seplogic.Ra.Ura.{Ura}
use base.Logic.{SProp, ent}
use prog.Memory.{Memory}
use prog.Routine.{Routine}
use types.Logic.{Logic}
use contract.Lifetimes.{Lfts}
use contract.Monad.{Fun, fact}
use denote.Triple.Entry.{Args, Res}
use denote.Triple.Clauses.{Ended, AtExit}
use Rattle.refusal.specs.Said.{refuses}
use Rattle.eeprom.specs.contracts as of-eeprom
use Rattle.eeprom.specs.Answers.{said_byte}
use Rattle.created_frame.specs.contracts as of-created-frame
use Rattle.created_frame.specs.Pushes.{Pushes}
use Rattle.frame_reader.specs.contracts as of-frame-reader
use Rattle.frame_reader.specs.Reads.{Reads}
use Rattle.received.specs.contracts as of-received
use Rattle.received.specs.Receives.{Receives}
use Rattle.spread.specs.contracts as of-spread
use Rattle.spread.specs.Demand.{Demand3}
use Rattle.pinned.specs.Whole.{Contract}

-- a model of the logic
module _ {M : Type 1} {𝓤 : Ura M} (𝓛 : Logic 𝓤) (mem : Memory → SProp 𝓤) (run : Routine → Fun 𝓤) where
  -- the contract entails the statement
  abbrev pub Meets : (T : Ended) → Contract 𝓤 T → ((κs : Lfts T.signature.lifetimes) → Args T.signature κs → Res T.signature κs → AtExit T κs → Type 0) → Type 1
  Meets T contract Demand =
      let c = contract 𝓛 mem run in
      (κs : Lfts T.signature.lifetimes) (a : Args T.signature κs) (g : (c κs a).ghost) (r : Res T.signature κs) (e : AtExit T κs)
      → ent 𝓤 ((c κs a).ensures g r e) (fact 𝓤 (Demand κs a r e))

  pub record EveryDemand : Type 1 where
    -- RULES, range: a byte read is never refused with 1
    pub «eeprom::Range::read_byte» : Meets of-eeprom.Range.read_byte.ended of-eeprom.Range.read_byte.clauses
        (λ κs a r e. (l : List ℕ) → said_byte r ≡ refuses 1 l → ⊥)
    -- RULES, frames: a push
    pub «created_frame::push_pdu» : Meets of-created-frame.push_pdu.ended of-created-frame.push_pdu.clauses
        (λ κs a r e. Pushes a.0.now a.1.0 a.1.1.0 a.1.1.1.0 a.1.1.1.1.0 a.1.1.1.1.1.0.now a.1.1.1.1.1.1.0 r e.0.now)
    -- RULES, reader: a frame that is read
    pub «frame_reader::read_frame» : Meets of-frame-reader.read_frame.ended of-frame-reader.read_frame.clauses (λ κs a r e. Reads a.0.now r)
    -- RULES, received: a frame that came back
    pub «received::receive» : Meets of-received.receive.ended of-received.receive.clauses (λ κs a r e. Receives a.0.now a.1.0.now r)
    -- RULES, spreading: an image over a row of areas
    pub «spread::spread» : Meets of-spread.spread.ended of-spread.spread.clauses
        (λ κs a r e. Demand3 a.0.now a.1.0 a.1.1.0 a.1.1.1.0 a.1.1.1.1.0 a.1.1.1.1.1.0 a.1.1.1.1.1.1.0.now r e.0.now)
