-- What `range_step` is asked and promises, for a walk by hand that opens a range: `EepromRange::new` and `EepromRangeMut::new` differ in what they make of it.
--     asked      two numbers that fit are all that it asks
--     said       of what it ensures, the clause alone
--     fields     what is known of each field of what it returned
use mathlib.Core.Path.{◌≡◌, refl}
use Prim.Native.Nat.{ℕ, ◌<◌, ◌^◌}
use mathlib.Core.List.{List, [], ◌∷◌}
use seplogic.Ra.Ura.{Ura}
use mir.Syntax.{w16}
use mir.Val.{Val, vint}
use base.Logic.{SProp, ent, snd∗, ex_e}
use base.Fml.{ftrue}
use prog.Memory.{Memory}
use prog.Routine.{Routine}
use types.Logic.{Logic, sem}
use contract.Monad.{Fun, fact}
use types.Kit.{‵, ◌$◌, ◌∵◌, !, qed, move, join, fjoin, frame, done}
use denote.Laws.{Is, valss}
use denote.Plain.{uint_Makes}
use denote.Builtin.{u16, unit}
use denote.Steps.{owned, nothing}
use denote.Struct.Declared as D
use denote.Struct.Laws as LL
use denote.Triple.Statement.{Contract}
use denote.Triple.Clauses.{ensured, lasts}
use denote.Triple.Spec.{triple_of}
use Rattle.std.specs.contracts.result.Result.{the_row as result_of}
use Rattle.refusal.specs.contracts.Refusal.{the_row as refusal}
use Rattle.eeprom.specs.Range.{new_said}
use Rattle.held.specs.Range.{alone, stands, ends}
use Rattle.held.specs.Answers.{said_outcome}
use Rattle.held.specs.declared.step.RangeStep.{RangeStep}
use Rattle.held.specs.contracts.step.RangeStep as R
use Rattle.held.proofs.step.RangeStep.TheLaws as R'
use Rattle.held.specs.contracts.step.range_step as callee

abbrev pub Callee : {M : Type 1} {𝓤 : Ura M} (𝓛 : Logic 𝓤) (at_mem : Memory → SProp 𝓤) (run : Routine → Fun 𝓤) → Contract 𝓤
Callee 𝓛 at_mem run = triple_of 𝓛 callee.signature (callee.spec 𝓛 at_mem run)

-- the two numbers, as it is passed them
abbrev pub args : ℕ → ℕ → ℕ × (ℕ × Unit {0})
args n m = (n, (m, tt))

abbrev pub Got : ℕ → ℕ → RangeStep → Type 0
Got n m r = (said_outcome r.answer ≡ alone (new_said n m)) × ((r.byte_pos ≡ stands 0 (new_said n m)) × (r.end ≡ ends (new_said n m)))

-- the machine values of the answer
abbrev pub answer_vals : RangeStep → List Val
answer_vals r = (valss (D.fields R.the_type) (LL.spells R.the_type.parts R'.the_laws) (R.the_type.to r)).0

abbrev pub Known : RangeStep → Type 0
Known r = Is (result_of unit refusal) r.answer (answer_vals r) × ((r.byte_pos < 2 ^ 32) × (r.end < 2 ^ 32))

pub fields : (r : RangeStep) (u : Val) → Is R.the_row r (u ∷ []) → Known r
fields r u is = let f = LL.owed R.the_type R'.the_laws r (u ∷ []) is in (f.0, (f.1.0.1, f.1.1.0.1))

module _ {M : Type 1} {𝓤 : Ura M} (𝓛 : Logic 𝓤) (at_mem : Memory → SProp 𝓤) (run : Routine → Fun 𝓤) (n m : ℕ) where
  abbrev pub to : (Callee 𝓛 at_mem run).Ghost
  to = ((tt, tt, tt, args n m, (vint w16 n ∷ [], (vint w16 m ∷ [], tt))), tt)

  pub asked : n < 2 ^ 16 → m < 2 ^ 16 → ent 𝓤 (sem 𝓛 ftrue) ((Callee 𝓛 at_mem run).pre to)
  asked fn fm = qed 𝓛 (‵ ftrue ∷ []) ∵ nothing ! $ owned ! u16 (Is u16) (uint_Makes 𝓛 w16) m _ (refl, fm) $ fjoin ! $ owned ! u16 (Is u16) (uint_Makes 𝓛 w16) n _ (refl, fn) $ fjoin ! $ move ! (1 ∷ 0 ∷ []) $ join ! $ frame ! $ done !

  pub said : (r : RangeStep) → ent 𝓤 (ensured 𝓛 callee.ended (callee.clauses 𝓛 at_mem run) tt (args n m) tt r) (fact 𝓤 (Got n m r))
  said r = ex_e 𝓤 _ (λ ws. snd∗ 𝓤 (sem 𝓛 (lasts callee.ended tt (args n m) ws)) (fact 𝓤 (Got n m r)))
