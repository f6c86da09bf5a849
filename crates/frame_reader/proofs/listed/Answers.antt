-- `frame_reader::listed` reads the PDUs one by one: after k turns the list holds those of the first k places.
use mathlib.Core.Path.{◌≡◌, refl}
use native.Mathlib.Omega.{arith}
use lib.ListN.{length, take}
use Rattle.std.proofs.lemmas.Grind.{common_steps}
use Rattle.frame_reader.specs.Answers.{padded, unused}
use Rattle.frame_reader.specs.Walk.{listing}
use Rattle.frame_reader.proofs.Blank.{pdu_blank}
use Rattle.frame_reader.proofs.Laws.{padded-more}
use Rattle.frame_reader.proofs.listed.Goals as goal

pub loop-k-init : goal.loop-k-init
unfolding padded unused
loop-k-init c = rw (pdu_blank _ c.default-pdus.ensures) refl

pub loop-k-preserved : goal.loop-k-preserved
loop-k-preserved c =
    let x = c.loop-k in
    rw x.invariant (padded-more _ _ x.k _ (omega arith) (omega arith) (rw (← c.from.ensures) c.pdu_at.ensures))

pub returns : goal.returns
unfolding listing
returns c =
    let e : c.loop-k.k ≡ length c.args.places.now = omega arith in
    let all : take c.loop-k.k c.args.places.now ≡ c.args.places.now = grind (arith, common_steps) in
    rw (c.loop-k.invariant, all)
