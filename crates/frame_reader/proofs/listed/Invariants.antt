-- `frame_reader::listed` reads the PDUs one by one: after k turns the list holds those of the first k places.
use mathlib.Core.Path.{◌≡◌}
use mathlib.Core.List.{map}
use lib.ListN.{take}
use Rattle.pdu.specs.Read.{seen_at}
use Rattle.frame_reader.specs.Answers.{padded}
use Rattle.frame_reader.proofs.listed.Given as goal

abbrev pub invariant-loop-k : goal.invariant-loop-k
invariant-loop-k l = l.pdus ≡ padded (map (seen_at l.s) (take l.k l.places))
