-- `crc::by_table` goes on byte by byte: what the rest gives from where the loop stands is what the whole gives from the start.
use mathlib.Core.Path.{◌≡◌}
use lib.ListN.{drop}
use Rattle.crc.specs.Crc.{start}
use Rattle.crc.specs.Steps.{stepped}
use Rattle.crc.proofs.by_table.Given as goal

abbrev pub invariant-loop-b : goal.invariant-loop-b
invariant-loop-b l = stepped l.c (drop l.b-index l.s) ≡ stepped start l.s
