-- `crc::by_table` goes on byte by byte: what the rest gives from where the loop stands is what the whole gives from the start.
use mathlib.Core.Path.{sym, ◌∙◌}
use Prim.Native.Nat.{ℕ, ◌<◌, ◌≤◌}
use native.Mathlib.Omega.{arith}
use lib.ListN.{length, get_or}
use Rattle.wire.proofs.Laws.{bytes-known}
use Rattle.crc.proofs.Division.{crc_steps}
use Rattle.crc.proofs.Laws.{stepped-next, stepped_end}
use Rattle.crc.proofs.by_table.Goals as goal

pub loop-b-preserved : goal.loop-b-preserved
loop-b-preserved c =
    let l = c.loop-b in
    rw (c.shift8-c.ensures, ← stepped-next l.c c.args.s.now l.b-index c.loop-b-test.true) l.invariant

pub returns : goal.returns
returns c =
    let l = c.loop-b in
    let s = c.args.s.now in
    let h : length s ≤ l.b-index = omega arith in
    sym (stepped_end l.c s l.b-index h) ∙ l.invariant ∙ sym (crc_steps s (bytes-known s (λ (i : ℕ). (let z : get_or s i 0 < 256 = omega (arith, c.type_inv.s i) in z))))
