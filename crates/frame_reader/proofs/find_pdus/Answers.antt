-- `frame_reader::find_pdus` finds the places of `frame_of`: those of the walk, where the frame has a PDU.
use Rattle.std.proofs.Common.{◌≡◌, ◌≤◌, ◌∙◌, sym, length, arith}
use Rattle.pdu.proofs.Laws.{frame-walked}
use Rattle.frame_reader.proofs.find_pdus.Goals as goal

pub returns : goal.returns
returns c =
    let s = c.args.s.now in
    let some : c.in_ok-end.end ≡ 2 → ⊥ = λ e. omega (arith, e) in
    let w = frame-walked s c.in_ok-end.end (sym c.pdus_end.ensures ∙ c.in_ok-end.was) some in
    let within : c.in_ok-end.end ≤ length s = w.0 in
    rw w.1 (c.header.ensures (length s) (omega arith))
