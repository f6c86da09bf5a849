-- `received::receive` makes the tests of `received_of`, with the handles taken four numbers at a time.
use Rattle.std.proofs.Common.{sym, ◌∙◌, ◌≡◌, ◌∙◌, refl, ◌%◌, length, arith}
use Rattle.std.specs.Prelude.{Some, None}
use Rattle.std.proofs.lemmas.Result.{err_from_is_err_and}
use Rattle.std.proofs.lemmas.Bool.Decides.{nat_tests}
use Rattle.refusal.specs.declared.Refusal.TheVariants.{WrongFrame}
use Rattle.pdu.proofs.Laws.{end_none, end_some}
use Rattle.received.specs.Answers.{told}
use Rattle.received.proofs.Laws.{receive_bad, receive_headless, receive_matched, chunks_handles}
use Rattle.received.proofs.receive.Goals as goal

pub returns-then-not-is_empty : goal.returns-then-not-is_empty
unfolding told
returns-then-not-is_empty c =
    let over : length c.as_chunks.result.1.now ≡ 0 → ⊥ = grind (arith, nat_tests) in
    receive_bad c.args.handles.now c.args.frame.now _ (λ e. over (c.as_chunks.ensures.back_len ∙ e)) refl

pub returns-in_err-end : goal.returns-in_err-end
unfolding told
returns-in_err-end c =
    let s = c.args.frame.now in
    let p = err_from_is_err_and c.from_residual.result c.from_residual.ensures.1 in
    let none : c.pdus_end.result ≡ None = grind arith in
    let wrong : c.in_err-end.field-0.0 ≡ WrongFrame 0 = grind arith in
    let four : length c.args.handles.now % 4 ≡ 0 = grind (arith, nat_tests) in
    rw (p.1, p.2, wrong) (receive_headless c.args.handles.now s _ four (end_none s (sym c.pdus_end.ensures ∙ none)) refl)

pub returns : goal.returns
returns c =
    let s = c.args.frame.now in
    let some : c.pdus_end.result ≡ Some c.in_ok-end.end = grind arith in
    let h = end_some s c.in_ok-end.end (sym c.pdus_end.ensures ∙ some) in
    let four : length c.args.handles.now % 4 ≡ 0 = grind (arith, nat_tests) in
    receive_matched c.args.handles.now s _ c.in_ok-end.end four h.0 h.1 (rw (← chunks_handles c.args.handles.now, ← c.as_chunks.ensures.front) c.match_all.ensures)
