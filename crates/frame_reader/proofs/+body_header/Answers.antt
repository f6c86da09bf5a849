-- `frame_reader::header` and `frame_reader::body` leave the places that `places_at` and `body_at` find, or a fault.
use Rattle.std.proofs.Common.{◌≡◌, ◌+◌, ◌-◌, ◌≤◌, ◌<◌, true, false, sym, ◌∙◌, arith, rules}
use Rattle.pdu.specs.Read.{pdu_end, rightly}
use Rattle.pdu.proofs.Laws.{rightly-fits, body_wrong, body-last, body_more, places-short, places_step}
use Rattle.frame_reader.proofs.Laws.{walk_bad, walk_last, walk_behind, walk_more}
use Rattle.frame_reader.proofs.+body_header.Goals.{body-then-next-end, body-else-next-end+in_ok-count}
use Rattle.frame_reader.proofs.+body_header.Goals as goal

pub body-returns-then-not-ends_rightly : goal.body-returns-then-not-ends_rightly
body-returns-then-not-ends_rightly t c = λ f h.
    let a = c.args in
    let r : rightly a.from a.end a.flags ≡ false = cc in
    rw (body_wrong _ a.from a.end a.flags r) (walk_bad a.k a.out.now)

pub body-header-requires : goal.body-header-requires
body-header-requires t c =
    let a = c.args in
    let r : rightly a.from a.end a.flags ≡ true = cc in
    let le : pdu_end a.from a.flags ≤ a.end = rightly-fits a.from a.end a.flags r in
    search rules

pub body-returns-in_err-count : goal.body-returns-in_err-count
body-returns-in_err-count t c = λ f h.
    let a = c.args in
    let x = c.header in
    let r : rightly a.from a.end a.flags ≡ true = cc in
    let ne : pdu_end a.from a.flags ≡ a.end → ⊥ = rw c.from.ensures at c.if-next-end.false in
    let less : a.end - (a.from + (12 + c.from.result)) ≤ f = omega arith in
    let y = rw c.from.ensures at (x.ensures f less) in
    let e = walk_behind _ a.k a.from x.result a.out.now x.new.out c.in_err-count.was y.0 y.1 in
    rw (body_more _ a.from a.end a.flags r ne) (c.from_residual.ensures ∙ sym c.in_err-count.was ∙ e.0, e.1)

pub body-returns : goal.body-returns
body-returns t c = λ f h.
    let a = c.args in
    let r : rightly a.from a.end a.flags ≡ true = cc in
    elim c.if-next-end.branch [
      | body-then-next-end w ↦
          let last : pdu_end a.from a.flags ≡ a.end = rw c.from.ensures at w.if-next-end.true in
          rw (body-last _ a.from a.end a.flags r last, w.out-is, w.count-is) (walk_last a.k a.out.now a.from)
      | body-else-next-end+in_ok-count w ↦
          let x = w.header in
          let ne : pdu_end a.from a.flags ≡ a.end → ⊥ = rw c.from.ensures at w.if-next-end.false in
          let less : a.end - (a.from + (12 + c.from.result)) ≤ f = omega arith in
          let y = rw c.from.ensures at (x.ensures f less) in
          let e = walk_more _ a.k a.from _ x.result a.out.now x.new.out w.in_ok-count.was y.0 y.1 in
          rw (body_more _ a.from a.end a.flags r ne, w.out-is, w.count-is) (sym w.in_ok-count.was ∙ e.0, e.1)
    ]

pub header-returns-then-end-at-lt-PDU_OVERHEAD_BYTES : goal.header-returns-then-end-at-lt-PDU_OVERHEAD_BYTES
header-returns-then-end-at-lt-PDU_OVERHEAD_BYTES t c = λ f h.
    let a = c.args in
    let lt : a.end < a.at + 12 = omega arith in
    rw (places-short f a.s.now a.at a.end lt) (walk_bad a.k a.out.now)

pub header-returns : goal.header-returns
header-returns t c = λ f h.
    let a = c.args in
    let x = c.body in
    let le : a.at + 12 ≤ a.end = omega arith in
    let d = places_step f a.s.now a.at a.end le h in
    rw (d.2, ← c.word_at-flags.ensures) (x.ensures d.0 d.1)
