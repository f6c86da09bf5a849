-- `spread::carry` fills one area after the other: what is done and what is left are the whole run (Going.antt).
use mathlib.Core.Path.{refl}
use Prim.Native.Nat.{◌*◌, ◌+◌, ◌-◌, ◌≤◌, ◌<◌}
use native.Mathlib.Omega.{arith}
use borrow.Author.Rules.{rules}
use borrow.Rule.Slice.PartMut.{put_mid}
use lib.ListN.{length, take, set}
use Rattle.spread.specs.Row.{row_from}
use Rattle.spread.proofs.Going.{Before, k_less, area_there, step, before_first, going_end}
use Rattle.spread.proofs.carry.Goals as goal
use Rattle.spread.proofs.carry.Goals.{In-loop-sent, After-taken_of-sent}

-- another area is there, and lies in the row
less : (c : In-loop-sent) → c.loop-sent.k < c.args.count
less c = k_less _ _ _ _ _ _ _ _ _ _ _ _ _ _ c.loop-sent.invariant c.loop-sent-test.true

inside : (c : In-loop-sent) → c.loop-sent.k * c.args.size + c.args.size ≤ length c.loop-sent.areas
inside c = area_there _ _ _ _ _ _ _ _ _ _ _ _ c.loop-sent.invariant c.loop-sent-test.true

-- a push is made into it
stepped : (c : After-taken_of-sent) →
    let a = c.args in
    let l = c.loop-sent in
    let p = c.push_pdu_slice_rest-p in
    Before a.count a.size a.command a.address a.image.now
    (row_from a.size a.command a.address a.count (take a.size a.areas.now) a.first a.index 0 a.areas.now a.image.now)
    a.first (put_mid (l.k * a.size) (l.k * a.size + a.size - l.k * a.size) l.areas p.new.area) (set l.states l.k p.result.builder) (l.k + 1) (l.sent + c.taken_of-sent.result) p.result.next
stepped c =
    let p = c.push_pdu_slice_rest-p in
    step _ _ _ _ _ _ _ _ _ _ _ _ c.loop-sent.invariant c.loop-sent-test.true c.begun-b.result c.begun-b.new.area p.new.area _ p.result c.taken_of-sent.result _
    c.requires.first_sound c.begun-b.ensures.state c.begun-b.ensures.whole p.ensures.answer p.ensures.state p.ensures.whole refl c.taken_of-sent.ensures refl

pub loop-sent-init : goal.loop-sent-init
loop-sent-init c = before_first _ _ _ _ _ _ _ _ _ c.requires c.no_states-states.ensures

pub slice_bounds-area-end : goal.slice_bounds-area-end
slice_bounds-area-end c = let h = inside (goal.at.slice_bounds-area-end c).In-loop-sent in search rules

pub bounds-states-k : goal.bounds-states-k
bounds-states-k c = omega (arith, less (goal.at.bounds-states-k c).In-loop-sent, c.loop-sent.invariant.areas_at_most)

pub overflow_add-sent : goal.overflow_add-sent
overflow_add-sent c =
    let g = stepped c in
    omega (arith, g.sent_most, g.given_most)

pub loop-sent-smaller : goal.loop-sent-smaller
loop-sent-smaller c = omega (arith, less (goal.at.loop-sent-smaller c).In-loop-sent)

pub loop-sent-preserved : goal.loop-sent-preserved
loop-sent-preserved c = stepped c

pub returns : goal.returns
returns c =
    let h = going_end _ _ _ _ _ _ _ _ _ _ _ _ _ _ c.loop-sent.invariant c.loop-sent-test.false in
    record { answer = h.0; state = h.1.0; whole = h.1.1 }
