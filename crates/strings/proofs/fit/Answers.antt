-- `fit` compares with the room, then makes the exact read's own test.
use native.Mathlib.Omega.{arith}
use Rattle.strings.proofs.Laws.{fitted-long, fitted-at, fitted-cut}
use Rattle.strings.proofs.fit.Goals as goal

pub returns-then-room-n : goal.returns-then-room-n
returns-then-room-n c image f = fitted-long image _ _ _ _ c.if-room-n.true

pub returns-then-from-saturating_sub : goal.returns-then-from-saturating_sub
returns-then-from-saturating_sub c image f = fitted-at image _ _ _ _ f c.if-room-n.false (omega (arith, c.if-from-saturating_sub.true, c.saturating_sub.ensures, c.from.ensures))

pub returns-else-from-saturating_sub : goal.returns-else-from-saturating_sub
returns-else-from-saturating_sub c image f = fitted-cut image _ _ _ _ f c.if-room-n.false (omega (arith, c.if-from-saturating_sub.false, c.saturating_sub.ensures, c.from.ensures))
