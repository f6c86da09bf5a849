-- `here` fits what the byte read says.
use mathlib.Core.Path.{◌∙◌}
use Rattle.strings.specs.Strings.{fitted, string_here}
use Rattle.refusal.proofs.On.{on3-gives}
use Rattle.eeprom.proofs.Laws.{byte-fine}
use Rattle.strings.proofs.here.Goals as goal

pub returns : goal.returns
unfolding string_here
returns c =
    let i = c.args.image.now in
    c.fit.ensures i (byte-fine i _ _ _ _ _ c.in_ok-n.ensures) ∙ rw c.from.ensures (on3-gives _ (fitted i c.args.room) _ _ _ c.in_ok-n.ensures)
