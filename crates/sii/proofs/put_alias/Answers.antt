-- `put_alias` lays the two bytes of the alias, for which there is room.
use mathlib.Core.Path.{◌∙◌}
use Prim.Native.Nat.{◌≤◌}
use native.Mathlib.Omega.{arith}
use lib.ListN.{length}
use Rattle.wire.proofs.Laws.{laid-whole}
use Rattle.sii.specs.Layout.{start, past, configured_station_alias}
use Rattle.sii.specs.Fixed.{with_alias}
use Rattle.sii.proofs.put_alias.Goals as goal

pub returns : goal.returns
unfolding with_alias
returns c =
    let image = c.args.image.now in
    let h : past configured_station_alias ≤ length image = omega arith in
    c.lay.ensures ∙ rw c.to_le_bytes.ensures (laid-whole image (start configured_station_alias) _ h)
