-- `put_checksum` lays the sum of the bytes before it and a zero.
use mathlib.Core.Path.{◌∙◌}
use Prim.Native.Nat.{◌≤◌}
use native.Mathlib.Omega.{arith}
use lib.ListN.{length}
use Rattle.wire.proofs.Laws.{laid-whole}
use Rattle.sii.specs.Layout.{start, checksum}
use Rattle.sii.specs.Fixed.{checksum_end, with_checksum}
use Rattle.sii.proofs.put_checksum.Goals as goal

pub returns : goal.returns
unfolding with_checksum
returns c =
    let image = c.args.image.now in
    let h : checksum_end ≤ length image = omega arith in
    c.lay.ensures ∙ rw c.crc.ensures (laid-whole image (start checksum) _ h)
