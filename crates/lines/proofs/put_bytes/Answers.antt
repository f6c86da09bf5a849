-- `lines::put_bytes` lays the bytes: after j turns the room is what it was with the first j bytes of the word's over its front.
use mathlib.Core.Path.{◌≡◌, ◌∙◌}
use Prim.Native.Nat.{◌+◌, ◌*◌}
use native.Mathlib.Nat.{zero-add}
use native.Mathlib.Numerals.{add-one}
use native.Mathlib.Omega.{arith}
use lib.ListN.{length, get_or}
use lib.Seq.{paste-zero, paste-suc, take-length}
use Rattle.wire.specs.Bytes.{overlay}
use Rattle.wire.proofs.Laws.{laid-whole}
use Rattle.lines.specs.Pairs.{bytes_of}
use Rattle.lines.proofs.Laws.{length-bytes, nibble_in, byte_of}
use Rattle.lines.proofs.put_bytes.Goals as goal

pub loop-j-init : goal.loop-j-init
loop-j-init c = paste-zero c.args.room.now 0 (bytes_of c.args.word.now)

pub bounds-word-j : goal.bounds-word-j
bounds-word-j c = omega (arith, length-bytes c.args.word.now)

pub nibble_value-requires : goal.nibble_value-requires
nibble_value-requires c =
    let w = c.args.word.now in
    nibble_in w (2 * c.loop-j.j) c.requires.0 (omega (arith, length-bytes w))

pub overflow_mul-room : goal.overflow_mul-room
overflow_mul-room c =
    let w = c.args.word.now in
    omega (arith, c.nibble_value.ensures, nibble_in w (2 * c.loop-j.j) c.requires.0 (omega (arith, length-bytes w)))

pub bounds-word-j-in-loop-j : goal.bounds-word-j-in-loop-j
bounds-word-j-in-loop-j c = omega (arith, length-bytes c.args.word.now)

pub nibble_value-requires-in-loop-j : goal.nibble_value-requires-in-loop-j
nibble_value-requires-in-loop-j c =
    let w = c.args.word.now in
    nibble_in w (2 * c.loop-j.j + 1) c.requires.0 (omega (arith, length-bytes w))

pub overflow_add-room : goal.overflow_add-room
overflow_add-room c =
    let w = c.args.word.now in
    let n = length-bytes w in
    omega (
      arith,
      c.nibble_value.ensures,
      nibble_in w (2 * c.loop-j.j) c.requires.0 (omega (arith, n)),
      c.nibble_value-in-loop-j.ensures,
      nibble_in w (2 * c.loop-j.j + 1) c.requires.0 (omega (arith, n)),
    )

pub loop-j-preserved : goal.loop-j-preserved
loop-j-preserved c =
    let a = c.args in
    let l = c.loop-j in
    let b = bytes_of a.word.now in
    let v : 16 * c.nibble_value.result + c.nibble_value-in-loop-j.result ≡ get_or b l.j 0 =
    rw (c.nibble_value.ensures, c.nibble_value-in-loop-j.ensures) (byte_of a.word.now l.j (omega arith)) in
    rw (v, l.invariant, add-one, ← paste-suc a.room.now 0 b l.j 0 (omega arith) (omega arith), zero-add)

pub returns : goal.returns
unfolding overlay
returns c =
    let a = c.args in
    let e : c.loop-j.j ≡ length (bytes_of a.word.now) = omega arith in
    c.loop-j.invariant ∙ rw (e, take-length (bytes_of a.word.now), laid-whole a.room.now 0 (bytes_of a.word.now) (omega arith))
