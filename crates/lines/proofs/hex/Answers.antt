-- `lines::hex` tests the word, then the room, and only then writes: a law for each way out.
use mathlib.Core.Path.{sym, ◌∙◌}
use borrow.Author.Rules.{rules}
use Rattle.lines.proofs.Laws.{length-bytes, hex_taken, hex_over, hex_not}
use Rattle.lines.proofs.hex.Goals as goal

pub put_bytes-requires : goal.put_bytes-requires
put_bytes-requires c =
    let a = c.args in
    (sym c.is_bytes.ensures ∙ c.if-is_bytes.true, sym (length-bytes a.word.now), search rules)

pub returns-then-n-room : goal.returns-then-n-room
returns-then-n-room c =
    let a = c.args in record {
      result_value = (hex_taken
          a.word.now
          a.room.now
          _
          (sym c.is_bytes.ensures ∙ c.if-is_bytes.true)
          c.if-n-room.true
          c.put_bytes.ensures).0;
      room_after = (hex_taken
          a.word.now
          a.room.now
          _
          (sym c.is_bytes.ensures ∙ c.if-is_bytes.true)
          c.if-n-room.true
          c.put_bytes.ensures).1;
    }

pub returns-else-n-room : goal.returns-else-n-room
returns-else-n-room c = let a = c.args in record { result_value = (hex_over a.word.now a.room.now (sym c.is_bytes.ensures ∙ c.if-is_bytes.true) c.if-n-room.false).0; room_after = (hex_over a.word.now a.room.now (sym c.is_bytes.ensures ∙ c.if-is_bytes.true) c.if-n-room.false).1 }

pub returns-else-is_bytes : goal.returns-else-is_bytes
returns-else-is_bytes c = let a = c.args in record { result_value = (hex_not a.word.now a.room.now (sym c.is_bytes.ensures ∙ c.if-is_bytes.false)).0; room_after = (hex_not a.word.now a.room.now (sym c.is_bytes.ensures ∙ c.if-is_bytes.false)).1 }
