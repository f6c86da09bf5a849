-- `find_string` lays the text where the place found has room.
use mathlib.Core.Path.{◌≡◌}
use lib.ListN.{length}
use Rattle.std.specs.Prelude.{Ok, Some}
use Rattle.strings.specs.Strings.{sought_at}
use Rattle.strings.specs.Answers.{said_place}
use Rattle.strings.proofs.Laws.{small_sought}
use Rattle.strings.proofs.find_string.Goals as goal

pub lay_text-k-requires : goal.lay_text-k-requires
lay_text-k-requires c =
    let p : said_place (Ok (Some (c.in-Some.at, c.in-Some.n))) ≡ sought_at c.args.image.now c.args.index (length c.args.room.now) = rw c.in-Some.is at c.in_ok-at.ensures in
    let s = rw (← p) at (small_sought c.args.image.now c.args.index (length c.args.room.now)) in
    rw c.from.ensures (s.1, s.0, c.in_ok-checked.ensures.1)
