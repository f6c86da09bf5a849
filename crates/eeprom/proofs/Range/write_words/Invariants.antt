-- `Range::write_words` comes to the closed form word by word: the loop has laid the first n bytes of the padded data, and n is no more than m words have.
use Prim.Native.Nat.{◌≤◌, ◌-◌, ◌+◌, ◌*◌, ◌%◌}
use mathlib.Core.Path.{◌≡◌}
use lib.ListN.{length}
use Rattle.eeprom.specs.Image.{long_most}
use Rattle.eeprom.specs.Range.{words_written}
use Rattle.eeprom.proofs.Words.{bytes_laid}
use Rattle.eeprom.proofs.Range.write_words.Given as goal

abbrev pub invariant-loop-at : goal.invariant-loop-at
invariant-loop-at l = (l.image ≡ bytes_laid l.initial.image l.self.byte_pos l.n l.bytes) × (l.n ≤ 2 * words_written (length l.initial.image) l.self.byte_pos l.self.end (length l.bytes)) × (l.n % 2 ≡ 0) × (length l.image ≡ length l.initial.image) × (l.at ≡ l.self.byte_pos + l.n) × (l.at ≤ long_most)

abbrev pub decreases-loop-at : goal.decreases-loop-at
decreases-loop-at l = l.self.end - l.at
