-- The words of a line, one space between two (docs/DESK.md). Definitions only.
use Rattle.std.specs.Prelude.{ℕ, suc, ◌+◌, List, [], ◌∷◌, take, drop, eqb}
use Rattle.refusal.specs.Said.{pick}

abbrev pub space : ℕ
space = 32

-- how many bytes stand before the first space; all, if there is none
unfoldable pub word_length : List ℕ → ℕ
word_length [] = 0
word_length (b ∷ s) = pick (eqb b space) 0 (suc (word_length s))

-- the end of the word that starts at from: the first space at or after it, or the line's end; from itself, past that
unfoldable pub word_end : List ℕ → ℕ → ℕ
word_end line from = from + word_length (drop from line)

-- the word that starts at from
unfoldable pub word_at : List ℕ → ℕ → List ℕ
word_at line from = take (word_length (drop from line)) (drop from line)
