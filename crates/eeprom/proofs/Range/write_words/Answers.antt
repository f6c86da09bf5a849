-- `Range::write_words` comes to the closed form word by word: the loop has laid the first n bytes of the padded data, and n is no more than m words have.
use borrow.Author.Rules.{rules}
use Prim.Native.Nat.{ℕ, ◌≤◌, ◌+◌, ◌*◌}
use mathlib.Core.Path.{◌≡◌, refl, sym, ap, ◌∙◌}
use mathlib.Core.List.{List}
use lib.ListN.{length}
use Rattle.refusal.specs.Said.{Said}
use Rattle.eeprom.specs.Answers.{said_writing}
use Rattle.std.specs.Prelude.{Result}
use Rattle.refusal.specs.declared.Refusal.{Refusal}
use Rattle.eeprom.specs.declared.Range.{Range}
use Rattle.eeprom.specs.declared.Standing.{Standing}
use Rattle.eeprom.specs.Range.{standing, words_laid, words_asked}
use Rattle.eeprom.proofs.Words.{bytes_laid, none-laid, word-laid, written-more, written_all, written_limit, written_stop, asked_end, asked_data}
use Rattle.eeprom.proofs.Range.write_words.Goals as goal
use Rattle.eeprom.proofs.Range.write_words.Goals.{then-loop-at-test+else-n-bytes, else-loop-at-test}

-- a way out: what a write says there, where it stands, and what is laid, where n bytes are m words
leaves : (image₀ image bytes : List ℕ) (g : Range) (at n m : ℕ) (answer : Result ℕ Refusal) (w : Standing ℕ) (s : Said) → w ≡ record { answer = answer; range = standing g at }
    → image ≡ bytes_laid image₀ g.byte_pos n bytes → at ≡ g.byte_pos + n → (n ≡ 2 * m) × (s ≡ said_writing answer)
    → (said_writing w.answer ≡ s) × ((w.range ≡ standing g (g.byte_pos + 2 * m)) × (image ≡ words_laid image₀ g.byte_pos m bytes))
unfolding words_laid
leaves image₀ image bytes g at n m answer w s d i p e =
    (ap (λ (x : Standing ℕ). said_writing x.answer) d ∙ sym e.1, (ap (λ (x : Standing ℕ). x.range) d ∙ ap (standing g) (p ∙ ap (λ (k : ℕ). g.byte_pos + k) e.0), i ∙ ap (λ (k : ℕ). bytes_laid image₀ g.byte_pos k bytes) e.0))

pub loop-at-init : goal.loop-at-init
loop-at-init c =
    let a = c.args in
    (none-laid a.image.now a.self.byte_pos a.bytes.now, search rules, refl, search rules, search rules, search rules)

pub returns-then-at-gt-POS_MOST : goal.returns-then-at-gt-POS_MOST
returns-then-at-gt-POS_MOST c =
    let d = c.stands_at.ensures in
    let l = c.loop-at in
    let a = c.args in
    let e = written_limit (length a.image.now) a.self.byte_pos a.self.end (length a.bytes.now) l.n l.invariant.2 l.invariant.1 (search rules) (search rules) (search rules) in record { said = (leaves _ _ _ _ _ _ _ _ _ _ d l.invariant.0 l.invariant.4 e).0; stands = (leaves _ _ _ _ _ _ _ _ _ _ d l.invariant.0 l.invariant.4 e).1.0; lent = (leaves _ _ _ _ _ _ _ _ _ _ d l.invariant.0 l.invariant.4 e).1.1 }

pub loop-at-preserved : goal.loop-at-preserved
loop-at-preserved c =
    let l = c.loop-at in
    let a = c.args in
    let at : l.at ≡ a.self.byte_pos + l.n = l.invariant.4 in
    let more = written-more (length a.image.now) a.self.byte_pos a.self.end (length a.bytes.now) l.n l.invariant.2 (search rules) (search rules) (search rules) (search rules) in
    (rw (c.write_word.ensures, c.or_pad.ensures, l.invariant.0, at) (word-laid a.image.now a.self.byte_pos a.self.end a.bytes.now l.n l.invariant.2 more), more, search rules, search rules, search rules, search rules)

pub returns-then-start_word-image : goal.returns-then-start_word-image
returns-then-start_word-image c =
    let d = c.stands_at-then-start_word-image.ensures in
    let l = c.loop-at in
    let a = c.args in
    let e = written_stop (length a.image.now) a.self.byte_pos a.self.end (length a.bytes.now) l.n l.invariant.2 l.invariant.1 (search rules) (search rules) (search rules) (search rules) in record { said = (leaves _ _ _ _ _ _ _ _ _ _ d l.invariant.0 l.invariant.4 e).0; stands = (leaves _ _ _ _ _ _ _ _ _ _ d l.invariant.0 l.invariant.4 e).1.0; lent = (leaves _ _ _ _ _ _ _ _ _ _ d l.invariant.0 l.invariant.4 e).1.1 }

pub returns : goal.returns
returns c =
    let d = c.stands_at-2.ensures in
    let l = c.loop-at in
    let a = c.args in
    let k : 2 * words_asked a.self.byte_pos a.self.end (length a.bytes.now) ≤ l.n =
    elim c.loop-at-test.branch [
      | then-loop-at-test+else-n-bytes w ↦ asked_data a.self.byte_pos a.self.end (length a.bytes.now) l.n l.invariant.2 (search rules)
      | else-loop-at-test w ↦ asked_end a.self.byte_pos a.self.end (length a.bytes.now) l.n l.invariant.2 (search rules)
    ] in
    let e = written_all (length a.image.now) a.self.byte_pos a.self.end (length a.bytes.now) l.n l.invariant.1 k in record { said = (leaves _ _ _ _ _ _ _ _ _ _ d l.invariant.0 l.invariant.4 e).0; stands = (leaves _ _ _ _ _ _ _ _ _ _ d l.invariant.0 l.invariant.4 e).1.0; lent = (leaves _ _ _ _ _ _ _ _ _ _ d l.invariant.0 l.invariant.4 e).1.1 }
