-- The text is laid word by word: each word goes just behind those before it.
use Rattle.std.proofs.Common.{◌≡◌, ℕ, zero, suc, ◌+◌, ◌-◌, ◌*◌, ◌<◌, ◌≤◌, Bool, true, false, List, ◌++◌, length, refl, ◌∙◌, add-zero, add-suc, add-one, arith, length-append}
use Rattle.refusal.specs.Said.{pick}
use Rattle.wire.specs.Bytes.{laid, overlay}
use Rattle.wire.proofs.Laws.{laid-whole, overlay-next}
use Rattle.wire.proofs.Stretch.{Front, front-next}
use Rattle.ports.specs.declared.Ports.{Ports}
use Rattle.ports.specs.declared.Port.{Port}
use Rattle.ports.specs.Ports.{port_count, nowhere, port_at, active_at, active_ports}
use Rattle.ports.specs.Display.{opening, closing, word_of, word_most, words, text_of, text_most}
use Rattle.ports.proofs.Laws.{at_each, count_steps}

-- an active port's word is two bytes shorter
word-length : (b : Bool) → length (word_of b) + 2 * pick b 1 0 ≡ word_most
unfolding word_of
word-length true = refl
word-length false = refl

module _ (p : Ports) where
  grows : (k n : ℕ) → length (words p k) ≤ length (words p (k + n))
  unfolding words
  grows k zero = rw add-zero (omega arith)
  grows k (suc n) = rw (add-suc, length-append) (omega (arith, grows k n))

  grows-to : (k : ℕ) → k < nowhere → length (words p k ++ word_of (active_at p k)) ≤ length (words p port_count)
  unfolding words
  grows-to = at_each (λ (k : ℕ). length (words p k ++ word_of (active_at p k)) ≤ length (words p port_count)) (grows 1 3) (grows 2 2) (grows 3 1) (grows 4 0)

  pub length_text : text_most - 2 * length (active_ports p) ≡ length (text_of p)
  unfolding text_of words
  length_text =
      simp length-append (omega (
        arith,
        word-length (active_at p 0),
        word-length (active_at p 1),
        word-length (active_at p 2),
        word-length (active_at p 3),
        count_steps p,
      ))

  pub words-next : (k : ℕ) → words p (k + 1) ≡ words p k ++ word_of (active_at p k)
  unfolding words
  words-next k = rw add-one

  pub word_next : {xs now : List ℕ} {at k r : ℕ} {now' : List ℕ} {q : Port} → Front xs (length opening) (words p k) now at → k < nowhere → length opening + length (words p port_count) ≤ length xs
      → q ≡ port_at p k → now' ≡ laid now at (word_of q.active) → r ≡ at + length (word_of q.active) → Front xs (length opening) (words p (k + 1)) now' r
  word_next {k = k} {now' = now'} f h room e n m =
      rw (words-next k, m, e) (front-next (word_of (active_at p k)) now' f (omega (arith, grows-to k h)) (rw e at n))

  pub text_room : length opening + length (words p port_count) + 1 ≡ length (text_of p)
  unfolding text_of
  text_room = rw (length-append, length-append)

  pub text_laid : (xs now₁ now₂ now₃ : List ℕ) (at : ℕ) → length (text_of p) ≤ length xs → now₁ ≡ laid xs 0 opening → now₂ ≡ overlay now₁ (length opening) (words p port_count)
      → at ≡ length opening + length (words p port_count) → now₃ ≡ laid now₂ at closing → now₃ ≡ overlay xs 0 (text_of p)
  unfolding text_of
  text_laid xs now₁ now₂ now₃ at h e₁ e₂ q e₃ =
      let room : length opening + length (words p port_count) + 1 ≤ length xs = rw (length-append, length-append) at h in
      let one : 0 + length opening ≤ length xs = omega arith in
      let first : now₁ ≡ overlay xs 0 opening = e₁ ∙ laid-whole xs 0 opening one in
      let second : Front xs 0 (opening ++ words p port_count) now₂ at =
      record { so_far = e₂ ∙ rw first (overlay-next xs 0 opening (words p port_count) one); next = rw length-append (omega arith) } in
      (front-next closing now₃ second (omega arith) e₃).so_far
