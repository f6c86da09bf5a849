-- The read-outs of the fixed area give the fields of the table, and an alias that was set is read back: from the calls' contracts.
use Prim.Native.Nat.{ℕ, ◌≤◌, ◌<◌}
use native.Mathlib.Omega.{arith}
use mathlib.Core.Path.{◌≡◌, sym, ◌∙◌}
use mathlib.Core.List.{List}
use lib.ListN.{length}
use borrow.Author.Tests.{lt-ltb, le-ltb}
use Rattle.std.specs.Prelude.{Result, ⊤}
use Rattle.refusal.specs.declared.Refusal.{Refusal}
use Rattle.eeprom.specs.Image.{image_most}
use Rattle.sii.specs.Fixed.{alias_said, identity_of, identity_said, mailbox_of, mailbox_said, size_said, set_said, set_image}
use Rattle.sii.specs.Answers.{said_alias, said_set, said_size, said_identity, said_mailbox}
use Rattle.sii.specs.ReadsOut.{ReadsOut, SetsAlias}
use Rattle.sii.specs.declared.SubDeviceIdentity.{SubDeviceIdentity}
use Rattle.sii.specs.declared.DefaultMailbox.{DefaultMailbox}
use Rattle.eeprom.proofs.Laws.{within-is}
use Rattle.sii.proofs.Lent.{lent-within, past-within}
use Rattle.sii.proofs.Laws.{set_yes, set-short, set_long}
use Rattle.sii.proofs.Alias.{alias-kept}

pub reads_out : (image : List ℕ) → length image ≤ image_most →
    (a : Result ℕ Refusal) → said_alias a ≡ alias_said image → (i : Result SubDeviceIdentity Refusal) → said_identity i ≡ identity_said image →
    (m : Result DefaultMailbox Refusal) → said_mailbox m ≡ mailbox_said image → (s : Result ℕ Refusal) → said_size s ≡ size_said image → ReadsOut image a i m s
unfolding alias_said identity_said identity_of mailbox_said mailbox_of size_said
reads_out image h a ca i ci m cm s cs =
    let w = within-is image h in
    record {
      alias = ca ∙ lent-within image w _;
      identity = ci ∙ lent-within image w _;
      mailbox = λ k. cm ∙ lent-within image w _ ∙ rw (lt-ltb _ _ k);
      undefined = λ k. cm ∙ lent-within image w _ ∙ rw (le-ltb _ _ k);
      size = cs ∙ lent-within image w _;
    }

pub sets_alias : (image after : List ℕ) (alias : ℕ) → alias < 65536 → (set : Result ⊤ Refusal) → said_set set ≡ set_said image → after ≡ set_image image alias →
    (read : Result ℕ Refusal) → said_alias read ≡ alias_said after → SetsAlias image after alias set read
sets_alias image after alias f set cs ca read cr = record {
  done = λ a b. cs ∙ sym (set_yes image alias (within-is image b) a).0;
  back = λ e. cr ∙ (rw ca (alias-kept image alias f (sym cs ∙ e)).back);
  short = λ k.
      let x = set-short image alias (within-is image (omega arith)) k in
      (cs ∙ sym x.0, ca ∙ sym x.1);
  long = λ k.
      let x = set_long image alias (past-within image k) in
      (cs ∙ sym x.0, ca ∙ sym x.1);
}
