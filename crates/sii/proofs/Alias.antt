-- After the alias is set it is read back, and every other read-out is as before: only bytes up to the checksum change,
-- and no other read-out looks there.
use Prim.Native.Nat.{ℕ, ◌+◌, ◌≤◌, ◌<◌}
use native.Mathlib.Omega.{arith}
use mathlib.Core.Path.{◌≡◌, refl, sym, ap, ◌∙◌}
use mathlib.Core.List.{List, []}
use mathlib.Core.Bool.{Bool, true, false}
use lib.ListN.{length, take, get_or}
use lib.Dec.{leb}
use borrow.Author.Tests.{leb-true}
use Rattle.refusal.specs.Said.{Said, gives, absent, refuses, pick, on2}
use Rattle.wire.specs.Bytes.{byte_at, le16, bytes16}
use Rattle.wire.proofs.Laws.{length-overlay, bytes16-back}
use Rattle.crc.specs.Crc.{crc_of}
use Rattle.eeprom.specs.Image.{within}
use Rattle.category.specs.Numbers as numbers
use Rattle.category.specs.Category.{category_said}
use Rattle.sii.specs.Layout.{Field, fixed, start, past, configured_station_alias, checksum, vendor_id_field, product_code, revision_number, serial_number, receive_mailbox_offset, receive_mailbox_size, send_mailbox_offset, send_mailbox_size, mailbox_protocol, memory_size, physical_port, physical_memory_address}
use Rattle.sii.specs.Fixed.{lent, alias_said, identity_of, identity_values, identity_said, mailbox_of, mailbox_said, size_said, checksum_end, with_alias, with_checksum, aliased, set_said, set_image}
use Rattle.sii.specs.General.{general_of, general_admits, general_in, general_found, needed, general_said, word_in, general_word, kinds_of, ports_said, address_said}
use Rattle.sii.specs.Alias.{SameFrom, AliasKept}
use Rattle.sii.specs.declared.SubDeviceIdentity.{SubDeviceIdentity}
use Rattle.wire.proofs.Overlay.{overlay-before, overlay-past, overlay-inside, overlay-front}
use Rattle.category.proofs.Same.{categories, Behind, category-same, category-behind, on_category-same}
use Rattle.sii.proofs.Lent.{lent_same}
use Rattle.sii.proofs.Same.{same_weaker, field-same, within_same}

-- ---- read-outs that look only behind the checksum

module _ (s t : List ℕ) (e : SameFrom checksum_end s t) where
  fixed_same : (f : Field) → checksum_end ≤ start f → fixed s f ≡ fixed t f
  fixed_same f h = field-same checksum_end s t e 0 f (omega arith)

  identity-of-same : identity_of s ≡ identity_of t
  unfolding identity_of
  identity-of-same =
      rw (
        fixed_same vendor_id_field (omega arith),
        fixed_same product_code (omega arith),
        fixed_same revision_number (omega arith),
        fixed_same serial_number (omega arith),
      )

  identity-same : identity_said s ≡ identity_said t
  unfolding identity_said
  identity-same = lent_same s t _ _ (within_same checksum_end s t e) (ap (λ (x : SubDeviceIdentity). gives (identity_values x)) identity-of-same)

  mailbox-same : mailbox_said s ≡ mailbox_said t
  unfolding mailbox_said mailbox_of lent
  mailbox-same =
      rw (
        within_same checksum_end s t e,
        fixed_same receive_mailbox_offset (omega arith),
        fixed_same receive_mailbox_size (omega arith),
        fixed_same send_mailbox_offset (omega arith),
        fixed_same send_mailbox_size (omega arith),
        fixed_same mailbox_protocol (omega arith),
      )

  size_same : size_said s ≡ size_said t
  unfolding size_said lent
  size_same = rw (within_same checksum_end s t e, fixed_same memory_size (omega arith))

module _ (s t : List ℕ) (e : SameFrom categories s t) where
  in-same : (p end : ℕ) → categories ≤ p → general_in s p end ≡ general_in t p end
  unfolding general_in general_of general_admits
  in-same p end h =
      let a : (k : ℕ) → byte_at s (p + k) ≡ byte_at t (p + k) = λ k. e.bytes (p + k) (omega arith) in
      let b : (k j : ℕ) → byte_at s (p + k + j) ≡ byte_at t (p + k + j) = λ k j. e.bytes (p + k + j) (omega arith) in
      simp (a, b)

  found-same : general_found s ≡ general_found t
  unfolding general_found
  found-same = on_category-same s t e.size e.bytes numbers.general (general_in s) (general_in t) in-same

  general-same : general_said s ≡ general_said t
  unfolding general_said
  general-same = rw found-same

  word_same : (f : Field) → general_word s f ≡ general_word t f
  unfolding general_word on2 needed word_in
  word_same f = rw (category-same s t e.size e.bytes numbers.general) (go (category_said t numbers.general) (category-behind t numbers.general))
    where
      go : (x : Said) → Behind x → on2 (needed x) (word_in s f) ≡ on2 (needed x) (word_in t f)
      go (gives l) b = rw (field-same categories s t e (get_or l 0 0) f (omega arith))
      go absent b = refl
      go (refuses n v) b = refl

  ports-same : ports_said s ≡ ports_said t
  unfolding ports_said
  ports-same = ap kinds_of (word_same physical_port)

  address_same : address_said s ≡ address_said t
  unfolding address_said
  address_same = word_same physical_memory_address

-- ---- the image after the alias is set

module _ (image : List ℕ) (alias : ℕ) (h : checksum_end ≤ length image) where
  put-length : length (with_alias image alias) ≡ length image
  unfolding with_alias
  put-length = length-overlay image (start configured_station_alias) (bytes16 alias) (omega arith)

  set-length : length (aliased image alias) ≡ length image
  unfolding with_checksum
  set-length = length-overlay (with_alias image alias) (start checksum) _ (omega (arith, put-length)) ∙ put-length

  set-behind : SameFrom checksum_end (aliased image alias) image
  unfolding with_checksum with_alias
  set-behind = record {
    size = set-length;
    bytes = λ i k. overlay-past (with_alias image alias) (start checksum) _ (omega (arith, put-length)) i k ∙ overlay-past image (start configured_station_alias) (bytes16 alias) (omega arith) i (omega arith);
  }

  alias-byte : (k : ℕ) → k < 2 → byte_at (aliased image alias) (start configured_station_alias + k) ≡ byte_at (bytes16 alias) k
  unfolding with_checksum with_alias
  alias-byte k b =
      overlay-before (with_alias image alias) (start checksum) _ (omega (arith, put-length)) (start configured_station_alias + k) (omega arith) ∙ overlay-inside image (start configured_station_alias) (bytes16 alias) (omega arith) k b

  set-alias : alias < 65536 → le16 (aliased image alias) (start configured_station_alias) ≡ alias
  set-alias f = rw (alias-byte 0 (omega arith), alias-byte 1 (omega arith)) (bytes16-back alias f)

  -- a byte before the checksum that is none of the alias
  set_before : (i : ℕ) → i < start configured_station_alias → byte_at (aliased image alias) i ≡ byte_at image i
  unfolding with_checksum with_alias
  set_before i k =
      overlay-before (with_alias image alias) (start checksum) _ (omega (arith, put-length)) i (omega arith) ∙ overlay-before image (start configured_station_alias) (bytes16 alias) (omega arith) i k

  set-between : (i : ℕ) → past configured_station_alias ≤ i → i < start checksum → byte_at (aliased image alias) i ≡ byte_at image i
  unfolding with_checksum with_alias
  set-between i j k =
      overlay-before (with_alias image alias) (start checksum) _ (omega (arith, put-length)) i k ∙ overlay-past image (start configured_station_alias) (bytes16 alias) (omega arith) i j

  set-high : byte_at (aliased image alias) (start checksum + 1) ≡ 0
  unfolding with_checksum byte_at
  set-high = overlay-inside (with_alias image alias) (start checksum) _ (omega (arith, put-length)) 1 (omega arith)

  set_sum : byte_at (aliased image alias) (start checksum) ≡ crc_of (take (start checksum) (aliased image alias))
  unfolding with_checksum byte_at
  set_sum =
      let l : checksum_end ≤ length (with_alias image alias) = omega (arith, put-length) in
      overlay-inside (with_alias image alias) (start checksum) _ l 0 (omega arith) ∙ ap crc_of (sym (overlay-front (with_alias image alias) (start checksum) _ l))

-- where the answer is Done, the image was long enough, and not too long
pub set-done : (image : List ℕ) (alias : ℕ) → set_said image ≡ gives [] → (within image ≡ true) × (checksum_end ≤ length image) × (set_image image alias ≡ aliased image alias)
unfolding set_said set_image lent
set-done image alias p = go (within image) (leb checksum_end (length image)) refl refl p
  where
    go : (a b : Bool) → within image ≡ a → leb checksum_end (length image) ≡ b →
        pick a (pick b (gives []) (refuses 7 [])) (refuses 14 []) ≡ gives [] →
        (within image ≡ true) × (checksum_end ≤ length image) × (pick (within image) (pick (leb checksum_end (length image)) (aliased image alias) image) image ≡ aliased image alias)
    go true true x y p = (x, leb-true checksum_end (length image) y, rw (x, y))
    go true false x y p = (cc, absurd (let z : ◌≡◌ {A = ℕ} 0 1 = cc in omega arith), cc)
    go false b x y p = (cc, absurd (let z : ◌≡◌ {A = ℕ} 0 1 = cc in omega arith), cc)

pub alias-kept : (image : List ℕ) (alias : ℕ) → alias < 65536 → set_said image ≡ gives [] → AliasKept image (set_image image alias) alias
unfolding alias_said lent
alias-kept image alias f p =
    let d = set-done image alias p in
    let b = set-behind image alias d.1 in
    let c = same_weaker checksum_end categories _ _ (omega arith) b in
    rw d.2 (record {
      back = simp (within_same checksum_end _ _ b, d.0, set-alias image alias d.1 f);
      before = set_before image alias d.1;
      between = set-between image alias d.1;
      sum = set_sum image alias d.1;
      high = set-high image alias d.1;
      behind = b;
      lent = within_same checksum_end _ _ b ∙ d.0;
      room = omega (arith, b.size, d.1);
      identity = identity-same _ _ b;
      mailbox = mailbox-same _ _ b;
      size = size_same _ _ b;
      category = category-same _ _ c.size c.bytes;
      found = found-same _ _ c;
      general = general-same _ _ c;
      ports = ports-same _ _ c;
      address = address_same _ _ c;
    })
