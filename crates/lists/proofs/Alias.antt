-- After the alias is set every list is as before: the categories are, and the records stand behind byte 128.
use Prim.Native.Nat.{ℕ, ◌+◌, ◌≤◌, ◌<◌, min}
use native.Mathlib.Omega.{arith}
use mathlib.Core.Path.{◌≡◌, refl}
use mathlib.Core.List.{List, []}
use lib.ListN.{get_or}
use Rattle.refusal.specs.Said.{Said, gives, absent, refuses}
use Rattle.category.specs.Numbers as numbers
use Rattle.category.specs.Category.{category_said}
use Rattle.category.proofs.Same.{categories, Behind, category-same, category-behind}
use Rattle.sii.specs.Fixed.{checksum_end, set_said, set_image}
use Rattle.sii.specs.Alias.{SameFrom}
use Rattle.sii.proofs.Same.{same_weaker}
use Rattle.sii.proofs.Alias.{alias-kept}
use Rattle.lists.specs.Records.{Item, records, in_category}
use Rattle.lists.specs.Inside.{SameIn, Moves, Local, ListsKept}
use Rattle.lists.specs.SyncManagers.{sm_at, sm_most, sms_of}
use Rattle.lists.specs.Fmmus.{usage_at, ex_at, fmmu_most, usages_of, ex_of}
use Rattle.lists.specs.Pdos.{pdo_at, pdo_most, pdos_of}
use Rattle.lists.proofs.Reading.{sm_moves, sm_local, usage_moves, usage_local, ex_moves, ex_local, pdo_moves, pdo_local}
use Rattle.lists.proofs.Inside.{records_local}

module _ (s t : List ℕ) (e : SameFrom categories s t) where
  in_behind : (p end : ℕ) → categories ≤ p → SameIn p end s t
  in_behind p end h = record { bytes = λ i a b. e.bytes i (omega arith) }

  -- a list of a category, of any kind, that reads up to a cut
  pub list_same : {R : Type 0} (item : List ℕ → ℕ → ℕ → Item R) → Moves item → Local item → (most number : ℕ) (cut : ℕ → ℕ → ℕ) →
      in_category (category_said s number) (λ p end. records (item s (cut p end)) most p) ≡ in_category (category_said t number) (λ p end. records (item t (cut p end)) most p)
  unfolding in_category
  list_same item m c most number cut = rw (category-same s t e.size e.bytes number) (go (category_said t number) (category-behind t number))
    where
      go : (x : Said) → Behind x →
          in_category x (λ p end. records (item s (cut p end)) most p) ≡ in_category x (λ p end. records (item t (cut p end)) most p)
      go (gives l) b = records_local item m c s t (cut (get_or l 0 0) (get_or l 1 0)) most (get_or l 0 0) (in_behind (get_or l 0 0) (cut (get_or l 0 0) (get_or l 1 0)) b)
      go absent b = refl
      go (refuses n v) b = refl

  pub sms-same : sms_of s ≡ sms_of t
  unfolding sms_of
  sms-same = list_same sm_at sm_moves sm_local sm_most numbers.sync_managers (λ p end. end)

  pub usages-same : usages_of s ≡ usages_of t
  unfolding usages_of
  usages-same = list_same usage_at usage_moves usage_local fmmu_most numbers.fmmu (λ p end. min end (p + fmmu_most))

  pub exes-same : ex_of s ≡ ex_of t
  unfolding ex_of
  exes-same = list_same ex_at ex_moves ex_local fmmu_most numbers.fmmu_extended (λ p end. end)

  pub pdos-same : (number : ℕ) → pdos_of s number ≡ pdos_of t number
  unfolding pdos_of
  pdos-same number = list_same pdo_at pdo_moves pdo_local pdo_most number (λ p end. end)

pub alias_lists : (image : List ℕ) (alias : ℕ) → alias < 65536 → set_said image ≡ gives [] → ListsKept image (set_image image alias)
alias_lists image alias f p =
    let b = same_weaker checksum_end categories _ _ (omega arith) (alias-kept image alias f p).behind in
    record { sms = sms-same _ _ b; usages = usages-same _ _ b; exes = exes-same _ _ b; pdos = pdos-same _ _ b }
