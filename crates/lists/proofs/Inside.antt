-- A list is what lies inside its category, for every kind of record: each record stands behind the one before and ends before the end, and it ends
-- only where no further one begins. Whatever is so is what is listed; and two images that differ only outside have the same list.
use Prim.Native.Nat.{ℕ, zero, suc, ◌+◌, ◌≤◌, ◌<◌, min}
use native.Mathlib.Omega.{arith}
use mathlib.Core.Path.{◌≡◌, refl, sym, ◌∙◌}
use mathlib.Core.List.{List, [], ◌∷◌}
use lib.ListN.{length, get_or}
use Rattle.refusal.specs.Said.{Said, gives, absent, refuses}
use Rattle.wire.specs.Bytes.{Bytes}
use Rattle.category.specs.Numbers as numbers
use Rattle.category.specs.Category.{category_said}
use Rattle.lists.specs.Layout.{sm_bytes, fmmu_bytes, ex_bytes, pdo_bytes}
use Rattle.lists.specs.Records.{Item, one, none, bad, Listed, holds, no, front, begin, records, in_category}
use Rattle.lists.specs.Inside.{Inside, ends, stands, Lists, Stops, Each, nil, cons, SameIn, Moves, Local}
use Rattle.lists.specs.SyncManagers.{sm_at, sm_most, sms_of}
use Rattle.lists.specs.Fmmus.{usage_at, ex_at, fmmu_most, usages_of, ex_of}
use Rattle.lists.specs.Pdos.{bit_len_below, pdo_at, pdo_most, pdos_of}
use Rattle.lists.specs.declared.Pdo.{Pdo}
use Rattle.lists.specs.declared.SyncManager.{SyncManager}
use Rattle.lists.proofs.Reading.{sm_moves, sm_stops, sm_local, usage_moves, usage_stops, usage_local, ex_moves, ex_stops, ex_local, pdo_moves, pdo_stops, pdo_local, pdo_fits}

-- ---- records, of any kind

module _ {R : Type 0} (item : ℕ → Item R) (least end : ℕ) where
  -- a list that begins with an item
  begins : (room p : ℕ) (x : Item R) (go : ℕ → Listed R) (l : List R) → x ≡ item p → (none ≡ item p → end < p + least) →
      ((r : R) (q : ℕ) → one r q ≡ item p → (p < q) × (q ≤ end)) →
      ((q : ℕ) (m : List R) → go q ≡ holds m → (Inside item least end q m) × (length m < room)) → begin x go ≡ holds l → Lists item least end room p l
  begins room p none go l e s h ih b = let z : l ≡ [] = cc in rw z (record { inside = ends p (s e); few = omega arith })
  begins room p bad go l e s h ih b = let z : ◌≡◌ {A = ℕ} 0 1 = cc in absurd (omega arith)
  begins room p (one r q) go l e s h ih b = rest (go q) refl b
    where
      rest : (y : Listed R) → go q ≡ y → front r y ≡ holds l → Lists item least end room p l
      rest (holds m) g f =
          let z : l ≡ r ∷ m = cc in
          let i = ih q m g in
          rw z (record { inside = stands p q r m (sym e) (h r q e).0 (h r q e).1 i.0; few = i.1 })
      rest (no n v) g f = let z : ◌≡◌ {A = ℕ} 0 1 = cc in absurd (omega arith)

  -- what is listed lies inside
  pub records-inside : ((p : ℕ) → none ≡ item p → end < p + least) → ((p : ℕ) (r : R) (q : ℕ) → one r q ≡ item p → (p < q) × (q ≤ end)) →
      (room p : ℕ) (l : List R) → records item room p ≡ holds l → Lists item least end room p l
  unfolding records
  records-inside s h zero p l e =
      begins zero p (item p) (λ q. no 6 []) l refl (s p) (h p) (λ q m n. let z : ◌≡◌ {A = ℕ} 0 1 = cc in absurd (omega arith)) e
  records-inside s h (suc room) p l e =
      begins (suc room) p (item p) (records item room) l refl (s p) (h p) (λ q m n. let i = records-inside s h room q m n in (i.inside, omega (arith, i.few))) e

  -- what lies inside is listed
  pub inside-records : ((p : ℕ) → end < p + least → none ≡ item p) → (room p : ℕ) (l : List R) → Inside item least end p l → length l ≤ room → records item room p ≡ holds l
  unfolding records
  inside-records s zero p _ (ends _ h) k = rw (← s p h)
  inside-records s (suc room) p _ (ends _ h) k = rw (← s p h)
  inside-records s zero p _ (stands _ q r l e a b i) k = absurd (let z : ⊥ = omega arith in z)
  inside-records s (suc room) p _ (stands _ q r l e a b i) k = rw (e, inside-records s room q l i (omega arith))

same-behind : (p q end : ℕ) (s t : List ℕ) → p ≤ q → SameIn p end s t → SameIn q end s t
same-behind p q end s t h e = record { bytes = λ i a b. e.bytes i (omega arith) b }

-- what follows an item, wherever the next record starts
begin-same : {R : Type 0} (x : Item R) (a b : ℕ → Listed R) → ((r : R) (q : ℕ) → one r q ≡ x → a q ≡ b q) → begin x a ≡ begin x b
begin-same none a b h = refl
begin-same bad a b h = refl
begin-same (one r q) a b h = rw (h r q refl)

pub records_local : {R : Type 0} (item : List ℕ → ℕ → ℕ → Item R) → Moves item → Local item → (s t : List ℕ) (end room p : ℕ) → SameIn p end s t →
    records (item s end) room p ≡ records (item t end) room p
unfolding records
records_local item m c s t end zero p e = rw (c s t end p e)
records_local item m c s t end (suc room) p e =
    rw (c s t end p e)
    (begin-same (item t end p) (records (item s end) room) (records (item t end) room) (λ r q k. records_local item m c s t end room q (same-behind p q end s t (let f = m t end p r q k in omega arith) e)))

-- ---- the lists

-- a category that is found
in_found : {R : Type 0} (said : Said) (go : ℕ → ℕ → Listed R) (p end : ℕ) → said ≡ gives (p ∷ end ∷ []) → in_category said go ≡ go p end
unfolding in_category
in_found said go p end e = rw e

-- the image holds the category of this number from p to end
abbrev pub Holds : List ℕ → ℕ → ℕ → ℕ → Type 0
Holds image number p end = category_said image number ≡ gives (p ∷ end ∷ [])

-- of a kind of list that reads up to a cut, which is not past the end
module _ {R : Type 0} (item : List ℕ → ℕ → ℕ → Item R) (m : Moves item) (least : ℕ) (o : Stops item least) (c : Local item) (most number : ℕ) (cut : ℕ → ℕ → ℕ) (k : (p end : ℕ) → cut p end ≤ end) where
  pub list_inside : (image : List ℕ) (p end : ℕ) (l : List R) → Holds image number p end →
      in_category (category_said image number) (λ p end. records (item image (cut p end)) most p) ≡ holds l → Lists (item image (cut p end)) least (cut p end) most p l
  list_inside image p end l h e =
      records-inside (item image (cut p end)) least (cut p end) (o.only image (cut p end)) (m image (cut p end)) most p l
      (sym (in_found (category_said image number) _ p end h) ∙ e)

  pub inside-list : (image : List ℕ) (p end : ℕ) (l : List R) → Holds image number p end → Lists (item image (cut p end)) least (cut p end) most p l →
      in_category (category_said image number) (λ p end. records (item image (cut p end)) most p) ≡ holds l
  inside-list image p end l h x =
      in_found (category_said image number) _ p end h
      ∙ inside-records (item image (cut p end)) least (cut p end) (o.surely image (cut p end)) most p l x.inside x.few

  pub list_local : (s t : List ℕ) (p end : ℕ) → Holds s number p end → Holds t number p end → SameIn p end s t →
      in_category (category_said s number) (λ p end. records (item s (cut p end)) most p) ≡ in_category (category_said t number) (λ p end. records (item t (cut p end)) most p)
  list_local s t p end h j e =
      in_found (category_said s number) _ p end h
      ∙ records_local item m c s t (cut p end) most p (record { bytes = λ i a b. e.bytes i a (omega (arith, k p end)) })
      ∙ sym (in_found (category_said t number) _ p end j)

pub all : (p end : ℕ) → end ≤ end
all p end = omega arith

sixteen : (p end : ℕ) → min end (p + fmmu_most) ≤ end
sixteen p end = omega arith

pub sms-inside : (image : List ℕ) (p end : ℕ) (l : List SyncManager) → Holds image numbers.sync_managers p end → sms_of image ≡ holds l → Lists (sm_at image end) sm_bytes end sm_most p l
unfolding sms_of
sms-inside = list_inside sm_at sm_moves sm_bytes sm_stops sm_local sm_most numbers.sync_managers (λ p end. end) all

pub sms_exact : (image : List ℕ) (p end : ℕ) (l : List SyncManager) → Holds image numbers.sync_managers p end → Lists (sm_at image end) sm_bytes end sm_most p l → sms_of image ≡ holds l
unfolding sms_of
sms_exact = inside-list sm_at sm_moves sm_bytes sm_stops sm_local sm_most numbers.sync_managers (λ p end. end) all

pub sms_local : (s t : List ℕ) (p end : ℕ) → Holds s numbers.sync_managers p end → Holds t numbers.sync_managers p end → SameIn p end s t → sms_of s ≡ sms_of t
unfolding sms_of
sms_local = list_local sm_at sm_moves sm_bytes sm_stops sm_local sm_most numbers.sync_managers (λ p end. end) all

pub usages-inside : (image : List ℕ) (p end : ℕ) (l : List ℕ) → Holds image numbers.fmmu p end → usages_of image ≡ holds l → Lists (usage_at image (min end (p + fmmu_most))) fmmu_bytes (min end (p + fmmu_most)) fmmu_most p l
unfolding usages_of
usages-inside = list_inside usage_at usage_moves fmmu_bytes usage_stops usage_local fmmu_most numbers.fmmu (λ p end. min end (p + fmmu_most)) sixteen

pub usages_exact : (image : List ℕ) (p end : ℕ) (l : List ℕ) → Holds image numbers.fmmu p end → Lists (usage_at image (min end (p + fmmu_most))) fmmu_bytes (min end (p + fmmu_most)) fmmu_most p l → usages_of image ≡ holds l
unfolding usages_of
usages_exact = inside-list usage_at usage_moves fmmu_bytes usage_stops usage_local fmmu_most numbers.fmmu (λ p end. min end (p + fmmu_most)) sixteen

pub usages_local : (s t : List ℕ) (p end : ℕ) → Holds s numbers.fmmu p end → Holds t numbers.fmmu p end → SameIn p end s t → usages_of s ≡ usages_of t
unfolding usages_of
usages_local = list_local usage_at usage_moves fmmu_bytes usage_stops usage_local fmmu_most numbers.fmmu (λ p end. min end (p + fmmu_most)) sixteen

pub exes-inside : (image : List ℕ) (p end : ℕ) (l : List ℕ) → Holds image numbers.fmmu_extended p end → ex_of image ≡ holds l → Lists (ex_at image end) ex_bytes end fmmu_most p l
unfolding ex_of
exes-inside = list_inside ex_at ex_moves ex_bytes ex_stops ex_local fmmu_most numbers.fmmu_extended (λ p end. end) all

pub exes_exact : (image : List ℕ) (p end : ℕ) (l : List ℕ) → Holds image numbers.fmmu_extended p end → Lists (ex_at image end) ex_bytes end fmmu_most p l → ex_of image ≡ holds l
unfolding ex_of
exes_exact = inside-list ex_at ex_moves ex_bytes ex_stops ex_local fmmu_most numbers.fmmu_extended (λ p end. end) all

pub exes_local : (s t : List ℕ) (p end : ℕ) → Holds s numbers.fmmu_extended p end → Holds t numbers.fmmu_extended p end → SameIn p end s t → ex_of s ≡ ex_of t
unfolding ex_of
exes_local = list_local ex_at ex_moves ex_bytes ex_stops ex_local fmmu_most numbers.fmmu_extended (λ p end. end) all

pub pdos-inside : (number : ℕ) (image : List ℕ) (p end : ℕ) (l : List Pdo) → Holds image number p end → pdos_of image number ≡ holds l → Lists (pdo_at image end) pdo_bytes end pdo_most p l
unfolding pdos_of
pdos-inside number = list_inside pdo_at pdo_moves pdo_bytes pdo_stops pdo_local pdo_most number (λ p end. end) all

pub pdos_exact : (number : ℕ) (image : List ℕ) (p end : ℕ) (l : List Pdo) → Holds image number p end → Lists (pdo_at image end) pdo_bytes end pdo_most p l → pdos_of image number ≡ holds l
unfolding pdos_of
pdos_exact number = inside-list pdo_at pdo_moves pdo_bytes pdo_stops pdo_local pdo_most number (λ p end. end) all

pub pdos_local : (number : ℕ) (s t : List ℕ) (p end : ℕ) → Holds s number p end → Holds t number p end → SameIn p end s t → pdos_of s number ≡ pdos_of t number
unfolding pdos_of
pdos_local number = list_local pdo_at pdo_moves pdo_bytes pdo_stops pdo_local pdo_most number (λ p end. end) all

-- ---- the bit lengths of a list of PDOs

each : {R : Type 0} (P : R → Type 0) (item : ℕ → Item R) (least end p : ℕ) (l : List R) → ((p : ℕ) (r : R) (q : ℕ) → one r q ≡ item p → P r) → Inside item least end p l → Each P l
each P item least end p _ h (ends _ _) = nil
each P item least end p _ h (stands _ q r l e a b i) = cons r l (h p r q (sym e)) (each P item least end q l h i)

pub pdos-fit : (image : List ℕ) → Bytes image → (number : ℕ) (l : List Pdo) → pdos_of image number ≡ holds l → Each (λ r. r.bit_len < bit_len_below) l
unfolding pdos_of in_category
pdos-fit image b number l e = go (category_said image number) e
  where
    go : (x : Said) → in_category x (λ p end. records (pdo_at image end) pdo_most p) ≡ holds l → Each (λ r. r.bit_len < bit_len_below) l
    go (gives v) e =
        each _ (pdo_at image (get_or v 1 0)) pdo_bytes (get_or v 1 0) (get_or v 0 0) l (pdo_fits image b (get_or v 1 0))
        (records-inside (pdo_at image (get_or v 1 0)) pdo_bytes (get_or v 1 0) (pdo_stops.only image (get_or v 1 0)) (pdo_moves image (get_or v 1 0)) pdo_most (get_or v 0 0) l e).inside
    go absent e = let z : l ≡ [] = cc in rw z nil
    go (refuses n v) e = let z : ◌≡◌ {A = ℕ} 0 1 = cc in absurd (omega arith)
