-- Laws of a category's list, for records of any kind: a loop that lays the records over lent places one by one holds what the definition lists.
use Prim.Native.Nat.{ℕ, zero, suc, ◌+◌, ◌≤◌, ◌<◌}
use native.Mathlib.Omega.{arith}
use native.Mathlib.Nat.{zero-add}
use native.Mathlib.Numerals.{add-one}
use mathlib.Core.Path.{◌≡◌, refl, sym, ap, ◌∙◌}
use mathlib.Core.List.{List, [], ◌∷◌, ◌++◌, append_assoc, append-nil}
use lib.ListN.{length, get_or, replicate, set, drop, length-append}
use lib.Seq.{set_at, drop-cons}
use Rattle.std.specs.Prelude.{Option, Some, None, Result, Ok, Err}
use Rattle.std.specs.Result.{IsErrAnd}
use Rattle.std.proofs.lemmas.List.{drop-replicate}
use Rattle.std.proofs.lemmas.Result.{err_from_is_err_and}
use Rattle.refusal.specs.Said.{Said, gives, absent, refuses, said, said_of, number_value}
use Rattle.refusal.specs.declared.Refusal.{Refusal}
use Rattle.wire.specs.Bytes.{overlay}
use Rattle.wire.proofs.Laws.{overlay-none}
use Rattle.eeprom.specs.declared.Range.{Range}
use Rattle.lists.specs.Records.{Item, one, none, bad, Listed, holds, no, front, begin, records, in_category, back, back_of, read_answer, count_said, lay_from, laid_records, laid_in}

-- ---- a loop over records

-- records, and then what the rest of the list holds
abbrev pub joined : {R : Type 0} → List R → Listed R → Listed R
joined xs (holds l) = holds (xs ++ l)
joined xs (no n v) = no n v

module _ {R : Type 0} where
  joined-none : (x : Listed R) → joined [] x ≡ x
  joined-none (holds l) = refl
  joined-none (no n v) = refl

  joined-more : (xs : List R) (r : R) (x : Listed R) → joined (xs ++ (r ∷ [])) x ≡ joined xs (front r x)
  joined-more xs r (holds l) = rw append_assoc
  joined-more xs r (no n v) = refl

-- a loop stands at a position with the first count of the lent places filled: the records so far and the rest are the whole list
pub record Going {R : Type 0} (item : ℕ → Item R) (lent : List R) (start : ℕ) (places : List R) (count pos : ℕ) : Type 0 where
  pub got : List R
  pub room : ℕ
  pub counts : count ≡ length got
  pub total : count + room ≡ length lent
  pub filled : places ≡ got ++ drop count lent
  pub same : joined got (records item room pos) ≡ records item (length lent) start
  pub lays : got ++ laid_records item room pos ≡ laid_records item (length lent) start

-- .. and ends with an answer, and with the records laid
abbrev pub Ended : {R : Type 0} → (ℕ → Item R) → List R → ℕ → Result ℕ Refusal → List R → Type 0
Ended item lent start result after = (said number_value result ≡ count_said (records item (length lent) start)) × (after ≡ overlay lent 0 (laid_records item (length lent) start))

overlay-front : {A : Type 0} → (xs ys : List A) → overlay xs 0 ys ≡ ys ++ drop (length ys) xs
unfolding overlay
overlay-front xs ys = rw zero-add

module _ {R : Type 0} (item : ℕ → Item R) (lent : List R) (start : ℕ) where
  pub going_start : Going item lent start lent 0 start
  going_start = record { got = []; room = length lent; counts = refl; total = omega arith; filled = refl; same = joined-none (records item (length lent) start); lays = refl }

  module _ (places : List R) (count pos : ℕ) where
    more : (r : R) (next : ℕ) (got : List R) (room : ℕ) → count ≡ length got → count + room ≡ length lent → places ≡ got ++ drop count lent →
        joined got (records item room pos) ≡ records item (length lent) start → got ++ laid_records item room pos ≡ laid_records item (length lent) start → one r next ≡ item pos → count < length lent →
        Going item lent start (set places count r) (count + 1) next
    unfolding records laid_records
    more r next got zero e t f s k p h = absurd (let z : ⊥ = omega arith in z)
    more r next got (suc room) e t f s k p h = record {
      got = got ++ (r ∷ []);
      room = room;
      counts = simp length-append (omega arith);
      total = omega arith;
      filled = rw (f, drop-cons lent count r, set_at got (get_or lent count r) (drop (suc count) lent) r count (sym e), append_assoc, add-one);
      same = joined-more got r (records item room next) ∙ (rw (← p) at s);
      lays = append_assoc got (r ∷ []) (laid_records item room next) ∙ (rw (← p) at k);
    }

    none-at : (room : ℕ) → none ≡ item pos → (records item room pos ≡ holds []) × (laid_records item room pos ≡ [])
    unfolding records laid_records
    none-at zero p = rw (← p) (refl, refl)
    none-at (suc room) p = rw (← p) (refl, refl)

    bad-at : (room : ℕ) → bad ≡ item pos → (records item room pos ≡ no 5 []) × (laid_records item room pos ≡ [])
    unfolding records laid_records
    bad-at zero p = rw (← p) (refl, refl)
    bad-at (suc room) p = rw (← p) (refl, refl)

    full_at : (r : R) (next room : ℕ) → one r next ≡ item pos → room ≡ 0 → (records item room pos ≡ no 6 []) × (laid_records item room pos ≡ [])
    unfolding records laid_records
    full_at r next zero p h = rw (← p) (refl, refl)
    full_at r next (suc room) p h = absurd (let z : ⊥ = omega arith in z)

  -- the loop at a position, by what reading the record there answered
  module _ (places : List R) (count pos end : ℕ) (g : Going item lent start places count pos) (a : Result (Option (R × Range)) Refusal) (p : a ≡ read_answer end (item pos)) where
    -- where no further record is laid, those so far are what is laid
    laid : laid_records item g.room pos ≡ [] → places ≡ overlay lent 0 (laid_records item (length lent) start)
    laid e = rw (← g.lays, e, append-nil, overlay-front, ← g.counts, ← g.filled)

    stops : (y : Item R) → y ≡ item pos → (e : Refusal) → read_answer end y ≡ Err e → Ended item lent start (Err e) places
    stops (one r n) f e h = let z : ◌≡◌ {A = ℕ} 0 1 = cc in absurd (omega arith)
    stops none f e h = let z : ◌≡◌ {A = ℕ} 0 1 = cc in absurd (omega arith)
    stops bad f e h =
        let z : e ≡ Refusal.Decode = cc in
        let b = bad-at places count pos g.room f in
        (rw (z, ← g.same, b.0), laid b.1)

    -- a refusal is handed on
    pub read_err : (e : Refusal) → a ≡ Err e → Ended item lent start (Err e) places
    read_err e q = stops (item pos) refl e (sym p ∙ q)

    ends : (y : Item R) → y ≡ item pos → read_answer end y ≡ Ok None → Ended item lent start (Ok count) places
    ends (one r n) f h = let z : ◌≡◌ {A = ℕ} 0 1 = cc in absurd (omega arith)
    ends none f h =
        let b = none-at places count pos g.room f in
        (rw (← g.same, b.0, append-nil, ← g.counts), laid b.1)
    ends bad f h = let z : ◌≡◌ {A = ℕ} 0 1 = cc in absurd (omega arith)

    pub read_none : a ≡ Ok None → Ended item lent start (Ok count) places
    read_none q = ends (item pos) refl (sym p ∙ q)

    stands : (y : Item R) → y ≡ item pos → (v : R × Range) → read_answer end y ≡ Ok (Some v) → (one v.0 v.1.byte_pos ≡ item pos) × (v.1.end ≡ end)
    stands (one r n) f v h =
        let u : v ≡ (r, record { byte_pos = n; end = end }) = cc in
        rw u (f, refl)
    stands none f v h = let z : ◌≡◌ {A = ℕ} 0 1 = cc in absurd (omega arith)
    stands bad f v h = let z : ◌≡◌ {A = ℕ} 0 1 = cc in absurd (omega arith)

    -- one record more than has room
    pub read_full : (v : R × Range) → a ≡ Ok (Some v) → length lent ≤ count → Ended item lent start (Err Refusal.Capacity) places
    read_full v q h =
        let s = stands (item pos) refl v (sym p ∙ q) in
        let n : g.room ≡ 0 = omega (arith, g.total) in
        let b = full_at places count pos v.0 v.1.byte_pos g.room s.0 n in
        (rw (← g.same, b.0), laid b.1)

    -- one that has
    pub read_one : (r : R) (b : Range) → a ≡ Ok (Some (r, b)) → count < length lent → (b.end ≡ end) × Going item lent start (set places count r) (count + 1) b.byte_pos
    read_one r b q h =
        let s = stands (item pos) refl (r, b) (sym p ∙ q) in
        (s.1, more places count pos r b.byte_pos g.got g.room g.counts g.total g.filled g.same g.lays s.0 h)

-- ---- a category that was sought

-- nothing laid changes nothing
pub nothing : {A : Type 0} → (xs : List A) → xs ≡ overlay xs 0 []
nothing xs = sym (overlay-none xs 0)

-- where it is refused so is its list, whatever a call gives beside the count
pub unsought_said : {R T : Type 0} (values : T → List ℕ) (go : ℕ → ℕ → Listed R) (s : Said) (r : Result T Refusal) (e : Refusal) → said_of e ≡ s → IsErrAnd r (λ x. x ≡ e) → said values r ≡ count_said (in_category s go)
unfolding in_category
unsought_said values go s r e h q =
    let o = err_from_is_err_and r q in
    rw (← h, o.1, o.2) refl

-- .. and nothing is laid
pub unsought : {R : Type 0} (go : ℕ → ℕ → Listed R) (lay : ℕ → ℕ → List R) (s : Said) (r : Result ℕ Refusal) (e : Refusal) (lent : List R) → said_of e ≡ s → IsErrAnd r (λ x. x ≡ e) →
    (said number_value r ≡ count_said (in_category s go)) × (lent ≡ overlay lent 0 (laid_in s lay))
unfolding laid_in
unsought go lay s r e lent h q = (unsought_said number_value go s r e h q, rw (← h) (nothing lent))

-- what is laid of a list that is not refused is the list
laid-list : {R : Type 0} (item : ℕ → Item R) (room p : ℕ) (l : List R) → records item room p ≡ holds l → laid_records item room p ≡ l
unfolding records laid_records
laid-list {R} item zero p l e = go (item p) e
  where
    go : (y : Item R) → begin y (λ q. no 6 []) ≡ holds l → [] ≡ l
    go none h = cc
    go bad h = let z : ◌≡◌ {A = ℕ} 0 1 = cc in absurd (omega arith)
    go (one r q) h = let z : ◌≡◌ {A = ℕ} 0 1 = cc in absurd (omega arith)
laid-list {R} item (suc room) p l e = go (item p) e (laid-list item room)
  where
    rest : (r : R) (q : ℕ) (x : Listed R) → records item room q ≡ x → front r x ≡ holds l → ((q : ℕ) (m : List R) → records item room q ≡ holds m → laid_records item room q ≡ m) → r ∷ laid_records item room q ≡ l
    rest r q (holds m) f h ih =
        let z : r ∷ m ≡ l = cc in
        ap (◌∷◌ r) (ih q m f) ∙ z
    rest r q (no n v) f h ih = let z : ◌≡◌ {A = ℕ} 0 1 = cc in absurd (omega arith)

    go : (y : Item R) → begin y (records item room) ≡ holds l → ((q : ℕ) (m : List R) → records item room q ≡ holds m → laid_records item room q ≡ m) → lay_from y (laid_records item room) ≡ l
    go none h ih = cc
    go bad h ih = let z : ◌≡◌ {A = ℕ} 0 1 = cc in absurd (omega arith)
    go (one r q) h ih = rest r q (records item room q) refl h ih

laid-category : {R : Type 0} (item : ℕ → ℕ → Item R) (most : ℕ) (s : Said) (l : List R) → in_category s (λ p end. records (item end) most p) ≡ holds l → laid_in s (λ p end. laid_records (item end) most p) ≡ l
unfolding in_category laid_in
laid-category item most (gives v) l e = laid-list (item (get_or v 1 0)) most (get_or v 0 0) l e
laid-category item most absent l e = cc
laid-category item most (refuses n v) l e = let z : ◌≡◌ {A = ℕ} 0 1 = cc in absurd (omega arith)

-- ---- a list that comes back, from one that was read into blank places

module _ {R : Type 0} (blank : R) (most : ℕ) where
  back-laid : (x : Listed R) (n : ℕ) (lays after : List R) → gives (n ∷ []) ≡ count_said x → after ≡ overlay (replicate most blank) 0 lays → ((l : List R) → x ≡ holds l → lays ≡ l) →
      record { says = gives []; count = n; places = after } ≡ back blank most x
  unfolding back
  back-laid (holds l) n lays after c f a =
      let e : n ≡ length l = cc in
      rw (e, f, overlay-front, a l refl, drop-replicate)
  back-laid (no k v) n lays after c f a = let z : ◌≡◌ {A = ℕ} 0 1 = cc in absurd (omega arith)

  back-refused : (x : Listed R) (e : Refusal) → said_of e ≡ count_said x → record { says = said_of e; count = 0; places = replicate most blank } ≡ back blank most x
  unfolding back
  back-refused (holds l) e f = let z : ◌≡◌ {A = ℕ} 0 1 = cc in absurd (omega arith)
  back-refused (no k v) e f = rw f

  pub listed : (item : ℕ → ℕ → Item R) (s : Said) (b : R) (n : ℕ) (after : List R) → gives (n ∷ []) ≡ count_said (in_category s (λ p end. records (item end) most p)) →
      after ≡ overlay (replicate most b) 0 (laid_in s (λ p end. laid_records (item end) most p)) → b ≡ blank →
      record { says = gives []; count = n; places = after } ≡ back blank most (in_category s (λ p end. records (item end) most p))
  listed item s b n after c f e =
      back-laid (in_category s (λ p end. records (item end) most p)) n (laid_in s (λ p end. laid_records (item end) most p)) after c (rw e at f) (laid-category item most s)

  -- .. or the refusal that was handed on
  pub unlisted : {T : Type 0} (count : T → ℕ) (places : T → List R) (x : Listed R) (r : Result T Refusal) (e : Refusal) → said_of e ≡ count_said x → IsErrAnd r (λ x. x ≡ e) →
      back_of blank most count places r ≡ back blank most x
  unlisted count places x r e f q =
      let o = err_from_is_err_and r q in
      rw (o.1, o.2) (back-refused x e f)
