-- What the kinds of record share: a record ends behind its start and within its category, and nothing outside is read.
use Prim.Native.Nat.{ℕ, zero, suc, ◌+◌, ◌*◌, ◌≤◌, ◌<◌}
use native.Mathlib.Omega.{arith}
use native.Mathlib.Numerals.{add-one}
use mathlib.Core.Path.{◌≡◌, refl, sym, ◌∙◌}
use mathlib.Core.Bool.{Bool, true, false}
use mathlib.Core.List.{List}
use lib.Dec.{leb}
use borrow.Author.Tests.{leb-true, leb-false, lt-leb}
use Rattle.refusal.specs.Said.{pick}
use Rattle.wire.specs.Bytes.{byte_at, Bytes}
use Rattle.sii.specs.Layout.{Field, byte, word, long, past, field}
use Rattle.lists.specs.Layout.{sm_bytes, fmmu_bytes, ex_bytes, pdo_bytes, entry_bytes, physical_start_address, sm_length, control_register, enable_sync_m, sync_m_type, fmmu_usage, ex_sync_m, pdo_index, n_entry, pdo_sync_m}
use Rattle.lists.specs.Records.{Item, one, none, bad}
use Rattle.lists.specs.Inside.{SameIn, Moves, Stops, Local}
use Rattle.lists.specs.SyncManagers.{sm_of, sm_admits, sm_at}
use Rattle.lists.specs.Fmmus.{usage_admits, usage_of, usage_at, ex_at}
use Rattle.lists.specs.Pdos.{entries_of, pdo_end, sum_to, entry_bits, pdo_of, pdo_at, bit_len_below}
use Rattle.lists.specs.declared.Pdo.{Pdo}

-- ---- where a record ends

-- a record stands at p: both tests held, and the next starts where the definition says
pub ends_in : {R : Type 0} (t u : Bool) (r r' : R) (q q' : ℕ) → one r q ≡ pick t (pick u (one r' q') bad) none → (t ≡ true) × (u ≡ true) × (q ≡ q') × (r ≡ r')
ends_in true true r r' q q' p = (refl, refl, cc, cc)
ends_in true false r r' q q' p = (refl, cc, cc, cc)
ends_in false u r r' q q' p = (cc, cc, cc, cc)

-- .. n bytes on, if these lie before the end
sized_moves : {R : Type 0} (end p n : ℕ) (u : Bool) (r r' : R) (q : ℕ) → 0 < n → one r q ≡ pick (leb (p + n) end) (pick u (one r' (p + n)) bad) none → (p < q) × (q ≤ end)
sized_moves end p n u r r' q h e =
    let f = ends_in (leb (p + n) end) u r r' q (p + n) e in
    (omega (arith, f.2), omega (arith, f.2, leb-true (p + n) end f.0))

pub sm_moves : Moves sm_at
unfolding sm_at
sm_moves image end p r q e = sized_moves end p sm_bytes (sm_admits (sm_of image p)) r (sm_of image p) q (omega arith) e

pub usage_moves : Moves usage_at
unfolding usage_at
usage_moves image end p r q e = sized_moves end p fmmu_bytes (usage_admits (field image p fmmu_usage)) r (usage_of (field image p fmmu_usage)) q (omega arith) e

pub ex_moves : Moves ex_at
unfolding ex_at
ex_moves image end p r q e = sized_moves end p ex_bytes true r (field image p ex_sync_m) q (omega arith) e

pub pdo_moves : Moves pdo_at
unfolding pdo_at
pdo_moves image end p r q e =
    let f = ends_in (leb (p + pdo_bytes) end) (leb (pdo_end image p) end) r (pdo_of image p) q (pdo_end image p) e in
    (omega (arith, f.2), omega (arith, f.2, leb-true (pdo_end image p) end f.1))

-- ---- where a list ends

-- a test that lets through what is a record or bad, and else there is none
sized_only : {R : Type 0} (end p n : ℕ) (x : Item R) (t : Bool) → leb (p + n) end ≡ t → (none ≡ x → ⊥) → none ≡ pick t x none → end < p + n
sized_only end p n x true e h i = absurd (h i)
sized_only end p n x false e h i = leb-false (p + n) end e

sized_surely : {R : Type 0} (end p n : ℕ) (x : Item R) → end < p + n → none ≡ pick (leb (p + n) end) x none
sized_surely end p n x h = rw (lt-leb _ _ h)

-- what is let through is none of the none
pub one-some : {R : Type 0} (r : R) (q : ℕ) → none ≡ one r q → ⊥
one-some r q e = let z : ◌≡◌ {A = ℕ} 0 1 = cc in absurd (omega arith)

pick_some : {R : Type 0} (u : Bool) (r : R) (q : ℕ) → none ≡ pick u (one r q) bad → ⊥
pick_some true r q e = let z : ◌≡◌ {A = ℕ} 0 1 = cc in absurd (omega arith)
pick_some false r q e = let z : ◌≡◌ {A = ℕ} 0 1 = cc in absurd (omega arith)

-- kinds of record of a fixed size, and any whose item is of this form
pub sized_stops : {R : Type 0} (least : ℕ) (item : List ℕ → ℕ → ℕ → Item R) (x : List ℕ → ℕ → ℕ → Item R) →
    ((image : List ℕ) (end p : ℕ) → item image end p ≡ pick (leb (p + least) end) (x image end p) none) →
    ((image : List ℕ) (end p : ℕ) → none ≡ x image end p → ⊥) → Stops item least
sized_stops least item x f h = record {
  only = λ image end p e. sized_only end p least (x image end p) (leb (p + least) end) refl (h image end p) (e ∙ f image end p);
  surely = λ image end p k. sized_surely end p least (x image end p) k ∙ sym (f image end p);
}

pub sm_stops : Stops sm_at sm_bytes
unfolding sm_at
sm_stops = sized_stops sm_bytes sm_at (λ image end p. pick (sm_admits (sm_of image p)) (one (sm_of image p) (p + sm_bytes)) bad) (λ image end p. refl) (λ image end p. pick_some (sm_admits (sm_of image p)) (sm_of image p) (p + sm_bytes))

pub usage_stops : Stops usage_at fmmu_bytes
unfolding usage_at
usage_stops =
    sized_stops fmmu_bytes usage_at (λ image end p. pick (usage_admits (field image p fmmu_usage)) (one (usage_of (field image p fmmu_usage)) (p + fmmu_bytes)) bad) (λ image end p. refl) (λ image end p. pick_some (usage_admits (field image p fmmu_usage)) (usage_of (field image p fmmu_usage)) (p + fmmu_bytes))

pub ex_stops : Stops ex_at ex_bytes
unfolding ex_at
ex_stops = sized_stops ex_bytes ex_at (λ image end p. one (field image p ex_sync_m) (p + ex_bytes)) (λ image end p. refl) (λ image end p. one-some _ _)

pub pdo_stops : Stops pdo_at pdo_bytes
unfolding pdo_at
pdo_stops = sized_stops pdo_bytes pdo_at (λ image end p. pick (leb (pdo_end image p) end) (one (pdo_of image p) (pdo_end image p)) bad) (λ image end p. refl) (λ image end p. pick_some (leb (pdo_end image p) end) (pdo_of image p) (pdo_end image p))

-- ---- what a record reads

pub field_in : (s t : List ℕ) (end p : ℕ) → SameIn p end s t → (f : Field) → p + past f ≤ end → field s p f ≡ field t p f
field_in s t end p e (byte k) h = e.bytes (p + k) (omega arith) (omega arith)
field_in s t end p e (word k) h = rw (e.bytes (p + k) (omega arith) (omega arith), e.bytes (p + k + 1) (omega arith) (omega arith))
field_in s t end p e (long k) h =
    rw (
      e.bytes (p + k) (omega arith) (omega arith),
      e.bytes (p + k + 1) (omega arith) (omega arith),
      e.bytes (p + k + 2) (omega arith) (omega arith),
      e.bytes (p + k + 2 + 1) (omega arith) (omega arith),
    )

sm_same : (s t : List ℕ) (end p : ℕ) → SameIn p end s t → p + sm_bytes ≤ end → sm_of s p ≡ sm_of t p
unfolding sm_of
sm_same s t end p e h =
    rw (
      field_in s t end p e physical_start_address (omega arith),
      field_in s t end p e sm_length (omega arith),
      field_in s t end p e control_register (omega arith),
      field_in s t end p e enable_sync_m (omega arith),
      field_in s t end p e sync_m_type (omega arith),
    )

-- what a test lets through is the same, if it is where the test holds
same_if : {R : Type 0} (t : Bool) (a b : Item R) (else : Item R) → (t ≡ true → a ≡ b) → pick t a else ≡ pick t b else
same_if true a b else h = h refl
same_if false a b else h = refl

pub sm_local : Local sm_at
unfolding sm_at
sm_local s t end p e = same_if (leb (p + sm_bytes) end) _ _ none (λ h. rw (sm_same s t end p e (leb-true (p + sm_bytes) end h)))

pub usage_local : Local usage_at
unfolding usage_at
usage_local s t end p e = same_if (leb (p + fmmu_bytes) end) _ _ none (λ h. rw (field_in s t end p e fmmu_usage (omega (arith, leb-true (p + fmmu_bytes) end h))))

pub ex_local : Local ex_at
unfolding ex_at
ex_local s t end p e = same_if (leb (p + ex_bytes) end) _ _ none (λ h. rw (field_in s t end p e ex_sync_m (omega (arith, leb-true (p + ex_bytes) end h))))

entries-same : (s t : List ℕ) (end p : ℕ) → SameIn p end s t → p + pdo_bytes ≤ end → entries_of s p ≡ entries_of t p
unfolding entries_of
entries-same s t end p e h = field_in s t end p e n_entry (omega arith)

bits-same : (s t : List ℕ) (end p : ℕ) → SameIn p end s t → (n : ℕ) → p + pdo_bytes + entry_bytes * n ≤ end → sum_to (entry_bits s p) n ≡ sum_to (entry_bits t p) n
unfolding sum_to entry_bits
bits-same s t end p e zero h = refl
bits-same s t end p e (suc n) h =
    rw (bits-same s t end p e n (omega arith), e.bytes (p + pdo_bytes + entry_bytes * n + 5) (omega arith) (omega arith))

pdo_same : (s t : List ℕ) (end p : ℕ) → SameIn p end s t → p + pdo_bytes + entry_bytes * entries_of t p ≤ end → pdo_of s p ≡ pdo_of t p
unfolding pdo_of
pdo_same s t end p e h =
    rw (
      entries-same s t end p e (omega arith),
      bits-same s t end p e (entries_of t p) h,
      field_in s t end p e pdo_index (omega arith),
      field_in s t end p e pdo_sync_m (omega arith),
    )

pub pdo_local : Local pdo_at
unfolding pdo_at
pdo_local s t end p e =
    same_if (leb (p + pdo_bytes) end) _ _ none (λ h.
    rw (entries-same s t end p e (leb-true (p + pdo_bytes) end h)) (same_if (leb (pdo_end t p) end) _ _ bad (λ k. rw (pdo_same s t end p e (leb-true (pdo_end t p) end k)))))

-- ---- the sum of bit lengths

-- the first n entries, and one more
pub sum-none : (f : ℕ → ℕ) → sum_to f 0 ≡ 0
unfolding sum_to
sum-none f = refl

pub sum_more : (f : ℕ → ℕ) (n : ℕ) → sum_to f n + f n ≡ sum_to f (n + 1)
unfolding sum_to
sum_more f n = rw add-one

pub ruleset sums = (sum-none, sum_more)

-- it fits 16 bits: a PDO has at most 255 entries of at most 255 bits each
pub bits_fit : (image : List ℕ) → Bytes image → (p n : ℕ) → sum_to (entry_bits image p) n ≤ 255 * n
unfolding sum_to entry_bits Bytes
bits_fit image b p zero = omega arith
bits_fit image b p (suc n) = omega (arith, bits_fit image b p n, b (p + 8 + 8 * n + 5))

-- so does that of a PDO which stands at a position
pub pdo_fits : (image : List ℕ) → Bytes image → (end p : ℕ) (r : Pdo) (q : ℕ) → one r q ≡ pdo_at image end p → r.bit_len < bit_len_below
unfolding pdo_at pdo_of entries_of Bytes
pdo_fits image b end p r q e =
    let f = ends_in (leb (p + pdo_bytes) end) (leb (pdo_end image p) end) r (pdo_of image p) q (pdo_end image p) e in
    rw f.3 (omega (arith, bits_fit image b p (byte_at image (p + 2)), b (p + 2)))
