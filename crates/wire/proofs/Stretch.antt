-- Laws of a stretch of bytes read out of a list, and of lists laid one behind another: each is one step more of a row, by the laws of spans and overlays.
use Prim.Native.Nat.{ℕ, zero, suc, ◌+◌, ◌≤◌, ◌<◌}
use native.Mathlib.Nat.{not-suc-le-zero, le_of_suc-le-suc, add-zero}
use native.Mathlib.Numerals.{add-one}
use native.Mathlib.Omega.{arith}
use mathlib.Core.Path.{◌≡◌, sym, ap, ◌∙◌}
use mathlib.Core.List.{List, [], ◌∷◌, ◌++◌, append_assoc}
use lib.ListN.{length, set, drop, length-append}
use lib.Seq.{set_split, take_at, drop_at, drop-drop}
use Rattle.wire.specs.Bytes.{byte_at, span, filled, overlay, laid}
use Rattle.wire.proofs.Laws.{length-span, span-add, length-overlay, overlay-next, overlay-none, laid-whole}

-- ---- a stretch of bytes

-- a byte of a stretch is the list's
pub byte-span : (s : List ℕ) (i n k : ℕ) (rest : List ℕ) → k < n → byte_at (span s i n ++ rest) k ≡ byte_at s (i + k)
unfolding byte_at span
byte-span s i zero k rest h = absurd (not-suc-le-zero h)
byte-span s i (suc n) zero rest h = rw (add-zero i)
byte-span s i (suc n) (suc k) rest h =
    byte-span s (suc i) n k rest (le_of_suc-le-suc h) ∙ ap (byte_at s) (let z : suc i + k ≡ i + suc k = omega arith in z)

-- a buffer filled by n bytes, and the next m laid behind them
pub filled_next : (s : List ℕ) (i n m : ℕ) (buf : List ℕ) → overlay (filled s i n buf) n (span s (i + n) m) ≡ filled s i (n + m) buf
unfolding filled overlay
filled_next s i n m buf =
    rw (
      length-span s (i + n) m,
      take_at (span s i n) (drop n buf) n (length-span s i n),
      ← drop-drop m n (span s i n ++ drop n buf),
      drop_at (span s i n) (drop n buf) n (length-span s i n),
      drop-drop,
      span-add,
    )

-- ---- lists laid one behind another

-- one byte stored is one byte laid
pub overlay-one : (xs : List ℕ) (k b : ℕ) → k < length xs → set xs k b ≡ overlay xs k (b ∷ [])
unfolding overlay
overlay-one xs k b h = rw (set_split xs k b h, add-one, append_assoc)

-- now is xs with ys laid over it from the place from on; the next list goes to at
pub record Front (xs : List ℕ) (from : ℕ) (ys now : List ℕ) (at : ℕ) : Type 0 where
  pub so_far : now ≡ overlay xs from ys
  pub next : at ≡ from + length ys

pub front-start : (xs : List ℕ) (from : ℕ) → Front xs from [] xs from
front-start xs from = record { so_far = sym (overlay-none xs from); next = sym (add-zero from) }

pub front-next : {xs : List ℕ} {from : ℕ} {ys now : List ℕ} {at : ℕ} (zs now' : List ℕ) → Front xs from ys now at → from + length (ys ++ zs) ≤ length xs
    → now' ≡ laid now at zs → Front xs from (ys ++ zs) now' (at + length zs)
front-next {xs} {from} {ys} {now} {at} zs now' f h e =
    let n : from + (length ys + length zs) ≤ length xs = rw length-append at h in
    let k : from + length ys ≤ length xs = omega arith in
    let m : from + length ys + length zs ≤ length (overlay xs from ys) = rw (length-overlay xs from ys k) (omega arith) in
    record {
      so_far = e ∙ rw (f.so_far, f.next) (laid-whole (overlay xs from ys) (from + length ys) zs m ∙ overlay-next xs from ys zs k);
      next = rw (f.next, length-append) (omega arith);
    }
