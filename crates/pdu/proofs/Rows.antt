-- Rows of PDUs: their lengths, and others behind them. Each law is one induction over the row.
use mathlib.Core.Path.{◌≡◌, refl, ap, sym, ◌∙◌}
use Prim.Native.Nat.{ℕ, ◌+◌, ◌*◌, ◌≤◌}
use native.Mathlib.Omega.{arith}
use mathlib.Core.List.{List, [], ◌∷◌, ◌++◌, append_assoc, append-nil}
use lib.ListN.{length, length-append}
use Rattle.pdu.specs.Pdu.{Pdu, pdu_bytes, follows, layout, chained, last_at, AllFit}

-- ---- lengths

pub pdu_length : (p : Pdu) (m : ℕ) → length (pdu_bytes p m) ≡ 12 + length p.payload
pdu_length p m = simp length-append (omega arith)

pub layout-none : length (layout []) ≡ 0
unfolding layout
layout-none = refl

pub layout-one : (p : Pdu) → layout (p ∷ []) ≡ pdu_bytes p 0
unfolding layout
layout-one p = append-nil (pdu_bytes p 0)

pub layout-length : (p : Pdu) (ps : List Pdu) → length (layout (p ∷ ps)) ≡ 12 + length p.payload + length (layout ps)
unfolding layout
layout-length p ps = omega (arith, length-append (pdu_bytes p (follows ps)) (layout ps), pdu_length p (follows ps))

pub chained-length : (ps : List Pdu) → length (chained ps) ≡ length (layout ps)
unfolding chained
chained-length [] = sym layout-none
chained-length (p ∷ ps) =
    omega (arith, length-append (pdu_bytes p 1) (chained ps), pdu_length p 1, layout-length p ps, chained-length ps)

pub append-length : (ps qs : List Pdu) → length (layout (ps ++ qs)) ≡ length (layout ps) + length (layout qs)
append-length [] qs = omega (arith, layout-none)
append-length (p ∷ ps) qs = omega (arith, layout-length p (ps ++ qs), layout-length p ps, append-length ps qs)

-- each takes 12 bytes at least, and so does the last
pub counted : (ps : List Pdu) → 12 * length ps ≤ length (layout ps)
counted [] = omega arith
counted (p ∷ ps) = omega (arith, counted ps, layout-length p ps)

pub last_in : (ps : List Pdu) (p : Pdu) → last_at (p ∷ ps) + 12 ≤ length (layout (p ∷ ps))
unfolding last_at
last_in [] p = omega (arith, layout-length p [])
last_in (q ∷ ps) p = omega (arith, last_in ps q, layout-length p (q ∷ ps))

pub follows-most : (ps : List Pdu) → follows ps ≤ 1
follows-most [] = omega arith
follows-most (p ∷ ps) = omega arith

-- ---- others behind them

pub fit_append : (ps qs : List Pdu) → AllFit ps → AllFit qs → AllFit (ps ++ qs)
unfolding AllFit
fit_append [] qs f g = g
fit_append (p ∷ ps) qs f g = (f.0, fit_append ps qs f.1 g)

-- one more: more-follows stands in all before it
pub layout_snoc : (ps : List Pdu) (q : Pdu) → layout (ps ++ (q ∷ [])) ≡ chained ps ++ pdu_bytes q 0
unfolding layout chained
layout_snoc [] q = append-nil (pdu_bytes q 0)
layout_snoc (p ∷ []) q = ap (λ (l : List ℕ). pdu_bytes p 1 ++ l) (layout_snoc [] q) ∙ sym (append_assoc (pdu_bytes p 1) [] (pdu_bytes q 0))
layout_snoc (p ∷ r ∷ ps) q =
    ap (λ (l : List ℕ). pdu_bytes p 1 ++ l) (layout_snoc (r ∷ ps) q) ∙ sym (append_assoc (pdu_bytes p 1) (chained (r ∷ ps)) (pdu_bytes q 0))

pub last_snoc : (ps : List Pdu) (q : Pdu) → last_at (ps ++ (q ∷ [])) ≡ length (layout ps)
unfolding last_at
last_snoc [] q = sym layout-none
last_snoc (p ∷ []) q = omega (arith, layout-none, layout-length p [])
last_snoc (p ∷ r ∷ ps) q = omega (arith, last_snoc (r ∷ ps) q, layout-length p (r ∷ ps))
