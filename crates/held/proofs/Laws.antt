-- What the core says, taken apart: each shape of it, as the answer alone and the position after it.
use Prim.Native.Nat.{ℕ}
use mathlib.Core.Path.{◌≡◌, ap}
use mathlib.Core.List.{[], ◌∷◌}
use Rattle.refusal.specs.Said.{Said, gives, said_of}
use Rattle.refusal.specs.declared.Refusal.{Refusal}
use Rattle.held.specs.Range.{alone, stands, closed_end, ends}

-- an answer and a position are what the core says, s, of a range that stood at pos
abbrev Apart : Said → ℕ → ℕ → Said → Type 0
Apart answer after pos s = (answer ≡ alone s) × (after ≡ stands pos s)

-- a range alone
pub range_apart : (p e pos : ℕ) (s : Said) → gives (p ∷ e ∷ []) ≡ s → Apart (gives []) p pos s
unfolding alone stands
range_apart p e pos s h = (ap alone h, ap (stands pos) h)

pub range_ends : (p e : ℕ) (s : Said) → gives (p ∷ e ∷ []) ≡ s → e ≡ ends s
unfolding ends
range_ends p e s h = ap ends h

-- a value, and the range after it
pub value_apart : (n p e pos : ℕ) (s : Said) → gives (n ∷ p ∷ e ∷ []) ≡ s → Apart (gives (n ∷ [])) p pos s
unfolding alone stands
value_apart n p e pos s h = (ap alone h, ap (stands pos) h)

-- a refusal says no range
pub refusal_apart : (x : Refusal) (pos : ℕ) (s : Said) → said_of x ≡ s → Apart (said_of x) pos pos s
unfolding alone stands
refusal_apart x pos s h = (ap alone h, ap (stands pos) h)

pub refusal_ends : (x : Refusal) (s : Said) → said_of x ≡ s → closed_end ≡ ends s
unfolding ends
refusal_ends x s h = ap ends h
