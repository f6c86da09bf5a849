-- RULES, bench, the cases of spreading, said of permitted cuttings: by computing the greedy plan.
use mathlib.Core.Path.{◌≡◌, refl}
use native.Mathlib.Omega.{arith}
use mathlib.Core.List.{List}
use Rattle.cuts.specs.Cut.{Piece, Permitted, Earliest, last_area, free_of}
use Rattle.cuts.specs.Greedy.{greedy_from, over_from, over}
use Rattle.cuts.proofs.Greedy.{greedy-earliest, over_none}

-- two areas of 100, empty: 88 bytes end in area 1
pub bench_88 : Earliest (free_of 100 100) 2 88 1
unfolding greedy_from over_from last_area
bench_88 = greedy-earliest (free_of 100 100) 2 88 refl

-- 89 in area 2
pub bench_89 : Earliest (free_of 100 100) 2 89 2
unfolding greedy_from over_from last_area
bench_89 = greedy-earliest (free_of 100 100) 2 89 refl

-- 176 in area 2
pub bench_176 : Earliest (free_of 100 100) 2 176 2
unfolding greedy_from over_from last_area
bench_176 = greedy-earliest (free_of 100 100) 2 176 refl

-- 177 have no permitted cutting
pub bench_177 : (ps : List Piece) → Permitted (free_of 100 100) 2 177 ps → ⊥
unfolding over_from
bench_177 = over_none (free_of 100 100) 2 177 (let e : over (free_of 100 100) 2 177 ≡ 1 = refl in omega arith)

-- with 90 bytes of the first used, 1 byte ends in area 2
pub bench_90_used : Earliest (free_of 10 100) 2 1 2
unfolding greedy_from over_from last_area
bench_90_used = greedy-earliest (free_of 10 100) 2 1 refl
