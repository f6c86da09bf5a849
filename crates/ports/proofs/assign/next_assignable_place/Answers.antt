-- The places behind the entry's, round, are those of the rule, and the first that is open is found.
use Rattle.std.proofs.Common.{◌+◌, ◌%◌, ◌∙◌, ℕ, refl, rules, tests}
use Rattle.std.proofs.lemmas.Iterator.{YieldsList-from_range, YieldsList-from_map}
use Rattle.std.proofs.lemmas.Iterator.Adapters.{option_map_id}
use Rattle.std.proofs.lemmas.Iterator.Consumers.{YieldsList-at}
use Rattle.std.proofs.lemmas.Iterator.Search.{find_from_yields_List}
use Rattle.ports.specs.Ports.{port_count}
use Rattle.ports.specs.Assigning.{open_at, others_from}
use Rattle.ports.proofs.Listed.{find_first}
use Rattle.ports.proofs.Linking.{assignable_from}
use Rattle.ports.proofs.assign.next_assignable_place.Goals as goal

pub returns-clause-place : goal.returns-clause-place
returns-clause-place c =
    let e = rw option_map_id at (find_from_yields_List (open_at c.args.p) _ _ c.find.result c.find.ensures.ran
    (YieldsList-from_map _ (λ (i : ℕ). (c.args.e + i) % port_count) (YieldsList-at c.map.ensures.source (YieldsList-from_range 1 port_count 3 refl refl)) c.map.ensures.closure (λ x r q k. search (rules, tests)))
    (λ x b q k. search (rules, tests))) in
    rw e (find_first (open_at c.args.p) (others_from c.args.e)) ∙ assignable_from c.args.p c.args.e c.requires.0
