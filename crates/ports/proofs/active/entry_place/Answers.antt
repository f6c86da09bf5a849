-- The items are the active ports with their places, and the one that is found of them is the rule's.
use Rattle.std.proofs.Common.{◌≡◌, ℕ, rules, tests}
use Rattle.std.specs.Option.{option_map}
use Rattle.std.proofs.lemmas.Iterator.{YieldsList-from_slice}
use Rattle.std.proofs.lemmas.Iterator.Consumers.{YieldsList-from_enumerate, YieldsList-from_filter, YieldsList-at}
use Rattle.ports.specs.declared.Port.{Port}
use Rattle.ports.proofs.Least.{least_from_yields_List, entry_found}
use Rattle.ports.proofs.active.entry_place.Goals as goal

pub returns-clause-place : goal.returns-clause-place
returns-clause-place c =
    let least = least_from_yields_List _ _ _ (λ (r : ℕ × Port). r.1.dc_receive_time) (λ x k q h. search (rules, tests)) c.filter.result c.min_by_key.result c.min_by_key.ensures.ran
    (YieldsList-from_filter _ (λ (r : ℕ × Port). r.1.active)
    (YieldsList-at c.filter.ensures.source (YieldsList-from_enumerate (YieldsList-at c.enumerate.ensures.source (YieldsList-from_slice c.args.p.0 (cc))) c.enumerate.ensures.count))
    c.filter.ensures.closure (λ x r q k. search (rules, tests))) in
    let place : c.map.result ≡ option_map (λ x. x.0) c.min_by_key.result = search rules in
    rw place (entry_found c.args.p (λ x. (x.0, x.1.now)) c.min_by_key.result (search rules) least)
