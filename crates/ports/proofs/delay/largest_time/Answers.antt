-- The ports that pass the filter are those at the active places.
use Rattle.std.proofs.Common.{◌≡◌, map, max, rules, tests}
use Rattle.std.specs.List.{filter, reduce}
use Rattle.std.proofs.lemmas.Iterator.{YieldsList-from_slice, YieldsList-from_map}
use Rattle.std.proofs.lemmas.Iterator.Adapters.{option_map_id}
use Rattle.std.proofs.lemmas.Iterator.Consumers.{max_from_yields_List, YieldsList-from_filter, YieldsList-at}
use Rattle.ports.specs.declared.Port.{Port}
use Rattle.ports.proofs.Listed.{largest_listed}
use Rattle.ports.proofs.delay.largest_time.Goals as goal

pub returns : goal.returns
returns c =
    let e : c.max.result ≡ reduce max (map (λ (q : Port). q.dc_receive_time) (filter (λ (q : Port). q.active) c.args.p.0)) =
    rw option_map_id at (max_from_yields_List c.map.result _ c.max.ensures.ran
    (YieldsList-from_map _ (λ (q : Port). q.dc_receive_time)
    (YieldsList-at c.map.ensures.source
    (YieldsList-from_filter _ (λ (q : Port). q.active) (YieldsList-at c.filter.ensures.source (YieldsList-from_slice c.args.p.0 (cc))) c.filter.ensures.closure (λ x r q k. search (rules, tests))))
    c.map.ensures.closure (λ x r q k. search (rules, tests)))) in
    rw (c.unwrap_or.ensures, e) (largest_listed c.args.p (search rules))
