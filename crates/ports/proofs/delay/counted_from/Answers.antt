-- Each port has the time elapsed there.
use Rattle.std.proofs.Common.{List, ap, of_calls}
use Rattle.ports.specs.declared.Port.{Port}
use Rattle.ports.specs.declared.Ports.{Ports}
use Rattle.ports.specs.Ports.{port_count, no_port, timed, times_set}
use Rattle.ports.specs.Delays.{elapsed, counted_from}
use Rattle.ports.proofs.Made.{mapped_of}
use Rattle.ports.proofs.delay.counted_from.Goals as goal

pub returns : goal.returns
unfolding counted_from times_set
returns c =
    ap (λ (l : List Port). let r : Ports = record { 0 = l } in r)
    (mapped_of _ (λ (q : Port). timed q (elapsed c.args.e q.dc_receive_time)) (λ q y f h. (search of_calls, search of_calls)) c.args.p.0 c.map.result port_count c.map.ensures.items no_port no_port)
