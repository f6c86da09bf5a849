-- Each port is made at its place, active only within.
use Rattle.std.proofs.Common.{ℕ, List, ap, of_calls}
use Rattle.ports.specs.declared.Port.{Port}
use Rattle.ports.specs.declared.Ports.{Ports}
use Rattle.ports.specs.Ports.{port_count, no_port, port_at, only_if, only}
use Rattle.ports.specs.Delays.{between}
use Rattle.ports.proofs.Made.{made_of}
use Rattle.ports.proofs.delay.narrowed.Goals as goal

pub returns : goal.returns
unfolding only
returns c =
    ap (λ (l : List Port). let r : Ports = record { 0 = l } in r)
    (made_of _ (λ (k : ℕ). only_if (port_at c.args.p k) (between c.args.from c.args.to k)) (λ k y q h. (search of_calls, search of_calls)) c.from_fn.result port_count c.from_fn.ensures.items no_port)
