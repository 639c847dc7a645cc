-- A listener that is not registered is taken back, and it has no fault.
use Rattle.std.proofs.Common.{ap, ◌∙◌}
use Rattle.dns_listeners.proofs.Crews.{IsCalm-closed}
use Rattle.dns_listeners.proofs.ports.register_listener.Goals as goal

pub returns-then-is_refused-clause-calm : goal.returns-then-is_refused-clause-calm
returns-then-is_refused-clause-calm g c = IsCalm-closed _ _ _ _ c.requires.fresh.no_fault c.close_tcp.ensures.told

pub returns-in-Some-clause-calm : goal.returns-in-Some-clause-calm
returns-in-Some-clause-calm g c =
    let given = ap (λ (port : g.row.H-Tcp.Denot). (g.H.Tcp.TcpPort.told port).faults) c.in-Some.ensures.back.0 in
    IsCalm-closed _ _ _ _ (given ∙ c.requires.fresh.no_fault) c.close_tcp-in-Some.ensures.told
