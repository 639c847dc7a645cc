-- How serving a book ends.
use Rattle.std.proofs.Common.{refl}
use Rattle.dns_edges.specs.Edges.{around}
use Rattle.dns_crowd_server.proofs.AllPasses.{first_all}
use Rattle.dns_crowd_server.proofs.BookServed.{book_served, book_unopened}
use Rattle.dns_crowd_server.proofs.serving.serve_book.Goals as goal

pub close-requires : goal.close-requires
close-requires g c = record { all = first_all c.in-Ok-new.shared.0 c.in-Ok-new.shared.1.items c.in-Ok-new.ensures.passes }

pub returns-in-Err-open-clause-ends : goal.returns-in-Err-open-clause-ends
returns-in-Err-open-clause-ends g c =
    book_unopened g.K.Keeper.keeper g.H.Udp.UdpPort.told g.H.Connections.Crowd.told c.args.access.now (g.H.CrowdHub.told c.args.hub.now) (g.H.CrowdHub.told c.open.new.self)
    (around g.E.Source.source.told c.args.until.now c.args.until.now) c.args.places.now c.args.book c.close.result c.in-Ok-new.shared.0 c.in-Ok-new.shared.1.items c.seats.result c.in-Err-open.fault
    refl c.in-Ok-new.ensures.terms c.seats.ensures c.in-Ok-new.ensures.passes c.in-Err-open.ensures.told c.close.ensures

pub returns-clause-ends : goal.returns-clause-ends
returns-clause-ends g c =
    book_served g.K.Keeper.keeper g.H.Udp.UdpPort.told g.H.Connections.Crowd.told c.args.access.now (g.H.CrowdHub.told c.args.hub.now) (g.H.CrowdHub.told c.open.new.self)
    (g.H.CrowdHub.told c.serve_ports.new.hub) (around g.E.Source.source.told c.args.until.now c.serve_ports.new.until) c.args.places.now c.args.book c.serve_ports.result.book
    c.in-Ok-new.shared.0.terms c.seats.result c.in-Ok-open.ports c.serve_ports.result.answer
    c.in-Ok-new.ensures.terms c.seats.ensures c.in-Ok-open.ensures.told c.serve_ports.ensures.unopened
    c.serve_ports.ensures.none_made c.serve_ports.ensures.none_failed c.serve_ports.ensures.served
