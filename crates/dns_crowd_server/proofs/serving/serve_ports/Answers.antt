-- Each port had a worker with a pass, and the hub has it back.
use Rattle.std.proofs.Common.{◌≡◌, ◌+◌, List, arith, refl, subst, sym}
use Rattle.std.specs.List.{AllByRecursion}
use Rattle.std.proofs.lemmas.List.Elements.{recursion_from_All}
use Rattle.dns_edges.specs.Edges.{around}
use Rattle.dns_ports.specs.Ports.{IsFreshSocket}
use Rattle.dns_ticket_lock.specs.Passes.{ArePasses}
use Rattle.dns_server.specs.Servers.{IsOf, ServedSocket, their_passes, their_ports}
use Rattle.dns_server.proofs.AllPasses.{as_many}
use Rattle.dns_crowd_server.specs.Crews.{ServedCrowd}
use Rattle.dns_crowd_server.specs.Hubs.{IsFreshCrowd, crowds_of, sockets_of}
use Rattle.dns_crowd_server.specs.Serving.{Crew, passes_of}
use Rattle.dns_crowd_server.proofs.AllPasses.{both_all, free_count, of_book, port_count, still_all}
use Rattle.dns_crowd_server.proofs.PortsServed.{crew_same, ports_served, served_failed}
use Rattle.dns_crowd_server.proofs.Taken.{taken}
use Rattle.dns_crowd_server.proofs.serving.serve_ports.Goals as goal

pub take_on-sockets-requires-clause-passes : goal.take_on-sockets-requires-clause-passes
take_on-sockets-requires-clause-passes g c =
    let seats : c.args.opened.shared.terms.seats ≡ sockets_of c.args.places.now + crowds_of c.args.places.now = c.requires.seats in
    let many = c.requires.passes.many in
    let count = c.requires.sockets in
    omega (arith, seats, many, count)

pub take_on-crowds-requires-clause-passes : goal.take_on-crowds-requires-clause-passes
take_on-crowds-requires-clause-passes g c =
    let seats : c.args.opened.shared.terms.seats ≡ sockets_of c.args.places.now + crowds_of c.args.places.now = c.requires.seats in
    let many = c.requires.passes.many in
    let sockets = c.requires.sockets in
    let crowds = c.requires.crowds in
    let taken = port_count c.take_on-sockets.result.items c.args.opened.sockets.items c.take_on-sockets.ensures.ports in
    let left = free_count c.take_on-sockets.result.items c.args.opened.passes.items c.take_on-sockets.new.free.items c.take_on-sockets.ensures.passes in
    omega (arith, seats, many, sockets, crowds, taken, left)

pub serve_workers-answer-requires-clause-sockets : goal.serve_workers-answer-requires-clause-sockets
serve_workers-answer-requires-clause-sockets g c κs within =
    let xs = c.take_on-sockets.result.items in
    let left = c.take_on-sockets.new.free.items in
    (both_all (IsOf c.args.opened.shared) (their_passes xs) left (subst (AllByRecursion (IsOf c.args.opened.shared)) c.take_on-sockets.ensures.passes (of_book c.args.opened.shared c.args.opened.passes.items c.requires.passes))).0

pub serve_workers-answer-requires-clause-crowds : goal.serve_workers-answer-requires-clause-crowds
serve_workers-answer-requires-clause-crowds g c κs within =
    let xs = c.take_on-sockets.result.items in
    let ys = c.take_on-crowds.result.items in
    let left = c.take_on-sockets.new.free.items in
    let rest = c.take_on-crowds.new.free.items in
    let others = (both_all (IsOf c.args.opened.shared) (their_passes xs) left (subst (AllByRecursion (IsOf c.args.opened.shared)) c.take_on-sockets.ensures.passes (of_book c.args.opened.shared c.args.opened.passes.items c.requires.passes))).1 in
    (both_all (IsOf c.args.opened.shared) (their_passes ys) rest (subst (AllByRecursion (IsOf c.args.opened.shared)) c.take_on-crowds.ensures.passes others)).0

pub hand_back-book-requires-clause-free : goal.hand_back-book-requires-clause-free
hand_back-book-requires-clause-free g c =
    (taken c.args.opened.shared.terms.seats (sockets_of c.args.places.now) (crowds_of c.args.places.now)
    c.args.opened.passes.items c.take_on-sockets.new.free.items c.take_on-crowds.new.free.items c.take_on-sockets.result.items c.take_on-crowds.result.items c.args.opened.sockets.items c.args.opened.crowds.items
    c.requires.seats c.requires.passes.many c.requires.sockets c.requires.crowds
    c.take_on-sockets.ensures.ports c.take_on-crowds.ensures.ports c.take_on-sockets.ensures.passes c.take_on-crowds.ensures.passes).none

pub hand_back-book-requires-clause-room : goal.hand_back-book-requires-clause-room
hand_back-book-requires-clause-room g c =
    let t = taken c.args.opened.shared.terms.seats (sockets_of c.args.places.now) (crowds_of c.args.places.now)
    c.args.opened.passes.items c.take_on-sockets.new.free.items c.take_on-crowds.new.free.items c.take_on-sockets.result.items c.take_on-crowds.result.items c.args.opened.sockets.items c.args.opened.crowds.items
    c.requires.seats c.requires.passes.many c.requires.sockets c.requires.crowds
    c.take_on-sockets.ensures.ports c.take_on-crowds.ensures.ports c.take_on-sockets.ensures.passes c.take_on-crowds.ensures.passes in
    let seats : c.args.opened.shared.terms.seats ≡ sockets_of c.args.places.now + crowds_of c.args.places.now = c.requires.seats in
    let many = c.requires.passes.many in
    let firsts = t.first_count in
    let seconds = t.second_count in
    let one = as_many (ServedSocket g.K.Keeper.keeper g.H.Udp.UdpPort.told c.args.access.now) (λ a b h. h.same) c.take_on-sockets.result.items c.serve_workers-answer.new.sockets.items c.serve_workers-answer.ensures.sockets in
    let two = as_many (ServedCrowd g.K.Keeper.keeper g.H.Connections.Crowd.told c.args.access.now) (λ a b h. h.same) c.take_on-crowds.result.items c.serve_workers-answer.new.crowds.items c.serve_workers-answer.ensures.crowds in
    omega (arith, seats, many, firsts, seconds, one, two, c.take_on-sockets.ensures.capacity, c.take_on-crowds.ensures.capacity, c.args.opened.passes.ok)

pub hand_back-book-requires-clause-all : goal.hand_back-book-requires-clause-all
hand_back-book-requires-clause-all g c =
    let before : Crew g.row.H-Udp.Denot g.row.H-Connections.Denot = record { sockets = c.take_on-sockets.result.items; crowds = c.take_on-crowds.result.items } in
    let after : Crew g.row.H-Udp.Denot g.row.H-Connections.Denot = record { sockets = c.serve_workers-answer.new.sockets.items; crowds = c.serve_workers-answer.new.crowds.items } in
    let t = taken c.args.opened.shared.terms.seats (sockets_of c.args.places.now) (crowds_of c.args.places.now)
    c.args.opened.passes.items c.take_on-sockets.new.free.items c.take_on-crowds.new.free.items c.take_on-sockets.result.items c.take_on-crowds.result.items c.args.opened.sockets.items c.args.opened.crowds.items
    c.requires.seats c.requires.passes.many c.requires.sockets c.requires.crowds
    c.take_on-sockets.ensures.ports c.take_on-crowds.ensures.ports c.take_on-sockets.ensures.passes c.take_on-crowds.ensures.passes in
    still_all c.args.opened.shared (passes_of before) (passes_of after) (subst (ArePasses c.args.opened.shared) t.all c.requires.passes)
    (crew_same g.K.Keeper.keeper g.H.Udp.UdpPort.told g.H.Connections.Crowd.told c.args.access.now before after c.serve_workers-answer.ensures.sockets c.serve_workers-answer.ensures.crowds)

pub hand_back-book-requires-clause-socket_room : goal.hand_back-book-requires-clause-socket_room
hand_back-book-requires-clause-socket_room g c =
    let one = as_many (ServedSocket g.K.Keeper.keeper g.H.Udp.UdpPort.told c.args.access.now) (λ a b h. h.same) c.take_on-sockets.result.items c.serve_workers-answer.new.sockets.items c.serve_workers-answer.ensures.sockets in
    let count = port_count c.take_on-sockets.result.items c.args.opened.sockets.items c.take_on-sockets.ensures.ports in
    let is = c.requires.sockets in
    let room = c.requires.socket_room.1 in
    omega (arith, one, count, is, room)

pub hand_back-book-requires-clause-crowd_room : goal.hand_back-book-requires-clause-crowd_room
hand_back-book-requires-clause-crowd_room g c =
    let one = as_many (ServedCrowd g.K.Keeper.keeper g.H.Connections.Crowd.told c.args.access.now) (λ a b h. h.same) c.take_on-crowds.result.items c.serve_workers-answer.new.crowds.items c.serve_workers-answer.ensures.crowds in
    let count = port_count c.take_on-crowds.result.items c.args.opened.crowds.items c.take_on-crowds.ensures.ports in
    let is = c.requires.crowds in
    let room = c.requires.crowd_room.1 in
    omega (arith, one, count, is, room)

pub hand_back-book-requires-clause-lent_sockets : goal.hand_back-book-requires-clause-lent_sockets
hand_back-book-requires-clause-lent_sockets g c =
    let one = as_many (ServedSocket g.K.Keeper.keeper g.H.Udp.UdpPort.told c.args.access.now) (λ a b h. h.same) c.take_on-sockets.result.items c.serve_workers-answer.new.sockets.items c.serve_workers-answer.ensures.sockets in
    let count = port_count c.take_on-sockets.result.items c.args.opened.sockets.items c.take_on-sockets.ensures.ports in
    let is = c.requires.sockets in
    let lent = c.requires.lent_sockets in
    omega (arith, one, count, is, lent)

pub hand_back-book-requires-clause-lent_crowds : goal.hand_back-book-requires-clause-lent_crowds
hand_back-book-requires-clause-lent_crowds g c =
    let one = as_many (ServedCrowd g.K.Keeper.keeper g.H.Connections.Crowd.told c.args.access.now) (λ a b h. h.same) c.take_on-crowds.result.items c.serve_workers-answer.new.crowds.items c.serve_workers-answer.ensures.crowds in
    let count = port_count c.take_on-crowds.result.items c.args.opened.crowds.items c.take_on-crowds.ensures.ports in
    let is = c.requires.crowds in
    let lent = c.requires.lent_crowds in
    omega (arith, one, count, is, lent)

pub returns-clause-served : goal.returns-clause-served
returns-clause-served g c =
    let before : Crew g.row.H-Udp.Denot g.row.H-Connections.Denot = record { sockets = c.take_on-sockets.result.items; crowds = c.take_on-crowds.result.items } in
    let after : Crew g.row.H-Udp.Denot g.row.H-Connections.Denot = record { sockets = c.serve_workers-answer.new.sockets.items; crowds = c.serve_workers-answer.new.crowds.items } in
    let t = taken c.args.opened.shared.terms.seats (sockets_of c.args.places.now) (crowds_of c.args.places.now)
    c.args.opened.passes.items c.take_on-sockets.new.free.items c.take_on-crowds.new.free.items c.take_on-sockets.result.items c.take_on-crowds.result.items c.args.opened.sockets.items c.args.opened.crowds.items
    c.requires.seats c.requires.passes.many c.requires.sockets c.requires.crowds
    c.take_on-sockets.ensures.ports c.take_on-crowds.ensures.ports c.take_on-sockets.ensures.passes c.take_on-crowds.ensures.passes in
    let back = c.hand_back-book.ensures.told in
    let ended = c.serve_workers-answer.ensures.ended in
    let FreshSocket : g.row.H-Udp.Denot → Type 0 = λ one. IsFreshSocket (g.H.Udp.UdpPort.told one) in
    let FreshCrowd : g.row.H-Connections.Denot → Type 0 = λ one. IsFreshCrowd (g.H.Connections.Crowd.told one) in
    ports_served g.K.Keeper.keeper g.H.Udp.UdpPort.told g.H.Connections.Crowd.told c.args.access.now
    (around g.H.CrowdHub.told c.args.hub.now c.hand_back-book.new.hub) (around g.E.Source.source.told c.args.until.now c.serve_workers-answer.new.until)
    c.args.places.now c.args.opened.shared c.hand_back-book.result c.serve_workers-answer.result before after
    (subst (ArePasses c.args.opened.shared) t.all c.requires.passes) t.first_count t.second_count
    (subst (λ (l : List g.row.H-Udp.Denot). AllByRecursion FreshSocket l) (sym c.take_on-sockets.ensures.ports) (recursion_from_All FreshSocket c.args.opened.sockets.items c.requires.fresh_sockets))
    (subst (λ (l : List g.row.H-Connections.Denot). AllByRecursion FreshCrowd l) (sym c.take_on-crowds.ensures.ports) (recursion_from_All FreshCrowd c.args.opened.crowds.items c.requires.fresh_crowds))
    c.serve_workers-answer.ensures.sockets c.serve_workers-answer.ensures.crowds back.sockets_back back.crowds_back back.cause
    ended.reading ended.ended ended.answer c.hand_back-book.ensures.closed

pub returns-clause-failed : goal.returns-clause-failed
returns-clause-failed g c =
    served_failed g.K.Keeper.keeper g.H.Udp.UdpPort.told g.H.Connections.Crowd.told c.args.access.now
    (around g.H.CrowdHub.told c.args.hub.now c.hand_back-book.new.hub) (around g.E.Source.source.told c.args.until.now c.serve_workers-answer.new.until)
    c.args.places.now c.args.opened.shared.terms c.hand_back-book.result c.serve_workers-answer.result (returns-clause-served g c)

pub returns-clause-lent_sockets : goal.returns-clause-lent_sockets
returns-clause-lent_sockets g c =
    let one = as_many (ServedSocket g.K.Keeper.keeper g.H.Udp.UdpPort.told c.args.access.now) (λ a b h. h.same) c.take_on-sockets.result.items c.serve_workers-answer.new.sockets.items c.serve_workers-answer.ensures.sockets in
    let count = port_count c.take_on-sockets.result.items c.args.opened.sockets.items c.take_on-sockets.ensures.ports in
    let theirs = port_count c.serve_workers-answer.new.sockets.items (their_ports c.serve_workers-answer.new.sockets.items) refl in
    let is = c.requires.sockets in
    let lent = c.hand_back-book.ensures.told.sockets_lent in
    omega (arith, one, count, theirs, is, lent)

pub returns-clause-lent_crowds : goal.returns-clause-lent_crowds
returns-clause-lent_crowds g c =
    let one = as_many (ServedCrowd g.K.Keeper.keeper g.H.Connections.Crowd.told c.args.access.now) (λ a b h. h.same) c.take_on-crowds.result.items c.serve_workers-answer.new.crowds.items c.serve_workers-answer.ensures.crowds in
    let count = port_count c.take_on-crowds.result.items c.args.opened.crowds.items c.take_on-crowds.ensures.ports in
    let theirs = port_count c.serve_workers-answer.new.crowds.items (their_ports c.serve_workers-answer.new.crowds.items) refl in
    let is = c.requires.crowds in
    let lent = c.hand_back-book.ensures.told.crowds_lent in
    omega (arith, one, count, theirs, is, lent)
