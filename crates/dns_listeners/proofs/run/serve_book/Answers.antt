use Rattle.std.proofs.Common.{refl, sym, ap, ◌∙◌}
use Rattle.dns_book.specs.Book.{SeenOf}
use Rattle.dns_listeners.specs.ServingParts.{unshared, closed}
use Rattle.dns_listeners.proofs.Served.{new_server, serves_book, leaves_book}
use Rattle.dns_listeners.proofs.run.serve_book.Goals as goal

pub serve_ports-outcome-requires-clause-manned : goal.serve_ports-outcome-requires-clause-manned
serve_ports-outcome-requires-clause-manned g c κs within =
    new_server g.H.Udp.UdpPort.told g.H.Tcp.TcpPort.told c.args.service.listening.limit c.in-Ok.server c.in-Ok.ensures.passes c.in-Ok.ensures.empty.0 c.in-Ok.ensures.empty.1

pub returns-in-Err-clause-err : goal.returns-in-Err-clause-err
returns-in-Err-clause-err g c = rw c.refused.ensures.status (unshared (sym (c.refused.ensures.keeper ∙ ap (λ (b : SeenOf g.row.K.Denot). b.keeper) c.in-Err.ensures.err)) refl refl)

pub returns-in-Ok-outcome-clause-ok : goal.returns-in-Ok-outcome-clause-ok
returns-in-Ok-outcome-clause-ok g c =
    let terms = rw c.seats.ensures.is at c.in-Ok.ensures.terms in
    let let_in = c.in-Ok.ensures.access ∙ c.access_of-access.ensures in
    let all = rw c.take_back.ensures.after at c.into_book-book.ensures.all in
    let closed_for = rw c.take_back.ensures.after at c.into_book-book.ensures.closed in
    serves_book _ _ _ _ _ c.args.service c.args.book c.into_book-book.result c.in-Ok.server c.serve_ports-outcome.new.server
    terms let_in c.serve_ports-outcome.ensures.registers c.take_back.ensures.back all closed_for c.in-Ok-outcome.ensures.ok

pub returns-in-Err-outcome-clause-err : goal.returns-in-Err-outcome-clause-err
returns-in-Err-outcome-clause-err g c =
    let terms = rw c.seats.ensures.is at c.in-Ok.ensures.terms in
    let let_in = c.in-Ok.ensures.access ∙ c.access_of-access.ensures in
    let all = rw c.take_back.ensures.after at c.into_book-book.ensures.all in
    let closed_for = rw c.take_back.ensures.after at c.into_book-book.ensures.closed in
    let ended = c.refused-in-Err-outcome.ensures in
    rw ended.status (closed c.into_book-book.result
    (leaves_book _ _ _ _ _ c.args.service c.args.book c.into_book-book.result c.in-Ok.server c.serve_ports-outcome.new.server
    terms let_in c.serve_ports-outcome.ensures.registers c.take_back.ensures.back all closed_for c.in-Err-outcome.status
    c.serve_ports-outcome.ensures.crew c.serve_ports-outcome.ensures.read c.in-Err-outcome.ensures.err) (sym ended.keeper))
