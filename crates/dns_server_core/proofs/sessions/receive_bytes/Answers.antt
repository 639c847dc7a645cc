-- One connection hears, and no other.
use Rattle.std.proofs.Common.{◌∙◌, sym, []}
use Rattle.std.proofs.lemmas.Bool.{cond-true, cond-false}
use Rattle.dns_server_core.specs.declared.event.Event.TheVariants.{Bytes}
use Rattle.dns_server_core.specs.Steps.{completed_now}
use Rattle.dns_server_core.proofs.Running.{Hands-none, Hands-same, Breaks-same}
use Rattle.dns_server_core.proofs.OnePiece.{on_err}
use Rattle.dns_server_core.proofs.ConnectionTurns.{piece_none, piece_silent, piece_stays, piece_goes, piece_asks, remove_set}
use Rattle.dns_server_core.proofs.sessions.receive_bytes.Goals as goal

pub returns-in_err-stays-clause-err : goal.returns-in_err-stays-clause-err
returns-in_err-stays-clause-err g c =
    let k = c.index_mut.result.now in
    let inside = rw c.deref.ensures.value at c.in-Some.ensures.inside in
    let found = rw c.deref.ensures.value at c.in-Some.ensures.found k in
    on_err c.from_residual.result
    (Breaks-same g.H.RequestHandler.serves g.H.RequestHandler.skips c.args.responder.now c.receive_piece.new.self _ (completed_now (Bytes c.args.at c.args.number c.args.piece.now) c.args.connections.now.items)
    (piece_asks c.args.at c.args.number c.args.piece.now c.args.connections.now.items c.in-Some.i k c.requires.climbs inside c.index_mut.ensures.value found)
    (rw c.as_slice.ensures at c.in_err-stays.ensures.err))

pub returns-then-not-stays-clause-ok : goal.returns-then-not-stays-clause-ok
returns-then-not-stays-clause-ok g c =
    let k = c.index_mut.result.now in
    let inside = rw c.deref.ensures.value at c.in-Some.ensures.inside in
    let found = rw c.deref.ensures.value at c.in-Some.ensures.found k in
    c.remove.ensures.items ∙ remove_set c.args.connections.now.items c.in-Some.i c.receive_piece.new.connection
    ∙ piece_goes c.args.at c.args.number c.args.piece.now c.args.connections.now.items c.in-Some.i k c.requires.climbs inside c.index_mut.ensures.value found
    ((rw c.as_slice.ensures at c.in_ok-stays.ensures.ok) ∙ cond-false _ _ _ c.if-not-stays.true)

pub returns-then-not-stays-clause-ran : goal.returns-then-not-stays-clause-ran
returns-then-not-stays-clause-ran g c =
    let k = c.index_mut.result.now in
    let inside = rw c.deref.ensures.value at c.in-Some.ensures.inside in
    let found = rw c.deref.ensures.value at c.in-Some.ensures.found k in
    Hands-same g.H.RequestHandler.serves c.args.responder.now c.receive_piece.new.self _ (completed_now (Bytes c.args.at c.args.number c.args.piece.now) c.args.connections.now.items)
    (piece_asks c.args.at c.args.number c.args.piece.now c.args.connections.now.items c.in-Some.i k c.requires.climbs inside c.index_mut.ensures.value found)
    (rw c.as_slice.ensures at c.in_ok-stays.ensures.ran)

pub returns-else-not-stays-clause-ok : goal.returns-else-not-stays-clause-ok
returns-else-not-stays-clause-ok g c =
    let k = c.index_mut.result.now in
    let inside = rw c.deref.ensures.value at c.in-Some.ensures.inside in
    let found = rw c.deref.ensures.value at c.in-Some.ensures.found k in
    piece_stays c.args.at c.args.number c.args.piece.now c.args.connections.now.items c.in-Some.i k c.receive_piece.new.connection c.requires.climbs inside c.index_mut.ensures.value found
    ((rw c.as_slice.ensures at c.in_ok-stays.ensures.ok) ∙ cond-true _ _ _ c.if-not-stays.false)

pub returns-else-not-stays-clause-ran : goal.returns-else-not-stays-clause-ran
returns-else-not-stays-clause-ran g c =
    let k = c.index_mut.result.now in
    let inside = rw c.deref.ensures.value at c.in-Some.ensures.inside in
    let found = rw c.deref.ensures.value at c.in-Some.ensures.found k in
    Hands-same g.H.RequestHandler.serves c.args.responder.now c.receive_piece.new.self _ (completed_now (Bytes c.args.at c.args.number c.args.piece.now) c.args.connections.now.items)
    (piece_asks c.args.at c.args.number c.args.piece.now c.args.connections.now.items c.in-Some.i k c.requires.climbs inside c.index_mut.ensures.value found)
    (rw c.as_slice.ensures at c.in_ok-stays.ensures.ran)

pub returns-in_default-clause-ok : goal.returns-in_default-clause-ok
returns-in_default-clause-ok g c =
    piece_none c.args.at c.args.number c.args.piece.now c.args.connections.now.items (rw c.deref.ensures.value at c.in_default.ensures.none)

pub returns-in_default-clause-ran : goal.returns-in_default-clause-ran
returns-in_default-clause-ran g c =
    Hands-same g.H.RequestHandler.serves c.args.responder.now c.args.responder.now [] (completed_now (Bytes c.args.at c.args.number c.args.piece.now) c.args.connections.now.items)
    (sym (piece_silent c.args.at c.args.number c.args.piece.now c.args.connections.now.items [] (rw c.deref.ensures.value at c.in_default.ensures.none)))
    (Hands-none g.H.RequestHandler.serves c.args.responder.now)
