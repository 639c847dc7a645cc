-- Nothing was handed over, or the handler found no memory, or the reply was written as it goes out.
use Rattle.std.proofs.Common.{◌≡◌, ◌+◌, ◌∷◌, [], ◌++◌, refl, inl, inr, subst}
use Rattle.dns_book.specs.declared.ask.Settled.{Settled}
use Rattle.dns_book.specs.Into.{SettlesInto}
use Rattle.dns_server_core.specs.Handing.{ResponderOf, Hands}
use Rattle.dns_server_core.specs.Runs.{Completed, is_connection}
use Rattle.dns_server_core.proofs.OnePiece.{on_err}
use Rattle.dns_server_core.proofs.Running.{Breaks-none, breaks_none, Hands-written, owed_out}
use Rattle.dns_server_core.proofs.responder.Responder.settle_message.Goals as goal

pub returns-then-self-clause-err : goal.returns-then-self-clause-err
returns-then-self-clause-err g c = Breaks-none g.H.RequestHandler.serves g.H.RequestHandler.skips c.args.self.now c.args.self.now.handler _ (inl refl)

pub returns-in_err-reserve-clause-err : goal.returns-in_err-reserve-clause-err
returns-in_err-reserve-clause-err g c =
    rw (← c.self.view_is, c.reserve.ensures.items)
    (breaks_none g.H.RequestHandler.serves c.from_residual.result g.H.RequestHandler.skips (record { handler = c.self.inside.handler; access = c.self.inside.access; outs = c.self.inside.out.items; settled = c.self.inside.settled }) _)

pub returns-in_err-settled-clause-err : goal.returns-in_err-settled-clause-err
returns-in_err-settled-clause-err g c =
    rw (← c.self.view_is, c.reserve.ensures.items)
    (on_err c.from_residual-in_err-settled.result
    (Breaks-none g.H.RequestHandler.serves g.H.RequestHandler.skips (record { handler = c.self.inside.handler; access = c.self.inside.access; outs = c.self.inside.out.items; settled = c.self.inside.settled }) c.handle_into.new.self _ (inr c.in_err-settled.ensures.err)))

pub returns-clause-ok : goal.returns-clause-ok
returns-clause-ok g c =
    let before : ResponderOf g.row.H.Denot = record { handler = c.self.inside.handler; access = c.self.inside.access; outs = c.self.inside.out.items; settled = c.self.inside.settled } in
    let after : ResponderOf g.row.H.Denot = record { handler = c.handle_into.new.self; access = c.self.inside.access; outs = c.send.new.out.items; settled = c.self.inside.settled + 1 } in
    let one : Completed = record { to = c.args.to; ask = c.args.ask.now } in
    let into : SettlesInto (λ (settled : Settled). g.H.RequestHandler.serves before.access before.handler one.ask settled after.handler) (is_connection one.to) [] c.handle_into.new.out.items c.in_ok-settled.settled =
    rw (c.is_connection-is_framed.ensures, c.new-bytes.ensures.items) at c.in_ok-settled.ensures.ok
    in
    let outs : after.outs ≡ before.outs ++ owed_out one.to c.handle_into.new.out.items c.in_ok-settled.settled.is_owed = rw (c.reserve.ensures.items, c.from_vec.ensures) at c.send.ensures in
    subst (λ (r : ResponderOf g.row.H.Denot). Hands g.H.RequestHandler.serves r (one ∷ []) after) c.self.view_is
    (Hands-written g.H.RequestHandler.serves before after one c.handle_into.new.out.items c.in_ok-settled.settled into outs refl refl)
