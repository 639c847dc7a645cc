-- One event was served, and its replies handed over.
use Rattle.std.proofs.Common.{◌≡◌, ◌∙◌, ◌++◌, ◌∷◌, ℕ, List, [], cond, refl, sym, ap, subst}
use Rattle.dns_io.specs.Told.{Grows}
use Rattle.dns_io.proofs.ToldContents.{Grows-Keeps, Keeps-more}
use Rattle.dns_server_core.specs.Connections.{Kept}
use Rattle.dns_server_core.specs.Events.{moment}
use Rattle.dns_crowd.specs.Crowds.{bytes_for, event_of}
use Rattle.dns_crowd.specs.Turns.{Fate, IsShut, LetsGo, Treats, closed_at, done_by, late_by, lost, Served, Unsent, Unsettled, stays_by, timely}
use Rattle.dns_server_core.proofs.OnePiece.{on_err}
use Rattle.dns_crowd.proofs.Closings.{attended, stays_alike, stays_lets}
use Rattle.dns_crowd.proofs.Shutting.{late_room, shuts_with, stays_room}
use Rattle.dns_crowd.proofs.Wanting.{treats_all, treats_none, treats_unsent}
use Rattle.dns_crowd.proofs.worker.attend.Goals as goal

pub returns-clause-attends : goal.returns-clause-attends
returns-clause-attends g c =
    λ found.
    let told = g.C.Crowd.told in
    let ran = c.in-Ok.ensures.ran in
    let next = c.in-Ok.ensures.next in
    let late = c.in_ok-close_late.ensures in
    let closed = c.in_ok-close-3.ensures in
    let sent = c.in_ok-is_sent.ensures in
    let bytes : c.take.new.replies.items ≡ ran.bytes = ran.added ∙ ap (λ (l : List ℕ). l ++ ran.bytes) c.requires.none in
    let taken : Kept = c.take.new.self in
    let e = event_of [] c.args.came.now in
    let alike : timely taken.last c.close_late.new.self.connections ≡ timely taken.last taken.connections =
    ap (λ (k : Kept). timely taken.last k.connections) late.left ∙ stays_alike e taken.last taken.connections
    in
    let part : LetsGo taken.last taken.connections c.close_late.new.self.connections =
    subst (λ (k : Kept). LetsGo taken.last taken.connections k.connections) (sym late.left) (stays_lets e taken.last taken.connections)
    in
    record {
      outs = ran.outs;
      run = ran.run;
      alike = subst (λ (k : Kept). timely k.last c.close_late.new.self.connections ≡ timely k.last k.connections) next alike;
      part = subst (λ (k : Kept). LetsGo k.last k.connections c.close_late.new.self.connections) next part;
      at = ap (λ (k : Kept). k.last) late.left ∙ ap (λ (k : Kept). k.last) next;
      accepted = ap (λ (k : Kept). k.greatest) late.left ∙ ap (λ (k : Kept). k.greatest) next;
      sent = Grows-Keeps _ _ _ _
          (Grows-Keeps _ _ _ _
          (subst (Grows (told c.args.crowd.now).taken (told c.send.new.crowd).taken) (ap (bytes_for _) bytes ∙ sym ran.sent) (rw c.number-2.ensures at (sent.grows c.if-not-is_sent.false)))
          closed.unasked.untaken) late.unasked.untaken;
      unread = Keeps-more _ _ _ (Keeps-more _ _ _ sent.unread closed.unasked.unread) late.unasked.unread;
      closed = attended (told c.args.crowd.now).closed (told c.send.new.crowd).closed (told c.close-2.new.crowd).closed (told c.close_late.new.crowd).closed
          (event_of c.args.room.now c.args.came.now) c.args.connections.now c.take.new.self c.close_late.new.self _ _ next part sent.unclosed closed.closed
          (λ h. subst (IsShut _ c.take.new.self.connections) (sym c.number-3.ensures) (c.in-Ok.ensures.done h)) late.closed;
      stands = ap (λ (k : Kept). k.connections) late.left
          ∙ stays_room c.args.room.now c.args.came.now taken.last taken.connections
          ∙ ap (λ (k : Kept). stays_by (event_of c.args.room.now c.args.came.now) k.last k.connections) next;
      shuts = shuts_with (told c.args.crowd.now).closed (told c.send.new.crowd).closed (told c.close-2.new.crowd).closed (told c.close_late.new.crowd).closed
          (cond c.in-Ok.is_done (c.number-3.result ∷ []) []) (late_by e taken.last taken.connections) (closed_at (event_of c.args.room.now c.args.came.now) c.args.connections.now.connections)
          (ap (λ (l : List ℕ). l ++ late_by e taken.last taken.connections) (ap (λ (n : ℕ). cond c.in-Ok.is_done (n ∷ []) []) c.number-3.ensures ∙ sym c.in-Ok.ensures.shuts)
          ∙ ap (λ (l : List ℕ). done_by (event_of c.args.room.now c.args.came.now) c.args.connections.now.connections ++ l)
          (late_room c.args.room.now c.args.came.now taken.last taken.connections ∙ ap (λ (k : Kept). late_by (event_of c.args.room.now c.args.came.now) k.last k.connections) next))
          sent.unclosed closed.closed late.all;
      last = late.unasked.last ∙ closed.unasked.last ∙ sent.same.0;
      greatest = late.unasked.greatest ∙ closed.unasked.greatest ∙ sent.same.1;
      calm = late.unasked.calm ∙ closed.unasked.calm ∙ sent.calm;
    }

pub returns-clause-goes : goal.returns-clause-goes
returns-clause-goes g c =
    let next = c.in-Ok.ensures.next in
    let late = c.in_ok-close_late.ensures in
    let closed = c.in_ok-close-3.ensures in
    let sent = c.in_ok-is_sent.ensures in
    record {
      at = ap (λ (k : Kept). k.last) late.left ∙ ap (λ (k : Kept). k.last) next;
      accepted = ap (λ (k : Kept). k.greatest) late.left ∙ ap (λ (k : Kept). k.greatest) next;
      last = late.unasked.last ∙ closed.unasked.last ∙ sent.same.0;
      greatest = late.unasked.greatest ∙ closed.unasked.greatest ∙ sent.same.1;
      calm = late.unasked.calm ∙ closed.unasked.calm ∙ sent.calm;
    }

pub returns-in_default-clause-treats : goal.returns-in_default-clause-treats
returns-in_default-clause-treats g c = (
  Unsettled,
  treats_none (g.H.RequestHandler.serves c.args.access.now) g.H.RequestHandler.skips g.C.Crowd.told c.args.handler.now c.args.crowd.now c.args.connections.now (event_of c.args.room.now c.args.came.now)
      c.take.new.handler c.close.new.self c.in_default.ensures.halted (record { unread = c.close.ensures.told.unread; untaken = c.close.ensures.told.untaken }),
  ap (λ (k : Kept). timely (moment (event_of c.args.room.now c.args.came.now)) k.connections) c.in_default.ensures.err,
)

pub returns-then-not-is_sent-clause-treats : goal.returns-then-not-is_sent-clause-treats
returns-then-not-is_sent-clause-treats g c =
    let told = g.C.Crowd.told in
    let e = event_of c.args.room.now c.args.came.now in
    let ran = c.in-Ok.ensures.ran in
    let next = c.in-Ok.ensures.next in
    let sent = c.in_ok-is_sent.ensures in
    let closed = c.close-then-not-is_sent.ensures.told in (
      Unsent,
      treats_unsent (g.H.RequestHandler.serves c.args.access.now) g.H.RequestHandler.skips told c.args.handler.now c.args.crowd.now c.args.connections.now (event_of c.args.room.now c.args.came.now) ran.outs
          c.take.new.handler c.close-then-not-is_sent.new.self ran.run
          (record { unread = Keeps-more _ _ _ sent.unread closed.unread; untaken = Keeps-more _ _ _ (sent.unsent c.if-not-is_sent.true) closed.untaken }),
      ap (λ (k : Kept). timely (moment e) k.connections) c.let_go.ensures ∙ ap (λ (k : Kept). timely (moment e) (lost e k.connections)) next,
    )

pub returns-then-not-is_sent-clause-goes : goal.returns-then-not-is_sent-clause-goes
returns-then-not-is_sent-clause-goes g c =
    let next = c.in-Ok.ensures.next in
    let sent = c.in_ok-is_sent.ensures in
    let closed = c.in_ok-close-2.ensures.told in
    record {
      at = ap (λ (k : Kept). k.last) c.let_go.ensures ∙ ap (λ (k : Kept). k.last) next;
      accepted = ap (λ (k : Kept). k.greatest) c.let_go.ensures ∙ ap (λ (k : Kept). k.greatest) next;
      last = closed.same.0 ∙ sent.same.0;
      greatest = closed.same.1 ∙ sent.same.1;
      calm = closed.cause.counts ∙ sent.calm;
    }

pub returns-clause-treats : goal.returns-clause-treats
returns-clause-treats g c =
    let a = returns-clause-attends g c refl in (
      Served,
      treats_all (g.H.RequestHandler.serves c.args.access.now) g.H.RequestHandler.skips g.C.Crowd.told c.args.handler.now c.args.crowd.now c.args.connections.now (event_of c.args.room.now c.args.came.now)
          c.take.new.handler c.close_late.new.crowd c.close_late.new.self (returns-clause-attends g c refl),
      a.alike,
    )

pub returns-in_err-is_sent-clause-broken : goal.returns-in_err-is_sent-clause-broken
returns-in_err-is_sent-clause-broken g c =
    let serves = g.H.RequestHandler.serves c.args.access.now in
    let ran = c.in-Ok.ensures.ran in
    on_err c.from_residual-in_err-is_sent.result (
      Unsent,
      treats_unsent serves g.H.RequestHandler.skips g.C.Crowd.told c.args.handler.now c.args.crowd.now c.args.connections.now (event_of c.args.room.now c.args.came.now) ran.outs c.take.new.handler c.send.new.crowd
          ran.run
          (record { unread = c.in_err-is_sent.ensures.unread; untaken = c.in_err-is_sent.ensures.kept }),
    )

pub returns-in_err-close-3-clause-broken : goal.returns-in_err-close-3-clause-broken
returns-in_err-close-3-clause-broken g c =
    let told = g.C.Crowd.told in
    let ran = c.in-Ok.ensures.ran in
    let sent = c.in_ok-is_sent.ensures in
    let held = c.close-2.ensures.held in
    let bytes : c.take.new.replies.items ≡ ran.bytes = ran.added ∙ ap (λ (l : List ℕ). l ++ ran.bytes) c.requires.none in
    on_err c.from_residual-in_err-close-3.result (
      Served,
      record {
        outs = ran.outs;
        settled = ran.run;
        sent = Grows-Keeps _ _ _ _
            (subst (Grows (told c.args.crowd.now).taken (told c.send.new.crowd).taken) (ap (bytes_for _) bytes ∙ sym ran.sent) (rw c.number-2.ensures at (sent.grows c.if-not-is_sent.false)))
            held.untaken;
        unread = Keeps-more _ _ _ sent.unread held.unread;
      },
    )

pub returns-in_err-close_late-clause-broken : goal.returns-in_err-close_late-clause-broken
returns-in_err-close_late-clause-broken g c =
    let told = g.C.Crowd.told in
    let ran = c.in-Ok.ensures.ran in
    let sent = c.in_ok-is_sent.ensures in
    let closed = c.in_ok-close-3.ensures in
    let held = c.close_late.ensures.held in
    let bytes : c.take.new.replies.items ≡ ran.bytes = ran.added ∙ ap (λ (l : List ℕ). l ++ ran.bytes) c.requires.none in
    on_err c.from_residual-in_err-close_late.result (
      Served,
      record {
        outs = ran.outs;
        settled = ran.run;
        sent = Grows-Keeps _ _ _ _
            (Grows-Keeps _ _ _ _
            (subst (Grows (told c.args.crowd.now).taken (told c.send.new.crowd).taken) (ap (bytes_for _) bytes ∙ sym ran.sent) (rw c.number-2.ensures at (sent.grows c.if-not-is_sent.false)))
            closed.unasked.untaken) held.untaken;
        unread = Keeps-more _ _ _ (Keeps-more _ _ _ sent.unread closed.unasked.unread) held.unread;
      },
    )

pub returns-in_err-close-clause-broken : goal.returns-in_err-close-clause-broken
returns-in_err-close-clause-broken g c =
    let p : (fate : Fate) × Treats (g.H.RequestHandler.serves c.args.access.now) g.H.RequestHandler.skips g.C.Crowd.told c.args.handler.now c.args.crowd.now c.args.connections.now (event_of c.args.room.now c.args.came.now) fate c.take.new.handler c.close.new.self = (
      Unsettled,
      treats_none (g.H.RequestHandler.serves c.args.access.now) g.H.RequestHandler.skips g.C.Crowd.told c.args.handler.now c.args.crowd.now c.args.connections.now (event_of c.args.room.now c.args.came.now)
          c.take.new.handler c.close.new.self c.in_default.ensures.halted (record { unread = c.close.ensures.told.unread; untaken = c.close.ensures.told.untaken }),
    ) in
    on_err _ p

pub returns-in_err-close-2-clause-broken : goal.returns-in_err-close-2-clause-broken
returns-in_err-close-2-clause-broken g c =
    let ran = c.in-Ok.ensures.ran in
    let sent = c.in_ok-is_sent.ensures in
    let closed = c.close-then-not-is_sent.ensures.told in
    let p : (fate : Fate) × Treats (g.H.RequestHandler.serves c.args.access.now) g.H.RequestHandler.skips g.C.Crowd.told c.args.handler.now c.args.crowd.now c.args.connections.now (event_of c.args.room.now c.args.came.now) fate c.take.new.handler c.close-then-not-is_sent.new.self = (
      Unsent,
      treats_unsent (g.H.RequestHandler.serves c.args.access.now) g.H.RequestHandler.skips g.C.Crowd.told c.args.handler.now c.args.crowd.now c.args.connections.now (event_of c.args.room.now c.args.came.now) ran.outs
          c.take.new.handler c.close-then-not-is_sent.new.self ran.run
          (record { unread = Keeps-more _ _ _ sent.unread closed.unread; untaken = Keeps-more _ _ _ (sent.unsent c.if-not-is_sent.true) closed.untaken }),
    ) in
    on_err _ p
