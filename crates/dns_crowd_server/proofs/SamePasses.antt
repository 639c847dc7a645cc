-- A pass that serves a crowd stays the same pass.
use Rattle.std.proofs.Common.{◌≡◌, List, [], ◌∷◌, ⊎_elim}
use Rattle.dns_keeper.specs.Keeping.{KeeperOf}
use Rattle.dns_book.specs.Access.{Access}
use Rattle.dns_ticket_lock.specs.Passes.{PassSeen, IsSame, SettledBy, LeftBy}
use Rattle.dns_server_core.specs.declared.event.Out.{Out}
use Rattle.dns_server_core.specs.Connections.{Connection}
use Rattle.dns_server_core.specs.Runs.{Completed, Run}
use Rattle.dns_server_core.specs.Steps.{completed_now}
use Rattle.dns_crowd.specs.Replies.{Falters}
use Rattle.dns_crowd.specs.Turns.{Fate, Served, Unsent, Unsettled, Handled, SettlesBy, SettlesEach, open_by}
use Rattle.dns_server.proofs.SamePasses.{Same-of, Same-trans}
use Rattle.dns_crowd_server.specs.Stamps.{AtSomeMoment}

-- the meaning of a keeper, and who is let in
module _ {K : Type 0} (keeper : KeeperOf K) (access : Access) where
  messages_same : (p : PassSeen) (asks : List Completed) (outs : List Out) (q : PassSeen) → Run (AtSomeMoment (SettledBy keeper access)) p asks outs q → IsSame p q
  messages_same p [] outs q run = Same-of p q run.0
  messages_same p (c ∷ cs) outs q run = Same-trans p run.1 q run.3.2.same (messages_same run.1 cs run.2 q run.5)

  falters_same : (p : PassSeen) (asks : List Completed) (q : PassSeen) → Falters (AtSomeMoment (SettledBy keeper access)) LeftBy p asks q → IsSame p q
  falters_same p asks q f =
      Same-trans p f.last q (messages_same p f.first f.outs f.last f.run) (⊎_elim (λ (e : q ≡ f.last). Same-of f.last q e) (λ (l : LeftBy f.last q). l.same) f.end)

  fate_same : (fate : Fate) (p : PassSeen) (asks : List Completed) (outs : List Out) (q : PassSeen) → SettlesBy (AtSomeMoment (SettledBy keeper access)) LeftBy fate p asks outs q → IsSame p q
  fate_same Served p asks outs q run = messages_same p asks outs q run
  fate_same Unsent p asks outs q run = messages_same p asks run.0.0 q run.0.1
  fate_same Unsettled p asks outs q run = falters_same p asks q run.0

  pub events_same : (p : PassSeen) (connections : List Connection) (handled : List Handled) (outs : List Out) (q : PassSeen)
      → SettlesEach (AtSomeMoment (SettledBy keeper access)) LeftBy p connections handled outs q → IsSame p q
  events_same p connections [] outs q run = Same-of p q run.0
  events_same p connections (one ∷ others) outs q run =
      Same-trans p run.0 q (fate_same one.fate p (completed_now one.event connections) run.1 run.0 run.3)
      (events_same run.0 (open_by one.fate one.event connections) others run.2 q run.5)
