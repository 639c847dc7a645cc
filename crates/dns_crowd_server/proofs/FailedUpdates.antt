-- The pass of a crowd's worker counts a fault at least for each update that got ServFail, or has the mark.
use Rattle.std.proofs.Common.{◌≡◌, List, [], ◌∷◌, ⊎_elim, refl}
use Rattle.dns_keeper.specs.Keeping.{KeeperOf}
use Rattle.dns_book.specs.Access.{Access}
use Rattle.dns_ticket_lock.specs.Passes.{PassSeen, SettledBy, LeftBy}
use Rattle.dns_server_core.specs.declared.event.Out.{Out}
use Rattle.dns_server_core.specs.Connections.{Connection}
use Rattle.dns_server_core.specs.Runs.{Completed, Run}
use Rattle.dns_server_core.specs.Steps.{completed_now}
use Rattle.dns_crowd.specs.Crowds.{CrowdTold}
use Rattle.dns_crowd.specs.Replies.{Falters}
use Rattle.dns_crowd.specs.Turns.{Fate, Served, Unsent, Unsettled, Handled, SettlesBy, SettlesEach, open_by}
use Rattle.dns_server.specs.declared.worker.Worker.{Worker}
use Rattle.dns_server.proofs.FailedUpdates.{GrewBy, GrewBy-left, GrewBy-more, GrewBy-none, and_none, step_grew}
use Rattle.dns_crowd_server.specs.Crews.{ServedCrowd}
use Rattle.dns_crowd_server.specs.Stamps.{AtSomeMoment}
use Rattle.dns_crowd_server.specs.FailedUpdates.{failed_by_crowd, failed_by_events, failed_by_fate, failed_by_messages}

-- the meaning of a keeper, and who is let in
module _ {K : Type 0} (keeper : KeeperOf K) (access : Access) where
  messages_grew : (p : PassSeen) (asks : List Completed) (outs : List Out) (q : PassSeen) → (run : Run (AtSomeMoment (SettledBy keeper access)) p asks outs q)
      → GrewBy (failed_by_messages keeper access p asks outs q run) p q
  messages_grew p [] outs q run = GrewBy-none p q run.0
  messages_grew p (c ∷ cs) outs q run = GrewBy-more _ _ _ p run.1 q refl (step_grew keeper access p (record c.ask { at = run.3.0 }) run.0 run.1 run.3.2) (messages_grew run.1 cs run.2 q run.5)

  falters_grew : (p : PassSeen) (asks : List Completed) (q : PassSeen) → (f : Falters (AtSomeMoment (SettledBy keeper access)) LeftBy p asks q)
      → GrewBy (failed_by_messages keeper access p f.first f.outs f.last f.run) p q
  falters_grew p asks q f =
      GrewBy-more _ 0 _ p f.last q (and_none _) (messages_grew p f.first f.outs f.last f.run)
      (⊎_elim (λ (e : q ≡ f.last). GrewBy-none f.last q e) (λ (l : LeftBy f.last q). GrewBy-left f.last q l) f.end)

  fate_grew : (fate : Fate) (p : PassSeen) (asks : List Completed) (outs : List Out) (q : PassSeen) → (run : SettlesBy (AtSomeMoment (SettledBy keeper access)) LeftBy fate p asks outs q)
      → GrewBy (failed_by_fate keeper access fate p asks outs q run) p q
  fate_grew Served p asks outs q run = messages_grew p asks outs q run
  fate_grew Unsent p asks outs q run = messages_grew p asks run.0.0 q run.0.1
  fate_grew Unsettled p asks outs q run = falters_grew p asks q run.0

  events_grew : (p : PassSeen) (connections : List Connection) (handled : List Handled) (outs : List Out) (q : PassSeen)
      → (run : SettlesEach (AtSomeMoment (SettledBy keeper access)) LeftBy p connections handled outs q)
      → GrewBy (failed_by_events keeper access p connections handled outs q run) p q
  events_grew p connections [] outs q run = GrewBy-none p q run.0
  events_grew p connections (one ∷ others) outs q run =
      GrewBy-more _ _ _ p run.0 q refl (fate_grew one.fate p (completed_now one.event connections) run.1 run.0 run.3)
      (events_grew run.0 (open_by one.fate one.event connections) others run.2 q run.5)

  -- the worker of a crowd
  pub crowd_grew : {C : Type 0} (crowd : C → CrowdTold) (x y : Worker C) (s : ServedCrowd keeper crowd access x y) → GrewBy (failed_by_crowd keeper access crowd x y s) x.pass y.pass
  crowd_grew crowd x y s = events_grew x.pass [] s.works.work.handled s.works.work.outs y.pass s.works.work.settled
