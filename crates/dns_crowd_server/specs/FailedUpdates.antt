-- How many steps of the workers of crowds answered an update with ServFail because the journal failed (RFC 2136 3.8).
use Rattle.std.specs.Prelude.{ℕ, ◌+◌, List, [], ◌∷◌}
use Rattle.dns_keeper.specs.Keeping.{KeeperOf}
use Rattle.dns_book.specs.Access.{Access}
use Rattle.dns_ticket_lock.specs.Passes.{PassSeen, SettledBy, LeftBy}
use Rattle.dns_server_core.specs.declared.event.Out.{Out}
use Rattle.dns_server_core.specs.Connections.{Connection}
use Rattle.dns_server_core.specs.Runs.{Completed, Run}
use Rattle.dns_server_core.specs.Steps.{completed_now}
use Rattle.dns_crowd.specs.Crowds.{CrowdTold}
use Rattle.dns_crowd.specs.Turns.{Fate, Served, Unsent, Unsettled, Handled, SettlesBy, SettlesEach, open_by}
use Rattle.dns_server.specs.declared.worker.Worker.{Worker}
use Rattle.dns_server.specs.FailedUpdates.{failed_by_step}
use Rattle.dns_crowd_server.specs.Crews.{ServedCrowd}
use Rattle.dns_crowd_server.specs.Stamps.{AtSomeMoment}

-- the meaning of a keeper, and who is let in
module _ {K : Type 0} (keeper : KeeperOf K) (access : Access) where
  -- of messages
  abbrev pub failed_by_messages : (before : PassSeen) (asks : List Completed) (outs : List Out) (after : PassSeen)
      → Run (AtSomeMoment (SettledBy keeper access)) before asks outs after → ℕ
  failed_by_messages before [] outs after run = 0
  failed_by_messages before (c ∷ cs) outs after run =
      failed_by_step keeper access before (record c.ask { at = run.3.0 }) run.0 run.1 run.3.2 + failed_by_messages run.1 cs run.2 after run.5

  -- of those that one event completes, as far as memory was found
  abbrev pub failed_by_fate : (fate : Fate) (before : PassSeen) (asks : List Completed) (outs : List Out) (after : PassSeen)
      → SettlesBy (AtSomeMoment (SettledBy keeper access)) LeftBy fate before asks outs after → ℕ
  failed_by_fate Served before asks outs after run = failed_by_messages before asks outs after run
  failed_by_fate Unsent before asks outs after run = failed_by_messages before asks run.0.0 after run.0.1
  failed_by_fate Unsettled before asks outs after run = failed_by_messages before run.0.first run.0.outs run.0.last run.0.run

  -- of events, one behind the other
  abbrev pub failed_by_events : (before : PassSeen) (connections : List Connection)
      (handled : List Handled) (outs : List Out) (after : PassSeen)
      → SettlesEach (AtSomeMoment (SettledBy keeper access)) LeftBy before connections handled outs after → ℕ
  failed_by_events before connections [] outs after run = 0
  failed_by_events before connections (one ∷ others) outs after run =
      failed_by_fate one.fate before (completed_now one.event connections) run.1 run.0 run.3
      + failed_by_events run.0 (open_by one.fate one.event connections) others run.2 after run.5

  -- of the worker of a crowd
  abbrev pub failed_by_crowd : {C : Type 0} (crowd : C → CrowdTold) (before after : Worker C)
      → ServedCrowd keeper crowd access before after → ℕ
  failed_by_crowd crowd before after served =
      failed_by_events before.pass [] served.works.work.handled served.works.work.outs after.pass served.works.work.settled
