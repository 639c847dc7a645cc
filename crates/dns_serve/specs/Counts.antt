-- Which counts of faults rose in the top call: those alone of which its status tells, or the work that it tells of.
use Rattle.std.specs.Prelude.{◌≡◌, ◌⊎◌, ◌<◌, ℕ, List, Some, Err}
use Rattle.dns_io.specs.Told.{Grows, Rose, one_more}
use Rattle.dns_edges.specs.Edges.{Around}
use Rattle.dns_command.specs.declared.status.Status.{Status}
use Rattle.dns_command.specs.declared.status.Status.TheVariants as status
use Rattle.dns_command.specs.CommandLine.{access_of}
use Rattle.dns_command.specs.Counts.{ComesOf, CountsJournal, CountsReading, CountsWriting, FailsSome}
use Rattle.dns_command.specs.World.{World}
use Rattle.dns_crowd_server.specs.Hubs.{CrowdHubTold, OpensOnce, their_faults}
use Rattle.dns_crowd_server.specs.Serving.{failed_in, failed_updates}
use Rattle.dns_serve.specs.declared.words.Service.{Service}
use Rattle.dns_serve.specs.Words.{serving_of}
use Rattle.dns_serve.specs.Serving.{Meanings, Serves, Stops}

-- what the words of `serve` ask for was opened, by one opening, and none failed
pub record HasServed {U C : Type 0} (w : World) (hub : Around (CrowdHubTold U C)) : Type 0 where
  pub service : Service
  pub legal : serving_of w.words ≡ Some service
  pub opened : OpensOnce hub.before hub.after service.places

-- the hub took back sockets and crowds of which one has a count above 0
pub record TakesSomeFaulty {K U C : Type 0} (m : Meanings K U C) (hub : Around (CrowdHubTold U C)) : Type 0 where
  pub sockets : List U
  pub crowds : List C
  pub sockets_back : Grows hub.before.sockets hub.after.sockets sockets
  pub crowds_back : Grows hub.before.crowds hub.after.crowds crowds
  pub faulty : 0 < their_faults m.socket m.crowd sockets crowds

-- a worker answered an update with ServFail, since the journal failed
pub data FailsServing {K U C : Type 0} (m : Meanings K U C) (w : World) (hub : Around (CrowdHubTold U C)) : Type 0 where
  in_serving : (written : List ℕ) (served : Serves m w hub written)
      → 0 < failed_updates m.keeper m.socket m.crowd
      (access_of served.service.options) served.ports.before served.ports.after served.ports.works
      → FailsServing m w hub
  in_stopping : (s : Status) (stopped : Stops m w hub s)
      → 0 < failed_in m.keeper m.socket m.crowd hub w.events stopped.service.places (access_of stopped.service.options)
      stopped.first stopped.last (Err stopped.fault) stopped.served
      → FailsServing m w hub

-- The counts of all objects. That of the source of the events also rises where it failed while the ports were served, which ends that; and
-- the hub's where a port could not be opened or failed, and where it took one back whose own count is above 0. An opening that failed is
-- counted once, and told by its status, or by what came of its line.
pub record RunCounts {K U C : Type 0} (m : Meanings K U C) (w : World) (hub : Around (CrowdHubTold U C)) (s : Status) : Type 0 where
  pub zone : CountsReading w w.zone s
  pub events : CountsReading w w.events s ⊎ HasServed w hub
  pub output : CountsWriting w s
  pub ports : (hub.after.faults ≡ hub.before.faults)
      ⊎ ((Rose hub.before.faults hub.after.faults × ComesOf w status.PortFault s) ⊎ TakesSomeFaulty m hub)
  pub openings : (hub.after.failed_calls ≡ hub.before.failed_calls)
      ⊎ ((hub.after.failed_calls ≡ one_more hub.before.failed_calls) × ComesOf w status.PortFault s)
  pub journal : CountsJournal w (FailsSome m.keeper w ⊎ FailsServing m w hub) s
