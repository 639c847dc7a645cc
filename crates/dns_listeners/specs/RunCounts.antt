-- Which counts of faults rose in the top call: those alone of which its status tells, or the work that it tells of.
use Rattle.std.specs.Prelude.{◌≡◌, ◌⊎◌, ◌<◌, ℕ, List, Some}
use Rattle.dns_io.specs.Told.{Grows, Rose}
use Rattle.dns_edges.specs.Edges.{Around}
use Rattle.dns_ports.specs.Ports.{HubTold}
use Rattle.dns_command.specs.declared.status.Status.{Status}
use Rattle.dns_command.specs.declared.status.Status.TheVariants as status
use Rattle.dns_command.specs.declared.listening_words.Service.{Service}
use Rattle.dns_command.specs.ListeningWords.{service_of}
use Rattle.dns_command.specs.CommandLine.{access_of}
use Rattle.dns_command.specs.World.{World}
use Rattle.dns_command.specs.Counts.{ComesOf, CountsJournal, CountsReading, CountsWriting, FailsSome}
use Rattle.dns_listeners.specs.Hubs.{Meanings, TakesFaulty, FailsOpening, FailsNoOpening, one_more_each}
use Rattle.dns_listeners.specs.Serving.{openings_of, failed_updates, failed_so_far, StopsServing}
use Rattle.dns_listeners.specs.Serving as serving

-- the ports of the words of `serve` were all opened, each of which is counted
pub record HasServed {U T : Type 0} (w : World) (hub : Around (HubTold U T)) : Type 0 where
  pub service : Service
  pub legal : service_of w.words ≡ Some service
  pub opened : Grows hub.before.openings hub.after.openings (openings_of service.listening)
  pub calls : hub.after.opened_calls ≡ one_more_each hub.before.opened_calls (openings_of service.listening)

-- the hub took back a port whose own count is above 0
pub record TakesSomeFaulty {K U T R W C : Type 0} (m : Meanings K U T R W C) (hub : Around (HubTold U T)) : Type 0 where
  pub sockets : List U
  pub listeners : List T
  pub taken : TakesFaulty m hub sockets listeners

-- a worker of the ports answered an update with ServFail, since the journal failed
pub data FailsServing {K U T R W C : Type 0} (m : Meanings K U T R W C) (w : World) (hub : Around (HubTold U T)) : Type 0 where
  in_serving : (written : List ℕ) (served : serving.Serves m w hub written)
      → 0 < failed_updates m (access_of served.service.options) served.opened served.crew served.ports.worked → FailsServing m w hub
  in_stopping : (s : Status) (stopped : StopsServing m w hub s)
      → 0 < failed_so_far m (access_of stopped.service.options) stopped.opened stopped.crew stopped.shared.worked → FailsServing m w hub

-- The counts of all objects. That of the source of the events also rises where it failed while the ports were served,
-- which ends that; and the hub's where a port could not be opened or failed, and where it took one back whose own count is above 0. Of the
-- openings none failed; or one did, and it is told, by its status or by what came of its line.
pub record RunCounts {K U T R W C : Type 0} (m : Meanings K U T R W C) (w : World) (hub : Around (HubTold U T)) (s : Status) : Type 0 where
  pub zone : CountsReading w w.zone s
  pub events : CountsReading w w.events s ⊎ HasServed w hub
  pub output : CountsWriting w s
  pub ports : (hub.after.faults ≡ hub.before.faults)
      ⊎ ((Rose hub.before.faults hub.after.faults × ComesOf w status.PortFault s) ⊎ TakesSomeFaulty m hub)
  pub openings : FailsNoOpening hub ⊎ (FailsOpening hub × ComesOf w status.PortFault s)
  pub journal : CountsJournal w (FailsSome m.keeper w ⊎ FailsServing m w hub) s
