-- How the top call ends: that of `serve`, and that of any other words.
use Rattle.std.specs.Prelude.{◌≡◌, ◌⊎◌, Some, None, IsSome}
use Rattle.dns_io.specs.Told.{Rose}
use Rattle.dns_edges.specs.Edges.{Around}
use Rattle.dns_ports.specs.Ports.{HubTold}
use Rattle.dns_command.specs.declared.status.Status.{Status}
use Rattle.dns_command.specs.declared.status.Status.TheVariants as status
use Rattle.dns_command.specs.declared.listening_words.Service.{Service}
use Rattle.dns_command.specs.ListeningWords.{service_of}
use Rattle.dns_listeners.specs.Hubs.{Meanings}
use Rattle.dns_words.specs.Writing.{IsUntouched}
use Rattle.dns_command.specs.World.{World}
use Rattle.dns_command.specs.Ends.{Ends}
use Rattle.dns_command.specs.ServingEnds.{IsCutOf, ServingEnds}
use Rattle.dns_store.specs.Covered.{IsCovered}
use Rattle.dns_command.specs.Completeness.{HasZone, Completes}
use Rattle.dns_listeners.specs.Serving.{Serves, RefusesServing}
use Rattle.dns_listeners.specs.RunCounts.{RunCounts}

module _ {K U T R W C : Type 0} (m : Meanings K U T R W C) (w : World) (hub : Around (HubTold U T)) where
  -- the closing lines of `serve`, or the line of its refusal, were cut
  abbrev pub IsCutServing : Type 0
  IsCutServing = IsCutOf w (Serves m w hub) (RefusesServing m w hub)

  -- what each status of `serve` means
  abbrev pub ServeEnds : Status → Type 0
  ServeEnds s = ServingEnds w (Serves m w hub) (RefusesServing m w hub) s

  -- how the top call ends: words of `serve` are served, and any others are those of a list of events, with no hub
  pub data RunEnds (s : Status) : Type 0 where
    by_serving : ServeEnds s → RunEnds s
    by_list : service_of w.words ≡ None → IsUntouched hub → Ends m.keeper w s → RunEnds s

module _ {U T : Type 0} (w : World) (hub : Around (HubTold U T)) where
  -- no count of faults rose, nor stands at its last value
  pub record IsFaultlessServing : Type 0 where
    pub zone : Rose w.zone.before.faults w.zone.after.faults → ⊥
    pub journal : Rose w.journal.before.faults w.journal.after.faults → ⊥
    pub ports : Rose hub.before.faults hub.after.faults → ⊥
    pub output : Rose w.output.before.faults w.output.after.faults → ⊥

  -- the words are legal, there is a zone, the batches of the journal cover its rows, and no object failed
  pub record IsSoundServing : Type 0 where
    pub service : Service
    pub legal : service_of w.words ≡ Some service
    pub zone : HasZone w service.options.origin
    pub covered : IsCovered w.journal.before
    pub faultless : IsFaultlessServing
    pub told : IsSome w.journal.after.rows × IsSome w.zone.after.left

  -- then the two lines are written, or memory ran out; and a list of events is settled as ever
  pub record RunCompletes (s : Status) : Type 0 where
    pub serving : IsSoundServing → (s ≡ status.Ok) ⊎ (s ≡ status.OutOfMemory)
    pub list : service_of w.words ≡ None → Completes w s

-- what the top call tells: how it ended, that nothing but a fault or want of memory kept it from its work, and which counts rose
pub record RunTells {K U T R W C : Type 0} (m : Meanings K U T R W C) (w : World) (hub : Around (HubTold U T)) (s : Status) : Type 0 where
  pub ends : RunEnds m w hub s
  pub completes : RunCompletes w hub s
  pub counts : RunCounts m w hub s
