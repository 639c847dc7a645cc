-- How the top call ends: that of `serve`, and that of any other words.
use Rattle.std.specs.Prelude.{◌≡◌, ◌⊎◌, Some, None, IsSome}
use Rattle.dns_io.specs.Told.{Rose}
use Rattle.dns_edges.specs.Edges.{Around}
use Rattle.dns_store.specs.Covered.{IsCovered}
use Rattle.dns_command.specs.declared.status.Status.{Status}
use Rattle.dns_command.specs.declared.status.Status.TheVariants as status
use Rattle.dns_command.specs.Completeness.{Completes, HasZone}
use Rattle.dns_command.specs.Ends.{Ends}
use Rattle.dns_command.specs.ServingEnds.{ServingEnds}
use Rattle.dns_command.specs.World.{World}
use Rattle.dns_words.specs.Writing.{IsUntouched}
use Rattle.dns_crowd_server.specs.Hubs.{CrowdHubTold}
use Rattle.dns_serve.specs.declared.words.Service.{Service}
use Rattle.dns_serve.specs.Words.{serving_of}
use Rattle.dns_serve.specs.Counts.{RunCounts}
use Rattle.dns_serve.specs.Serving.{Meanings, Refuses, Serves}

module _ {K U C : Type 0} (m : Meanings K U C) (w : World) (hub : Around (CrowdHubTold U C)) where
  -- what each status of `serve` means
  abbrev pub ServeEnds : Status → Type 0
  ServeEnds s = ServingEnds w (Serves m w hub) (Refuses m w hub) s

  -- how the top call ends: words of `serve` are served, and any others are those of a list of events, with no hub
  pub data RunEnds (s : Status) : Type 0 where
    by_serving : ServeEnds s → RunEnds s
    by_list : serving_of w.words ≡ None → IsUntouched hub → Ends m.keeper w s → RunEnds s

module _ {U C : Type 0} (w : World) (hub : Around (CrowdHubTold U C)) where
  -- no count of faults rose, nor stands at its last value
  pub record IsFaultless : Type 0 where
    pub zone : Rose w.zone.before.faults w.zone.after.faults → ⊥
    pub journal : Rose w.journal.before.faults w.journal.after.faults → ⊥
    pub ports : Rose hub.before.faults hub.after.faults → ⊥
    pub output : Rose w.output.before.faults w.output.after.faults → ⊥

  -- the words are legal, there is a zone, the batches of the journal cover its rows, and no object failed
  pub record IsSound : Type 0 where
    pub service : Service
    pub legal : serving_of w.words ≡ Some service
    pub zone : HasZone w service.options.origin
    pub covered : IsCovered w.journal.before
    pub faultless : IsFaultless
    pub told : IsSome w.journal.after.rows × IsSome w.zone.after.left

  -- then the two lines are written, or memory ran out; and a list of events is settled as ever
  pub record RunCompletes (s : Status) : Type 0 where
    pub serving : IsSound → (s ≡ status.Ok) ⊎ (s ≡ status.OutOfMemory)
    pub list : serving_of w.words ≡ None → Completes w s

-- what the top call tells: how it ended, that nothing but a fault or want of memory kept it from its work, and which counts rose
pub record RunTells {K U C : Type 0} (m : Meanings K U C) (w : World) (hub : Around (CrowdHubTold U C)) (s : Status) : Type 0 where
  pub ends : RunEnds m w hub s
  pub completes : RunCompletes w hub s
  pub counts : RunCounts m w hub s
