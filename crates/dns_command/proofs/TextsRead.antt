-- What came of reading a text to its end.
use Rattle.std.proofs.Common.{◌≡◌, ◌⊎◌, ℕ, List, Ok, Err, inl, inr, refl}
use Rattle.std.specs.Result.{IsErrOf}
use Rattle.dns_edges.specs.Edges.{Around, SourceTold}
use Rattle.dns_io.specs.Told.{Rose, WasLonger}
use Rattle.dns_edges.specs.declared.to_end.ReadFault.{ReadFault}
use Rattle.dns_edges.specs.declared.to_end.ReadFault.TheVariants as read
use Rattle.dns_command.specs.World.{IsStill}
use Rattle.dns_command.specs.Status.{read_status}
use Rattle.dns_command.specs.Steps.{zone_bound, event_bound, ReadsNoZone, zone_unread, zone_too_long, zone_without_memory, LoadsNoEvents, events_unread, events_too_long, events_without_memory}

-- the count of a source that did not fail stood still
pub still_read : {T : Type 0} (before now : ℕ) (value : T) → IsErrOf (Ok value) read.Failed ⊎ (now ≡ before) → now ≡ before
still_read before now value (inl failed) = absurd cc
still_read before now value (inr still) = still

still_unless : {T : Type 0} (source : Around SourceTold) (fault : ReadFault) → (fault ≡ read.Failed → ⊥) → IsErrOf {T = T} (Err fault) read.Failed ⊎ IsStill source → IsStill source
still_unless source fault other (inl failed) = absurd (other (let f = failed in cc))
still_unless source fault other (inr still) = still

-- a zone text that was not read to its end
pub zone_cut : {T : Type 0} (source : Around SourceTold) (origin : List (List ℕ)) (fault : ReadFault)
    → (IsErrOf {T = T} (Err fault) read.TooLong → WasLonger source.before.left source.after.left zone_bound)
    → (IsErrOf {T = T} (Err fault) read.Failed → Rose source.before.faults source.after.faults)
    → IsErrOf {T = T} (Err fault) read.Failed ⊎ IsStill source → ReadsNoZone source origin (read_status fault)
zone_cut source origin read.Failed long cause calm = zone_unread (cause refl)
zone_cut source origin read.TooLong long cause calm = zone_too_long (long refl) (still_unless source read.TooLong (λ e. let x = e in cc) calm)
zone_cut source origin read.OutOfMemory long cause calm = zone_without_memory (still_unless source read.OutOfMemory (λ e. let x = e in cc) calm)

-- an event text that was not read to its end
pub events_cut : {T : Type 0} (source : Around SourceTold) (fault : ReadFault)
    → (IsErrOf {T = T} (Err fault) read.TooLong → WasLonger source.before.left source.after.left event_bound)
    → (IsErrOf {T = T} (Err fault) read.Failed → Rose source.before.faults source.after.faults)
    → IsErrOf {T = T} (Err fault) read.Failed ⊎ IsStill source → LoadsNoEvents source (read_status fault)
events_cut source read.Failed long cause calm = events_unread (cause refl)
events_cut source read.TooLong long cause calm = events_too_long (long refl) (still_unless source read.TooLong (λ e. let x = e in cc) calm)
events_cut source read.OutOfMemory long cause calm = events_without_memory (still_unless source read.OutOfMemory (λ e. let x = e in cc) calm)
