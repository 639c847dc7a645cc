-- What contracts see of a server, and what a list of events leaves where it was not served to its end.
use Rattle.std.specs.Prelude.{◌≡◌, ◌≤◌, ◌⊎◌, ℕ, List, [], ◌++◌, length, take, true, false}
use Rattle.std.specs.List.{flat_map}
use Rattle.dns_book.specs.declared.ask.Ask.{Ask}
use Rattle.dns_book.specs.declared.ask.Settled.{Settled}
use Rattle.dns_server_core.specs.declared.event.Event.{Event}
use Rattle.dns_server_core.specs.declared.event.Out.{Out}
use Rattle.dns_server_core.specs.declared.fault.RunFault.{RunFault}
use Rattle.dns_server_core.specs.declared.fault.RunFault.TheVariants.{Stopped, OutOfMemory}
use Rattle.dns_book.specs.Access.{Access}
use Rattle.dns_server_core.specs.Events.{number_in, last_moment, last_number}
use Rattle.dns_server_core.specs.Connections.{Kept, done}
use Rattle.dns_server_core.specs.Runs.{Answers}

-- a server's handler, which sources are let in, and what it keeps of events and connections
pub record ServerOf (T : Type 0) : Type 0 where
  pub handler : T
  pub access : Access
  pub kept : Kept

-- a list was cut off: the last moment and the greatest number are those of a front of it, a stop was not taken, and no
-- connection is open
pub record IsCutOff (before : Kept) (events : List Event) (after : Kept) : Type 0 where
  pub seen : List Event
  pub rest : List Event
  pub front : events ≡ seen ++ rest
  pub last : after.last ≡ last_moment before.last seen
  pub greatest : after.greatest ≡ last_number before.greatest (flat_map number_in seen)
  pub running : after.stopped ≡ false
  pub none : after.connections ≡ []

-- memory ran out behind the first messages of a list, count of them: a run over these, and at most one call behind it that
-- found no memory
pub record StopsAt {H : Type 0} (serves : H → Ask → Settled → H → Type 0) (skips : H → H → Type 0) (before : ServerOf H)
    (events : List Event) (after : ServerOf H) (old new : List Out) (count : ℕ) : Type 0 where
  pub running : before.kept.stopped ≡ false
  pub some : count ≤ length (done before.kept events)
  pub last : H
  pub answered : Answers serves before.handler (take count (done before.kept events)) last old new
  pub end : (after.handler ≡ last) ⊎ skips last after.handler
  pub cut_off : IsCutOff before.kept events after.kept

-- what stands where a list was not served to its end: after a stop that an earlier list took, everything as it was
abbrev pub Leaves : {H : Type 0} → (H → Ask → Settled → H → Type 0) → (H → H → Type 0)
    → ServerOf H → List Event → ServerOf H → List Out → List Out → RunFault → Type 0
Leaves serves skips before events after old new Stopped = (before.kept.stopped ≡ true) × (after ≡ before) × (new ≡ old)
Leaves serves skips before events after old new (OutOfMemory count) = StopsAt serves skips before events after old new count
