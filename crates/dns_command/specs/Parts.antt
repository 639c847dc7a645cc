-- What the parts of the top call do.
use Rattle.std.specs.Prelude.{◌≡◌, ◌≤◌, ℕ, List, take, Option, Some, IfSome}
use Rattle.dns_keeper.specs.declared.row.Row.{Row}
use Rattle.dns_keeper.specs.Keeping.{KeeperTold, KeeperOf}
use Rattle.dns_keeper.specs.declared.keeper.KeepFault.{KeepFault}
use Rattle.dns_keeper.specs.declared.keeper.KeepFault.TheVariants as keep
use Rattle.dns_edges.specs.Edges.{Around, SourceTold, around}
use Rattle.dns_io.specs.Told.{Keeps}
use Rattle.dns_server_core.specs.declared.event.Event.{Event}
use Rattle.dns_server_core.specs.declared.event.Out.{Out}
use Rattle.dns_book.specs.Access.{Access}
use Rattle.dns_book.specs.Book.{SeenOf, Settles}
use Rattle.dns_book.specs.Opening.{HadNoRow}
use Rattle.dns_store.specs.declared.opening.OpenKind.{OpenKind}
use Rattle.dns_store.specs.declared.opening.OpenKind.TheVariants as kind
use Rattle.dns_server_core.specs.Serving.{ServerOf}
use Rattle.dns_server_core.specs.Valid.{Valid}
use Rattle.dns_server_core.specs.Connections.{new_kept, done, after}
use Rattle.dns_server_core.specs.Runs.{Run}
use Rattle.dns_server_core.specs.Books.{failures}
use Rattle.dns_command.specs.declared.status.Status.{Status}
use Rattle.dns_command.specs.declared.status.Status.TheVariants as status
use Rattle.dns_command.specs.declared.run_list.Inputs.{Inputs}
use Rattle.dns_command.specs.declared.opening.Opening.{Opening}
use Rattle.dns_command.specs.declared.opening.Opening.TheVariants.{Begin, Recover}
use Rattle.dns_command.specs.declared.command_line.Options.{Options}
use Rattle.dns_command.specs.CommandLine.{options_of, access_of}
use Rattle.dns_command.specs.Steps.{FindsBy, HearsBy, OpensNot}
use Rattle.dns_command.specs.Ends.{IsOpened, CountsFailures}

-- the words are legal, and what they name was read
pub record Prepares (words : List (List ℕ)) (zone_text event_text : Around SourceTold) (journal : Around KeeperTold)
    (inputs : Inputs) : Type 0 where
  pub legal : options_of words ≡ Some inputs.options
  pub found : FindsBy journal zone_text inputs.options inputs.opening
  pub heard : HearsBy event_text inputs.options inputs.events.items
  pub few : IfSome inputs.options.drawn (λ drawn. drawn.count ≤ 100000)

-- a journal that is to be begun has no row
abbrev pub IsReady : Opening → Option (List Row) → Type 0
IsReady (Begin zone) rows = HadNoRow rows rows
IsReady Recover rows = Unit {0}

-- the journal was opened, by what was found of it
abbrev pub OpensBook : {K : Type 0} → KeeperOf K → K → Options → Opening → ℕ → SeenOf K → Type 0
OpensBook keeper held options opening moment book = IsOpened keeper (keeper.told held) options moment opening book

-- the status of a journal that was not read back
abbrev pub unopened : OpenKind → Status
unopened (kind.Recovery row why) = status.Recovery row why
unopened kind.KeeperFault = status.KeeperFault
unopened kind.NoZone = status.OutOfMemory
unopened kind.OutOfMemory = status.OutOfMemory

-- the status of a journal that failed, or for which memory ran out
abbrev pub unkept : KeepFault → Status
unkept keep.Failed = status.KeeperFault
unkept keep.OutOfMemory = status.OutOfMemory

-- a list of events is valid, each of its messages was settled, and the server keeps what it leaves
pub record SettlesEach {K : Type 0} (keeper : KeeperOf K) (access : Access) (first : SeenOf K) (events : List Event)
    (outs : List Out) (server : ServerOf (SeenOf K)) : Type 0 where
  pub valid : Valid new_kept events
  pub ran : Run (Settles keeper access) first (done new_kept events) outs server.handler
  pub few : CountsFailures (failures keeper access first (done new_kept events) outs server.handler ran)
      (keeper.told first.keeper).faults (keeper.told server.handler.keeper).faults
  pub kept : server.kept ≡ after new_kept events

-- why not every message was settled, and the keeper then: the list of events is not valid, and nothing was done; or memory
-- ran out, and some of the first messages were settled
pub data SettlesPart {K : Type 0} (keeper : KeeperOf K) (access : Access) (first : SeenOf K)
    (events : List Event) : Status → K → Type 0 where
  of_invalid : {left : K} → (Valid new_kept events → ⊥) → first.keeper ≡ left → SettlesPart keeper access first events status.NotValid left
  of_memory : {left : K} → (count : ℕ) (outs : List Out) (last : SeenOf K) → Valid new_kept events
      → (ran : Run (Settles keeper access) first (take count (done new_kept events)) outs last)
      → CountsFailures (failures keeper access first (take count (done new_kept events)) outs last ran)
      (keeper.told first.keeper).faults (keeper.told left).faults
      → Keeps (keeper.told last.keeper).rows (keeper.told left).rows → (keeper.told left).faults ≡ (keeper.told last.keeper).faults
      → SettlesPart keeper access first events status.OutOfMemory left

-- every message was settled on the journal that was opened
pub record SettlesAll {K : Type 0} (keeper : KeeperOf K) (held : K) (inputs : Inputs) (moment : ℕ) (outs : List Out)
    (server : ServerOf (SeenOf K)) : Type 0 where
  pub first : SeenOf K
  pub begun : OpensBook keeper held inputs.options inputs.opening moment first
  pub settled : SettlesEach keeper (access_of inputs.options) first inputs.events.items outs server

-- why not every message was settled, and the keeper then: the journal was not opened, and its rows are as they were; or it
-- was opened
pub data SettlesNot {K : Type 0} (keeper : KeeperOf K) (held : K) (inputs : Inputs) (moment : ℕ) : Status → K → Type 0 where
  not_opened : {s : Status} {left : K} → OpensNot (around keeper.told held left) inputs.options.origin inputs.opening s
      → Keeps (keeper.told held).rows (keeper.told left).rows
      → SettlesNot keeper held inputs moment s left
  not_settled : {s : Status} {left : K} → (first : SeenOf K) → OpensBook keeper held inputs.options inputs.opening moment first
      → SettlesPart keeper (access_of inputs.options) first inputs.events.items s left
      → SettlesNot keeper held inputs moment s left
