-- What the command `serve` does: the book is opened, workers settle what comes to the ports, and the book is closed.
use Rattle.std.specs.Prelude.{◌≡◌, ℕ, List, Some, None, IsSome, Ok, Err}
use Rattle.std.specs.List.{AllByRecursion}
use Rattle.dns_io.specs.declared.io_fault.IoFault.{IoFault}
use Rattle.dns_io.specs.declared.io_fault.IoFault.TheVariants as io
use Rattle.dns_io.specs.Told.{Keeps, Rose}
use Rattle.dns_edges.specs.Edges.{Around}
use Rattle.dns_keeper.specs.Keeping.{KeeperOf}
use Rattle.dns_zone_map.specs.Zone.{serial_of}
use Rattle.dns_book.specs.Book.{SeenOf}
use Rattle.dns_ports.specs.Ports.{UdpTold}
use Rattle.dns_ticket_lock.specs.Naming.{terms_at}
use Rattle.dns_crowd.specs.Crowds.{CrowdTold}
use Rattle.dns_server.specs.Servers.{IsDone, IsReadOut}
use Rattle.dns_command.specs.declared.status.Status.{Status}
use Rattle.dns_command.specs.declared.status.Status.TheVariants as status
use Rattle.dns_command.specs.declared.opening.Opening.{Opening}
use Rattle.dns_command.specs.CommandLine.{access_of}
use Rattle.dns_command.specs.Ends.{IsOpened}
use Rattle.dns_command.specs.Lines.{serve_lines}
use Rattle.dns_command.specs.Ends.{opening_journal}
use Rattle.dns_command.specs.Status.{port_status}
use Rattle.dns_command.specs.Steps.{Finds, FindsNot, OpensNot}
use Rattle.dns_command.specs.World.{World}
use Rattle.dns_words.specs.Writing.{IsUntouched}
use Rattle.dns_crowd_server.specs.Hubs.{CrowdHubTold, OpensOnce, seats_of}
use Rattle.dns_crowd_server.specs.Serving.{EndsServing, ServesPorts}
use Rattle.dns_serve.specs.declared.words.Service.{Service}
use Rattle.dns_serve.specs.Words.{serving_of}

-- what is known of the objects of the command: of a keeper, of a socket, and of a crowd of connections what it tells
pub record Meanings (K U C : Type 0) : Type 1 where
  pub keeper : KeeperOf K
  pub socket : U → UdpTold
  pub crowd : C → CrowdTold

abbrev pub meanings : {K U C : Type 0} → KeeperOf K → (U → UdpTold) → (C → CrowdTold) → Meanings K U C
meanings keeper socket crowd = record { keeper = keeper; socket = socket; crowd = crowd }

-- the words are legal, and the journal was opened at the moment that the clock was asked for
pub record Begins {K : Type 0} (keeper : KeeperOf K) (w : World) (service : Service) (first : SeenOf K) : Type 0 where
  pub opening : Opening
  pub legal : serving_of w.words ≡ Some service
  pub found : Finds (opening_journal keeper w first) w.zone service.options.origin opening
  pub moment : ℕ
  pub asked : w.moment ≡ Some moment
  pub opened : IsOpened keeper w.journal.before service.options moment opening first

module _ {K U C : Type 0} (m : Meanings K U C) where
  -- Everything was served, and this is the output: the serial of the zone that the rows of the closing book stand for, and their number.
  -- What the words ask for was opened, by one opening, and nothing else, and none failed. Each worker did its work to its end: nothing is
  -- left at its port, and memory was found for all. The rows begin with the opening ones and with all that each worker's pass has seen, and
  -- past the opening they are exactly those of the passes' receipts
  pub record Serves (w : World) (hub : Around (CrowdHubTold U C)) (written : List ℕ) : Type 0 where
    pub service : Service
    pub first : SeenOf K
    pub last : SeenOf K
    pub begun : Begins m.keeper w service first
    pub opened : OpensOnce hub.before hub.after service.places
    pub ports : ServesPorts m.keeper m.socket m.crowd hub w.events service.places (terms_at m.keeper first (seats_of service.places))
        (access_of service.options) last (Ok tt)
    pub sockets_done : AllByRecursion IsDone ports.after.sockets
    pub crowds_done : AllByRecursion IsDone ports.after.crowds
    pub stopped : IsReadOut w.events
    pub left : m.keeper.told last.keeper ≡ w.journal.after
    pub text : written ≡ serve_lines (serial_of last.zone.records) last.row_count

  -- The serving went no further: no memory was found to share the book; or what the words ask for could not be opened, or failed, and the
  -- hub's count rose; or memory ran out. The book was closed for all its passes
  pub record Stops (w : World) (hub : Around (CrowdHubTold U C)) (s : Status) : Type 0 where
    pub service : Service
    pub first : SeenOf K
    pub last : SeenOf K
    pub begun : Begins m.keeper w service first
    pub fault : IoFault
    pub served : EndsServing m.keeper m.socket m.crowd hub w.events service.places (access_of service.options) first last (Err fault)
    pub rose : fault ≡ io.Failed → Rose hub.before.faults hub.after.faults
    pub status : s ≡ port_status fault
    pub left : m.keeper.told last.keeper ≡ w.journal.after

  -- why nothing was opened, by the first step in the order of the work that was refused: the journal has the rows that it had. The clock
  -- was asked where the journal was to be opened, and only there
  pub data IsUnserved (w : World) : Status → Type 0 where
    without_memory : IsUntouched w.zone → IsUntouched w.journal → w.moment ≡ None → IsUnserved w status.OutOfMemory
    at_finding : {s : Status} → (service : Service) → serving_of w.words ≡ Some service
        → FindsNot w.journal w.zone service.options.origin s → Keeps w.journal.before.rows w.journal.after.rows → w.moment ≡ None
        → IsUnserved w s
    at_opening : {s : Status} → (service : Service) (opening : Opening) → serving_of w.words ≡ Some service
        → Finds w.journal w.zone service.options.origin opening → OpensNot w.journal service.options.origin opening s
        → Keeps w.journal.before.rows w.journal.after.rows → IsSome w.moment → IsUnserved w s

  -- a refusal: before the book was there, and then neither the hub nor the source that is read until it ends was used; or behind that
  pub data Refuses (w : World) (hub : Around (CrowdHubTold U C)) (s : Status) : Type 0 where
    unserved : IsUnserved w s → IsUntouched hub → IsUntouched w.events → Refuses w hub s
    stopped : Stops w hub s → Refuses w hub s
