-- What a crowd of connections tells of itself, and what a call of it does to that (RFC 1035 4.2.2, RFC 7766).
use Rattle.std.specs.Prelude.{◌≡◌, ◌≤◌, ℕ, List, [], ◌∷◌, length, map, take, Option, Some, None, IfSome, Result, IfOk, OnOk, OnErr}
use Rattle.std.specs.List.{AllByRecursion, flat_map}
use Rattle.dns_io.specs.declared.io_fault.IoFault.{IoFault}
use Rattle.dns_io.specs.Told.{Grows, Keeps}
use Rattle.dns_edges.specs.Edges.{HasCause}
use Rattle.dns_ports.specs.Ports.{GivesNext}
use Rattle.dns_server_core.specs.declared.event.Event.{Event}
use Rattle.dns_server_core.specs.declared.event.Event.TheVariants as event
use Rattle.dns_server_core.specs.Events.{last_number, moment, number_in}
use Rattle.dns_server_core.specs.Valid.{Fits, NeverFalls, Rises}
use Rattle.dns_readiness.specs.declared.came.Came.{Came}
use Rattle.dns_readiness.specs.declared.came.Came.TheVariants.{Accepted, Bytes, Ended, Tick}
use Rattle.dns_readiness.specs.Came.{count_of}
use Rattle.dns_readiness.specs.Decisions.{SocketState}
use Rattle.dns_crowd.specs.declared.coming.Coming.{Coming}
use Rattle.dns_crowd.specs.declared.coming.Coming.TheVariants as coming

-- the event that came, with the bytes in the room
abbrev pub event_of : List ℕ → Came → Event
event_of room (Accepted at conn peer limit) = event.Accepted at conn peer limit
event_of room (Bytes at conn count) = event.Bytes at conn (take count room)
event_of room (Ended at conn) = event.Ended at conn
event_of room (Tick at) = event.Tick at

-- the event that is to come
abbrev pub event_by : Coming → Event
event_by (coming.Accepted at conn peer limit) = event.Accepted at conn peer limit
event_by (coming.Bytes at conn piece) = event.Bytes at conn piece
event_by (coming.Ended at conn) = event.Ended at conn
event_by (coming.Tick at) = event.Tick at

-- how many bytes it brings
abbrev pub size_of : Coming → ℕ
size_of (coming.Accepted at conn peer limit) = 0
size_of (coming.Bytes at conn piece) = length piece
size_of (coming.Ended at conn) = 0
size_of (coming.Tick at) = 0

-- bytes that go to a connection, each with its number
abbrev pub bytes_for : ℕ → List ℕ → List (ℕ × ℕ)
bytes_for number bytes = map (λ b. (number, b)) bytes

-- a crowd: the events that are left, the bytes that it took, each with the number of its connection, and the connections that were
-- closed, each in order, where they are told; the last moment and the greatest number that it gave, and how many calls failed
pub record CrowdTold : Type 0 where
  pub left : Option (List Event)
  pub taken : Option (List (ℕ × ℕ))
  pub closed : Option (List ℕ)
  pub last : ℕ
  pub greatest : Option ℕ
  pub faults : ℕ

-- an event may come behind a moment and a greatest number: it fits, no moment falls, and a number that is accepted is new
pub record MayCome (last : ℕ) (greatest : Option ℕ) (e : Event) : Type 0 where
  pub fit : Fits e
  pub later : last ≤ moment e
  pub rises : Rises greatest (number_in e)

-- so do all of a list, one behind the other
pub record AllMayCome (last : ℕ) (greatest : Option ℕ) (events : List Event) : Type 0 where
  pub fit : AllByRecursion Fits events
  pub moments : NeverFalls last (map moment events)
  pub numbers : Rises greatest (flat_map number_in events)

-- the last moment, and the greatest number, behind what came
abbrev pub moment_behind : ℕ → Option Event → ℕ
moment_behind last None = last
moment_behind last (Some e) = moment e

abbrev pub number_behind : Option ℕ → Option Event → Option ℕ
number_behind greatest None = greatest
number_behind greatest (Some e) = last_number greatest (number_in e)

-- what came, by the room that it was received into
abbrev pub came_into : List ℕ → Option Came → Option Event
came_into room None = None
came_into room (Some came) = Some (event_of room came)

-- one call for what comes next, and the room as it left it; after an error none was taken
pub record Gives (before after : CrowdTold) (room : List ℕ) (result : Result (Option Came) IoFault) : Type 0 where
  pub size : IfOk result (λ came. IfSome came (λ c. count_of c ≤ length room))
  pub comes : IfOk result (λ came. IfSome came (λ c. MayCome before.last before.greatest (event_of room c)))
  pub given : IfOk result (λ came. GivesNext before.left after.left (came_into room came))
  pub last : IfOk result (λ came. after.last ≡ moment_behind before.last (came_into room came))
  pub greatest : IfOk result (λ came. after.greatest ≡ number_behind before.greatest (came_into room came))
  pub kept : OnErr result (Keeps before.left after.left)
  pub same : OnErr result ((after.last ≡ before.last) × (after.greatest ≡ before.greatest))
  pub untaken : Keeps before.taken after.taken
  pub unclosed : Keeps before.closed after.closed
  pub cause : HasCause before.faults after.faults result

-- bytes were handed to a connection; after an error it took nothing
pub record Sends (before after : CrowdTold) (number : ℕ) (bytes : List ℕ) (result : Result (Unit {0}) IoFault) : Type 0 where
  pub grows : OnOk result (Grows before.taken after.taken (bytes_for number bytes))
  pub kept : OnErr result (Keeps before.taken after.taken)
  pub unread : Keeps before.left after.left
  pub unclosed : Keeps before.closed after.closed
  pub same : (after.last ≡ before.last) × (after.greatest ≡ before.greatest)
  pub cause : HasCause before.faults after.faults result

-- a connection was closed; after an error it was not
pub record Closes (before after : CrowdTold) (number : ℕ) (result : Result (Unit {0}) IoFault) : Type 0 where
  pub grows : OnOk result (Grows before.closed after.closed (number ∷ []))
  pub kept : OnErr result (Keeps before.closed after.closed)
  pub unread : Keeps before.left after.left
  pub untaken : Keeps before.taken after.taken
  pub same : (after.last ≡ before.last) × (after.greatest ≡ before.greatest)
  pub cause : HasCause before.faults after.faults result

-- a crowd of the operating system tells what it counts alone
abbrev pub untold_crowd : SocketState → CrowdTold
untold_crowd s = record { left = None; taken = None; closed = None; last = s.last; greatest = s.greatest; faults = s.faults }
