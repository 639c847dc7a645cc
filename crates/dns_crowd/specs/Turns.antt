-- What the worker of a crowd does with what comes (RFC 1035 4.2.2, RFC 7766, RFC 9210 4.2).
use Rattle.std.specs.Prelude.{◌≡◌, ◌≢◌, ◌⊎◌, ℕ, List, [], ◌∷◌, ◌++◌, map, if◌then◌else◌, false, ◌||◌, Option, Some, None, Result, Ok, Err}
use Rattle.std.specs.List.{AllByRecursion, Contains, filter, filter_map, flat_map}
use Rattle.std.specs.List.Sorted.{IsPermutation}
use Rattle.dns_io.specs.declared.io_fault.IoFault.{IoFault}
use Rattle.dns_io.specs.declared.io_fault.IoFault.TheVariants.{Failed, OutOfMemory}
use Rattle.dns_io.specs.Told.{Grows, Keeps, Rose, Takes}
use Rattle.dns_book.specs.declared.ask.Ask.{Ask}
use Rattle.dns_book.specs.declared.ask.Settled.{Settled}
use Rattle.dns_ports.specs.Ports.{IsEmpty}
use Rattle.dns_server_core.specs.declared.event.Event.{Event}
use Rattle.dns_server_core.specs.declared.event.Event.TheVariants.{Accepted, Bytes, Ended, Datagram, Tick, Stop}
use Rattle.dns_server_core.specs.declared.event.Out.{Out}
use Rattle.dns_server_core.specs.Connections.{Connection, Kept, after as kept_after, done, is_safe, is_within, new_kept}
use Rattle.dns_server_core.specs.Events.{is_stop, last_number, moment, number_in}
use Rattle.dns_server_core.specs.Runs.{Completed, Run}
use Rattle.dns_server_core.specs.Steps.{completed_now, open_next, step}
use Rattle.dns_crowd.specs.Crowds.{CrowdTold}
use Rattle.dns_crowd.specs.Replies.{Falters, sent_bytes}

-- those that are within their limits at a moment
abbrev pub timely : ℕ → List Connection → List Connection
timely at connections = filter (λ k. is_within k.limit k.base at) connections

-- their numbers
abbrev pub numbers_of : List Connection → List ℕ
numbers_of connections = map (λ k. k.number) connections

-- the numbers of those that are past their limits at a moment
abbrev pub late_number : ℕ → Connection → List ℕ
late_number at k = if is_within k.limit k.base at then [] else k.number ∷ []

abbrev pub late_numbers : ℕ → List Connection → List ℕ
late_numbers at connections = flat_map (late_number at) connections

-- those that stay open behind an event, by the last moment: where time passes, those that are late go
abbrev pub stays_by : Event → ℕ → List Connection → List Connection
stays_by (Accepted at conn peer limit) last connections = connections
stays_by (Bytes at conn piece) last connections = connections
stays_by (Ended at conn) last connections = connections
stays_by (Datagram at peer bytes) last connections = connections
stays_by (Tick at) last connections = timely last connections
stays_by (Stop at) last connections = connections

-- the numbers of those that go
abbrev pub late_by : Event → ℕ → List Connection → List ℕ
late_by (Accepted at conn peer limit) last connections = []
late_by (Bytes at conn piece) last connections = []
late_by (Ended at conn) last connections = []
late_by (Datagram at peer bytes) last connections = []
late_by (Tick at) last connections = late_numbers last connections
late_by (Stop at) last connections = []

-- the number of a connection that is open no more
abbrev pub gone_number : Option Connection → ℕ → List ℕ
gone_number None number = number ∷ []
gone_number (Some connection) number = []

-- the numbers of those that an event itself closes: one from a peer that is not safe, and one of which a piece came that was late, or that
-- brought its last message
abbrev pub done_by : Event → List Connection → List ℕ
done_by (Accepted at conn peer limit) connections = if is_safe peer then [] else conn ∷ []
done_by (Bytes at conn piece) connections = flat_map (λ k. gone_number (step (Bytes at conn piece) k) k.number) connections
done_by (Ended at conn) connections = []
done_by (Datagram at peer bytes) connections = []
done_by (Tick at) connections = []
done_by (Stop at) connections = []

-- the numbers of all that are closed at an event, and the connections that stay open behind it
abbrev pub closed_at : Event → List Connection → List ℕ
closed_at e connections = done_by e connections ++ late_by e (moment e) (open_next e connections)

abbrev pub stands_behind : Event → List Connection → List Connection
stands_behind e connections = stays_by e (moment e) (open_next e connections)

-- connections are closed event by event: at each exactly those that it closes, each once
abbrev pub ClosesEach : List Connection → List Event → List ℕ → Type 0
ClosesEach connections [] closed = closed ≡ []
ClosesEach connections (e ∷ events) closed = (first : List ℕ) × (later : List ℕ) × (closed ≡ first ++ later)
    × IsPermutation (closed_at e connections) first × ClosesEach (stands_behind e connections) events later

-- connections were closed, as events close them one after the other, of which the first is the first of all
pub record ClosesAs (before now : Option (List ℕ)) (events : List Event) : Type 0 where
  pub closed : List ℕ
  pub grown : Grows before now closed
  pub each : ClosesEach [] events closed

-- connections were closed, and these are their numbers, in some order
pub record ShutsAll (before now : Option (List ℕ)) (numbers : List ℕ) : Type 0 where
  pub closed : List ℕ
  pub grown : Grows before now closed
  pub all : IsPermutation numbers closed

-- all of them stay, or those that are within their limits at a moment
abbrev pub LetsGo : ℕ → List Connection → List Connection → Type 0
LetsGo at before after = (after ≡ before) ⊎ (after ≡ timely at before)

-- a number is among these, and no connection that is open has it
pub record IsShut (numbers : List ℕ) (alive : List Connection) (number : ℕ) : Type 0 where
  pub among : Contains numbers number
  pub gone : AllByRecursion (λ k. k.number ≢ number) alive

-- connections were closed, each of which is among these numbers, and is not open
pub record Shuts (before now : Option (List ℕ)) (numbers : List ℕ) (alive : List Connection) : Type 0 where
  pub closed : List ℕ
  pub grown : Grows before now closed
  pub shut : AllByRecursion (IsShut numbers alive) closed

-- an event behind which its connection is to be closed: one from a peer that is not safe, or one that was open before the piece that came,
-- and is not open behind it
abbrev pub IsDone : Event → List Connection → List Connection → Type 0
IsDone (Accepted at conn peer limit) before after = is_safe peer ≡ false
IsDone (Bytes at conn piece) before after = IsShut (numbers_of before) after conn
IsDone (Ended at conn) before after = ⊥
IsDone (Datagram at peer bytes) before after = ⊥
IsDone (Tick at) before after = ⊥
IsDone (Stop at) before after = ⊥

-- where no memory was found for what came, its connection is open no more
abbrev pub lost : Event → List Connection → List Connection
lost (Accepted at conn peer limit) connections = connections
lost (Bytes at conn piece) connections = filter_map (step (Ended at conn)) connections
lost (Ended at conn) connections = connections
lost (Datagram at peer bytes) connections = connections
lost (Tick at) connections = connections
lost (Stop at) connections = connections

abbrev pub next_lost : Kept → Event → Kept
next_lost kept e = record {
  last = moment e;
  greatest = last_number kept.greatest (number_in e);
  stopped = kept.stopped || is_stop e;
  connections = lost e kept.connections;
}

-- nothing was read of a crowd, and nothing handed to it
pub record Holds (before after : CrowdTold) : Type 0 where
  pub unread : Keeps before.left after.left
  pub untaken : Keeps before.taken after.taken

-- nothing was read of a crowd, nothing handed to it, and no call of it failed
pub record IsUnasked (before after : CrowdTold) : Type 0 where
  pub unread : Keeps before.left after.left
  pub untaken : Keeps before.taken after.taken
  pub last : after.last ≡ before.last
  pub greatest : after.greatest ≡ before.greatest
  pub calm : after.faults ≡ before.faults

-- how far memory was found for an event: its messages were settled, and the crowd took their replies; or it found none to take them; or
-- there was none to settle the messages
pub data Fate : Type 0 where
  Served : Fate
  Unsent : Fate
  Unsettled : Fate

-- an event that came, and how far memory was found for it
pub record Handled : Type 0 where
  pub event : Event
  pub fate : Fate

-- the connections that are open behind an event: where memory was wanting, its connection is not
abbrev pub open_by : Fate → Event → List Connection → List Connection
open_by Served e connections = open_next e connections
open_by Unsent e connections = lost e (open_next e connections)
open_by Unsettled e connections = lost e connections

-- the meaning of a handler
module _ {H : Type 0} (serves : H → Ask → Settled → H → Type 0) (skips : H → H → Type 0) where
  -- the messages that an event completes were settled, and these are their replies; or no reply was sent, and all of them were settled, or
  -- the first of them
  abbrev pub SettlesBy : Fate → H → List Completed → List Out → H → Type 0
  SettlesBy Served before asks outs after = Run serves before asks outs after
  SettlesBy Unsent before asks outs after = ((owed : List Out) × Run serves before asks owed after) × (outs ≡ [])
  SettlesBy Unsettled before asks outs after = Falters serves skips before asks after × (outs ≡ [])

  -- one event after the other, from these connections on
  abbrev pub SettlesEach : H → List Connection → List Handled → List Out → H → Type 0
  SettlesEach before connections [] outs after = (after ≡ before) × (outs ≡ [])
  SettlesEach before connections (one ∷ others) outs after = (between : H) × (first : List Out) × (later : List Out)
      × SettlesBy one.fate before (completed_now one.event connections) first between × (outs ≡ first ++ later)
      × SettlesEach between (open_by one.fate one.event connections) others later after

-- the meanings of a handler, and of a crowd
module _ {H C : Type 0} (serves : H → Ask → Settled → H → Type 0) (skips : H → H → Type 0) (told : C → CrowdTold) where
  -- one event was served, as far as memory was found, and the crowd was handed these replies
  pub record Treats (before : H) (crowd : C) (kept : Kept) (e : Event) (fate : Fate) (after : H) (crowd_now : C) : Type 0 where
    pub outs : List Out
    pub settled : SettlesBy serves skips fate before (completed_now e kept.connections) outs after
    pub sent : Grows (told crowd).taken (told crowd_now).taken (sent_bytes outs)
    pub unread : Keeps (told crowd).left (told crowd_now).left

  -- what a worker did, however it ended: these events came, one was served after the other, as far as memory was found for it, and the
  -- crowd took exactly the replies to those that were served whole
  pub record Working (before : H) (crowd : C) (after : H) (crowd_now : C) : Type 0 where
    pub handled : List Handled
    pub came : Takes (told crowd).left (told crowd_now).left (map (λ one. one.event) handled)
    pub outs : List Out
    pub settled : SettlesEach serves skips before [] handled outs after
    pub sent : Grows (told crowd).taken (told crowd_now).taken (sent_bytes outs)

-- the meaning of a crowd
module _ {C : Type 0} (told : C → CrowdTold) where
  -- the worker goes on behind an event: it keeps its moment, and its number where it accepts one, and no call of the crowd failed
  pub record GoesOn (crowd : C) (kept : Kept) (e : Event) (crowd_now : C) (kept_now : Kept) : Type 0 where
    pub at : kept_now.last ≡ moment e
    pub accepted : kept_now.greatest ≡ last_number kept.greatest (number_in e)
    pub last : (told crowd_now).last ≡ (told crowd).last
    pub greatest : (told crowd_now).greatest ≡ (told crowd).greatest
    pub calm : (told crowd_now).faults ≡ (told crowd).faults

-- the meanings of a handler, and of a crowd
module _ {H C : Type 0} (serves : H → Ask → Settled → H → Type 0) (told : C → CrowdTold) where
  -- one event was served: the messages that it completes were settled, the crowd was handed their replies, and of the connections that
  -- are open now those that are in time are the ones that the event leaves so; those that were closed were open before it or are accepted
  -- by it, and are not open now
  pub record Attends (before : H) (crowd : C) (kept : Kept) (e : Event) (after : H) (crowd_now : C) (kept_now : Kept) : Type 0 where
    pub outs : List Out
    pub run : Run serves before (completed_now e kept.connections) outs after
    pub alike : timely (moment e) kept_now.connections ≡ timely (moment e) (open_next e kept.connections)
    pub part : LetsGo (moment e) (open_next e kept.connections) kept_now.connections
    pub at : kept_now.last ≡ moment e
    pub accepted : kept_now.greatest ≡ last_number kept.greatest (number_in e)
    pub sent : Grows (told crowd).taken (told crowd_now).taken (sent_bytes outs)
    pub unread : Keeps (told crowd).left (told crowd_now).left
    pub closed : Shuts (told crowd).closed (told crowd_now).closed (numbers_of kept.connections ++ number_in e) kept_now.connections
    pub stands : kept_now.connections ≡ stands_behind e kept.connections
    pub shuts : ShutsAll (told crowd).closed (told crowd_now).closed (closed_at e kept.connections)
    pub last : (told crowd_now).last ≡ (told crowd).last
    pub greatest : (told crowd_now).greatest ≡ (told crowd).greatest
    pub calm : (told crowd_now).faults ≡ (told crowd).faults

  -- these events came; the messages that they complete, at most the first hundred of each connection, were settled in the order in which
  -- they were complete; the crowd took exactly the replies that they are owed, each for its connection; and each connection that was closed
  -- was accepted, and is not open at the end; they were closed in the order of the events: one whose peer is not safe when it was accepted,
  -- one that had its last message, or came too late, with that piece, and those that were late when time passed, each once and no other
  pub record Works (before : H) (crowd : C) (after : H) (crowd_now : C) : Type 0 where
    pub happened : List Event
    pub came : Takes (told crowd).left (told crowd_now).left happened
    pub outs : List Out
    pub run : Run serves before (done new_kept happened) outs after
    pub sent : Grows (told crowd).taken (told crowd_now).taken (sent_bytes outs)
    pub closed : Shuts (told crowd).closed (told crowd_now).closed (flat_map number_in happened) (kept_after new_kept happened).connections
    pub closings : ClosesAs (told crowd).closed (told crowd_now).closed happened
    pub end : IsEmpty (told crowd_now).left
    pub calm : (told crowd_now).faults ≡ (told crowd).faults

  -- how the worker ended: all that came was served; or a call of the crowd failed; or memory was wanting, and none failed
  abbrev pub EndsBy : H → C → H → C → Result (Unit {0}) IoFault → Type 0
  EndsBy before crowd after crowd_now (Ok done) = Works before crowd after crowd_now
  EndsBy before crowd after crowd_now (Err Failed) = Rose (told crowd).faults (told crowd_now).faults
  EndsBy before crowd after crowd_now (Err OutOfMemory) = (told crowd_now).faults ≡ (told crowd).faults

-- what a worker did, and how it ended
pub record ServesCrowd {H C : Type 0} (serves : H → Ask → Settled → H → Type 0) (skips : H → H → Type 0) (told : C → CrowdTold)
    (before : H) (crowd : C) (after : H) (crowd_now : C)
    (result : Result (Unit {0}) IoFault) : Type 0 where
  pub work : Working serves skips told before crowd after crowd_now
  pub ends : EndsBy serves told before crowd after crowd_now result
