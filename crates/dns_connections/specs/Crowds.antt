-- A crowd of connections over a network, and what its calls give.
use Rattle.std.specs.Prelude.{◌≡◌, ◌≤◌, ◌<◌, ◌+◌, ◌^◌, ℕ, zero, suc, List, [], ◌∷◌, ◌++◌, length, take, Bool, true, Option, Some, None, Ok, slice_set, if◌then◌else◌, ◌&&◌, nat_le, nat_lt}
use Rattle.std.specs.List.{list_any}
use Rattle.dns_network.specs.Calls.{Noted, shut}
use Rattle.dns_network.specs.declared.call.Call.TheVariants as call
use Rattle.dns_network.specs.Words.{is_stopped}
use Rattle.dns_readiness.specs.Came.{count_of, moment_of}
use Rattle.dns_readiness.specs.declared.came.Came.{Came as Event}
use Rattle.dns_readiness.specs.declared.came.Came.TheVariants as came
use Rattle.dns_connections.specs.Accepting.{PlacesSeen}
use Rattle.dns_connections.specs.Links.{LinkSeen, IsNone, is_of, is_open, is_over, left_of, patience_of}
use Rattle.dns_connections.specs.Moments.{Clocks, clocks_of}
use Rattle.dns_connections.specs.declared.crowd.Step.{Step}
use Rattle.dns_connections.specs.declared.crowd.Step.TheVariants as step

-- a crowd: its network, what it was handed for its peers and asked to close, what it gave of them, its connections in the order of their
-- numbers, the next number, what it read off the clocks, the limit of a connection, the places, whether a call since the last wait gave something,
-- the last moment that it gave, whether it ended, how many calls failed, and how many wanted memory
pub record CrowdSeen (N : Type 0) : Type 0 where
  pub network : N
  pub handed : List Noted
  pub came : List Noted
  pub links : List LinkSeen
  pub next : ℕ
  pub clocks : Clocks
  pub limit : ℕ
  pub places : PlacesSeen
  pub worked : Bool
  pub last : ℕ
  pub ended : Bool
  pub faults : ℕ
  pub wants : ℕ

-- what holds of it between any two calls, beside what it keeps
pub record IsCrowd (calls : List Noted) (clocks : Clocks) (limit last : ℕ) (ended : Bool) : Type 0 where
  pub read : clocks_of calls ≡ clocks
  pub later : last ≤ clocks.moment
  pub bound : limit < 2 ^ 47
  pub stopped : ended ≡ true → is_stopped calls ≡ true

-- the greatest number that was accepted, where the next one is this
abbrev pub greatest_of : ℕ → Option ℕ
greatest_of zero = None
greatest_of (suc n) = Some n

-- the next number behind what came
abbrev pub next_behind : ℕ → Event → ℕ
next_behind next (came.Accepted at conn peer limit) = next + 1
next_behind next (came.Bytes at conn count) = next
next_behind next (came.Ended at conn) = next
next_behind next (came.Tick at) = next

abbrev pub next_with : ℕ → Option Event → ℕ
next_with next None = next
next_with next (Some event) = next_behind next event

-- a piece that was handed to a connection, and one that was given of it
abbrev pub handed_piece : ℕ → List ℕ → Noted
handed_piece conn bytes = (call.Wrote conn (length bytes) (Ok (length bytes)), bytes)

abbrev pub given_piece : ℕ → ℕ → List ℕ → Noted
given_piece conn count bytes = (call.Read conn count (Ok count), bytes)

-- what is given with what came
abbrev pub given_in : List ℕ → Event → List Noted
given_in room (came.Accepted at conn peer limit) = []
given_in room (came.Bytes at conn count) = given_piece conn count (take count room) ∷ []
given_in room (came.Ended at conn) = []
given_in room (came.Tick at) = []

abbrev pub given_with : List ℕ → Option Event → List Noted
given_with room None = []
given_with room (Some event) = given_in room event

-- no connection is over
abbrev pub NobodyOver : ℕ → ℕ → List LinkSeen → Type 0
NobodyOver patience now links = IsNone (is_over patience now) links (length links)

-- of what came: a connection that was accepted has the next number, and the limit; and where time passed nobody is over
abbrev pub IsRightly : {N : Type 0} → CrowdSeen N → CrowdSeen N → Event → Type 0
IsRightly before after (came.Accepted at conn peer limit) = (conn ≡ before.next) × (limit ≡ before.limit)
IsRightly before after (came.Bytes at conn count) = Unit {0}
IsRightly before after (came.Ended at conn) = Unit {0}
IsRightly before after (came.Tick at) = NobodyOver (patience_of before.limit) after.clocks.ticks after.links

-- what came of one step
pub record IsGiven {N : Type 0} (before after : CrowdSeen N) (room : List ℕ) (event : Event) : Type 0 where
  pub moment : moment_of event ≡ after.clocks.moment
  pub bound : moment_of event < 2 ^ 47
  pub few : count_of event ≤ 65535
  pub inside : count_of event ≤ length room
  pub next : after.next ≡ next_behind before.next event
  pub told : after.came ≡ before.came ++ given_in room event
  pub rightly : IsRightly before after event

-- nothing came
pub record IsQuiet {N : Type 0} (before after : CrowdSeen N) : Type 0 where
  pub next : after.next ≡ before.next
  pub told : after.came ≡ before.came

-- one step of it: calls were made, and connections came, went or changed
pub record HasMoved {N : Type 0} (before after : CrowdSeen N) : Type 0 where
  pub same : after ≡ record before {
    network = after.network;
    came = after.came;
    links = after.links;
    next = after.next;
    clocks = after.clocks;
    places = after.places;
    worked = after.worked;
  }
  pub most : after.places.most ≡ before.places.most
  pub later : before.clocks.moment ≤ after.clocks.moment

-- what a step gave
abbrev pub StepsTo : {N : Type 0} → (N → List Noted) → CrowdSeen N → CrowdSeen N → List ℕ → Step → Type 0
StepsTo calls before after room (step.Came event) = IsGiven before after room event
StepsTo calls before after room step.Stopped = IsQuiet before after × (is_stopped (calls after.network) ≡ true)
StepsTo calls before after room step.Nothing = IsQuiet before after

-- the connection of a number stands, and was not asked to close
abbrev pub has_open : ℕ → List LinkSeen → Bool
has_open conn links = list_any (λ one. is_of conn one && is_open one.stage) links

-- what was handed, where the connection of a number is handed these bytes, or is asked to close: one that is not open lets it go
abbrev pub handed_with : ℕ → List ℕ → List LinkSeen → List Noted → List Noted
handed_with conn bytes links before = if nat_lt 0 (length bytes) && has_open conn links then before ++ handed_piece conn bytes ∷ [] else before

abbrev pub asked_with : ℕ → List LinkSeen → List Noted → List Noted
asked_with conn links before = if has_open conn links then before ++ shut conn (Ok tt) ∷ [] else before

-- the last connection that was accepted is told
abbrev pub IsAdmitted : {N : Type 0} → CrowdSeen N → Step → Type 0
IsAdmitted state (step.Came (came.Accepted at conn peer limit)) = (at ≡ state.clocks.moment) × (at < 2 ^ 47) × (conn + 1 ≡ state.next) × (limit ≡ state.limit)
IsAdmitted state other = ⊥

-- one connection changed, to one that is so
pub record BecomesOne (place : ℕ) (before after : List LinkSeen) (so : LinkSeen → Type 0) : Type 0 where
  pub one : LinkSeen
  pub is : after ≡ slice_set before place one
  pub is_so : so one

-- the connection of a number stands, and is owed a mebibyte
abbrev pub has_full : ℕ → List LinkSeen → Bool
has_full conn links = list_any (λ one. is_of conn one && nat_le (2 ^ 20) (length (left_of one.owed))) links

-- how long a wait is, in milliseconds: none where a call since the last one gave something, and one may wait to be accepted that was not asked for
abbrev pub wait_with : Bool → Bool → ℕ
wait_with worked is_known = if worked && is_known then 0 else 100
