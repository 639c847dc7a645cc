-- What is seen of connections, when one is over, and which one gives its place to another.
use Rattle.std.specs.Prelude.{◌≡◌, ◌≤◌, ◌<◌, ◌+◌, ◌-◌, ◌/◌, ◌^◌, ◌++◌, ◌⊎◌, min, ℕ, List, [], length, drop, is_none, is_some, true, false, Bool, not, ◌&&◌, ◌||◌, nat_eq, nat_lt, if◌then◌else◌, slice_index_or, Option, Some, None, Result, Ok, Err}
use Rattle.std.specs.List.{count_by}
use Rattle.dns_network.specs.declared.call.Watch.{Watch}
use Rattle.dns_network.specs.declared.call.Watch.TheVariants.{ToRead, ToWrite}
use Rattle.dns_network.specs.declared.call.Why.{Why}
use Rattle.dns_network.specs.declared.call.Why.TheVariants.{Ended, Finished, Gone, Late, Slow}
use Rattle.dns_network.specs.declared.refused.Refused.{Refused}
use Rattle.dns_network.specs.declared.refused.Refused.TheVariants as refusal
use Rattle.dns_network.specs.Words.{has_some}
use Rattle.dns_connections.specs.declared.stage.Fate.{Fate}
use Rattle.dns_connections.specs.declared.stage.Fate.TheVariants.{Stays, Watches, Ends}
use Rattle.dns_connections.specs.declared.stage.Stage.{Stage}
use Rattle.dns_connections.specs.declared.stage.Stage.TheVariants.{Open, Closing, Draining}

-- what a connection is owed: the bytes that its peer did not take yet, since when there are such, and how many there were in all since then
pub record OwedSeen : Type 0 where
  pub left : List ℕ
  pub marked : ℕ
  pub whole : ℕ

-- a connection: its number, whether it stands, its stage, whether it ended and that is to be told, the moment at which something last moved
-- on it, and what it is owed, where it is owed something
pub record LinkSeen : Type 0 where
  pub number : ℕ
  pub stands : Bool
  pub stage : Stage
  pub untold : Bool
  pub heard : ℕ
  pub owed : Option OwedSeen

-- one that was accepted at a moment
abbrev pub fresh_link : ℕ → ℕ → LinkSeen
fresh_link number now = record { number = number; stands = true; stage = Open; untold = false; heard = now; owed = None }

-- its peer sends to the program: it was not asked to close
abbrev pub is_open : Stage → Bool
is_open Open = true
is_open Closing = false
is_open (Draining since) = false

-- all was written, and it was shut
abbrev pub is_draining : Stage → Bool
is_draining Open = false
is_draining Closing = false
is_draining (Draining since) = true

-- how many stand
abbrev pub standing : List LinkSeen → ℕ
standing all = count_by (λ one. one.stands) all

-- what it is owed
abbrev pub left_of : Option OwedSeen → List ℕ
left_of None = []
left_of (Some owed) = owed.left

abbrev pub mark_of : Option OwedSeen → Option ℕ
mark_of None = None
mark_of (Some owed) = Some owed.marked

abbrev pub marked_of : Option OwedSeen → ℕ
marked_of None = 0
marked_of (Some owed) = owed.marked

abbrev pub whole_of : Option OwedSeen → ℕ
whole_of None = 0
whole_of (Some owed) = owed.whole

-- it is owed nothing
abbrev pub is_free : LinkSeen → Bool
is_free one = is_none one.owed

-- what is owed from a moment on, and what is owed where it is more by some bytes
abbrev pub first_owed : ℕ → List ℕ → OwedSeen
first_owed now bytes = record { left = bytes; marked = now; whole = length bytes }

abbrev pub more_owed : List ℕ → OwedSeen → OwedSeen
more_owed bytes owed = record owed { left = owed.left ++ bytes; whole = min (owed.whole + length bytes) (2 ^ 64 - 1) }

-- what is owed behind a write that took so many bytes
abbrev pub owed_behind : ℕ → Option OwedSeen → Option OwedSeen
owed_behind count None = None
owed_behind count (Some owed) =
    if nat_lt count (length owed.left) then Some (record owed { left = drop count owed.left }) else None

-- what is owed behind a piece of which so many bytes were taken
abbrev pub owed_with : ℕ → ℕ → List ℕ → Option OwedSeen → Option OwedSeen
owed_with now taken bytes None = if nat_lt taken (length bytes) then Some (first_owed now (drop taken bytes)) else None
owed_with now taken bytes (Some owed) = Some (more_owed bytes owed)

-- what it is watched for: to be written where it is owed something, and else to be read
abbrev pub watch_for : Option OwedSeen → Watch
watch_for None = ToRead
watch_for (Some owed) = ToWrite

-- within how many milliseconds what it is owed is to be taken: the patience, and a millisecond for each 16 bytes
abbrev pub time_for : ℕ → ℕ → ℕ
time_for patience whole = min (patience + whole / 16) (2 ^ 64 - 1)

-- why it is over by its silence, where it is: nothing moved for longer than the patience while it was owed something, or what it is owed was
-- not taken in its time
abbrev pub why_silent : ℕ → ℕ → ℕ → Option OwedSeen → Option Why
why_silent patience now heard None = None
why_silent patience now heard (Some owed) = if nat_lt patience (now - heard) then Some (Late patience)
    else (if nat_lt (time_for patience owed.whole) (now - owed.marked) then Some (Slow (time_for patience owed.whole)) else None)

-- why it is over, where it is: by its silence, or it was shut a second ago
abbrev pub why_in : Stage → ℕ → ℕ → ℕ → Option OwedSeen → Option Why
why_in Open patience now heard owed = why_silent patience now heard owed
why_in Closing patience now heard owed = why_silent patience now heard owed
why_in (Draining since) patience now heard owed = if nat_lt 1000 (now - since) then Some Finished else None

abbrev pub why_over : ℕ → ℕ → LinkSeen → Option Why
why_over patience now one = if one.stands then why_in one.stage patience now one.heard one.owed else None

-- it is over
abbrev pub is_over : ℕ → ℕ → LinkSeen → Bool
is_over patience now one = is_some (why_over patience now one)

-- it stands, and is owed nothing
abbrev pub is_idle : LinkSeen → Bool
is_idle one = one.stands && is_free one

-- it stands, and was owed something for longer than the patience
abbrev pub is_overdue : ℕ → ℕ → LinkSeen → Bool
is_overdue patience now one = one.stands && not (is_free one) && nat_lt patience (now - marked_of one.owed)

-- the moment since which it was silent: one that was shut counts as silent for ever
abbrev pub since_of : Stage → ℕ → ℕ
since_of Open heard = heard
since_of Closing heard = heard
since_of (Draining since) heard = 0

abbrev pub since : LinkSeen → ℕ
since one = since_of one.stage one.heard

-- the moment at which it began to be owed something
abbrev pub mark : LinkSeen → ℕ
mark one = marked_of one.owed

-- what stands for a connection in a place where none is
abbrev pub no_link : LinkSeen
no_link = record { number = 0; stands = false; stage = Open; untold = false; heard = 0; owed = None }

abbrev pub link_at : List LinkSeen → ℕ → LinkSeen
link_at all place = slice_index_or all place no_link

-- a connection stands in a place, and it is that of a number
pub record StandsAt (all : List LinkSeen) (place : ℕ) : Type 0 where
  pub inside : place < length all
  pub stands : (link_at all place).stands ≡ true

pub record IsAt (all : List LinkSeen) (number place : ℕ) : Type 0 where
  pub inside : place < length all
  pub stands : (link_at all place).stands ≡ true
  pub same : (link_at all place).number ≡ number

-- it is the connection of a number, and stands
abbrev pub is_of : ℕ → LinkSeen → Bool
is_of number one = nat_eq one.number number && one.stands

-- the numbers rise from place to place, so that each stands in one place at most
abbrev pub Rises : List LinkSeen → Type 0
Rises all = (first second : ℕ) → first < second → second < length all → (link_at all first).number < (link_at all second).number

-- the end of a connection in a place is to be told
pub record IsUntoldAt (all : List LinkSeen) (place : ℕ) : Type 0 where
  pub inside : place < length all
  pub untold : (link_at all place).untold ≡ true

-- no connection of these places is so
abbrev pub IsNone : (LinkSeen → Bool) → List LinkSeen → ℕ → Type 0
IsNone so all bound = (other : ℕ) → other < bound → so (link_at all other) ≡ false

-- of the first so many that are so, a place of one with the least moment, where one is so
abbrev pub IsEarliest : (LinkSeen → Bool) → (LinkSeen → ℕ) → List LinkSeen → ℕ → Option ℕ → Type 0
IsEarliest so moment all bound None = IsNone so all bound
IsEarliest so moment all bound (Some place) = (place < bound) × (so (link_at all place) ≡ true)
    × ((other : ℕ) → other < bound → so (link_at all other) ≡ true → moment (link_at all place) ≤ moment (link_at all other))

-- which one gives way, if any can: of those that are owed nothing the one that was silent for the longest time; and where each is owed
-- something the one that was so for the longest time, if that is longer than the patience
abbrev pub GivesWay : ℕ → ℕ → List LinkSeen → Option ℕ → Type 0
GivesWay patience now all None = IsNone is_idle all (length all) × IsNone (is_overdue patience now) all (length all)
GivesWay patience now all (Some place) = IsEarliest is_idle since all (length all) (Some place)
    ⊎ (IsNone is_idle all (length all) × IsEarliest (is_overdue patience now) mark all (length all) (Some place))

-- there is memory for so many bytes
abbrev pub HasRoom : ℕ → Option ℕ → Type 0
HasRoom size None = ⊥
HasRoom size (Some room) = size ≤ room

-- how many bytes a call moved, and when something last moved behind it
abbrev pub count_of : Result ℕ Refused → ℕ
count_of (Ok count) = count
count_of (Err refused) = 0

abbrev pub heard_by : ℕ → ℕ → Result ℕ Refused → ℕ
heard_by now heard given = if has_some given then now else heard

-- a connection behind a read, behind a write of what it is owed, and behind one of a piece that it is handed while it is owed nothing
abbrev pub read_link : ℕ → Result ℕ Refused → LinkSeen → LinkSeen
read_link now given one = record one { heard = heard_by now one.heard given }

abbrev pub written_link : ℕ → Result ℕ Refused → LinkSeen → LinkSeen
written_link now given one = record one { heard = heard_by now one.heard given; owed = owed_behind (count_of given) one.owed }

abbrev pub sent_link : ℕ → List ℕ → Result ℕ Refused → LinkSeen → LinkSeen
sent_link now bytes given one = record one { heard = heard_by now one.heard given; owed = owed_with now (count_of given) bytes None }

-- it is closed: its end is told where it was not asked for
abbrev pub closed_link : LinkSeen → LinkSeen
closed_link one = record one { stands = false; untold = is_open one.stage; owed = None }

-- what becomes of a connection behind a read into a room for so many bytes, whose peer may have said that it sends no more: at the end it is
-- closed, and where more may have come it is watched again
abbrev pub after_read : Bool → ℕ → Result ℕ Refused → Fate
after_read last room (Ok count) =
    if nat_eq count 0 then Ends Ended else (if last || nat_eq count room then Watches else Stays)
after_read last room (Err refusal.Gone) = Ends Gone
after_read last room (Err refusal.Interrupted) = Watches
after_read last room (Err refused) = Stays

-- behind a write of what it is owed
abbrev pub after_write : Result ℕ Refused → Fate
after_write (Ok count) = if nat_eq count 0 then Ends Gone else Watches
after_write (Err refusal.Gone) = Ends Gone
after_write (Err refusal.Interrupted) = Watches
after_write (Err refused) = Stays

-- behind a write of a piece of so many bytes: where some are left it is watched to be written
abbrev pub after_send : ℕ → Result ℕ Refused → Fate
after_send size (Ok count) = if nat_eq count 0 then Ends Gone else (if nat_lt count size then Watches else Stays)
after_send size (Err refusal.Gone) = Ends Gone
after_send size (Err refused) = Watches

-- the bytes that are given of a read: those of one that was asked to close are dropped
abbrev pub given_of : Stage → Result ℕ Refused → ℕ
given_of stage given = if is_open stage then count_of given else 0

-- it stands, or its end is to be told
abbrev pub is_kept : LinkSeen → Bool
is_kept one = one.stands || one.untold

-- for how many milliseconds a peer may take nothing of what it is owed: the limit of its connection, or five seconds where it has none
abbrev pub patience_of : ℕ → ℕ
patience_of limit = if nat_eq limit 0 then 5000 else limit
