-- What the connections of the operating system decide, and what they count.
use Rattle.std.specs.Prelude.{ℕ, ℤ, List, [], ◌∷◌, ◌+◌, ◌-◌, ◌*◌, ◌^◌, min, nat_le, nat_lt, nat_eq, unsigned_abs, if◌then◌else◌, Bool, false, not, ◌&&◌, ◌||◌, Option, Some, None}
use Rattle.std.specs.List.{list_any}
use Rattle.std.specs.declared.io.ErrorKind.{ErrorKind}
use Rattle.std.specs.declared.io.ErrorKind.TheVariants as kind
use Rattle.dns_readiness.specs.declared.accepting.Accepting.{Accepting}
use Rattle.dns_readiness.specs.declared.accepting.Turn.TheVariants as turn
use Rattle.dns_readiness.specs.declared.decisions.Outcome.{Outcome}
use Rattle.dns_readiness.specs.declared.decisions.Outcome.TheVariants as outcome
use Rattle.dns_readiness.specs.declared.decisions.Refusal.{Refusal}
use Rattle.dns_readiness.specs.declared.decisions.Refusal.TheVariants as refusal
use Rattle.dns_readiness.specs.declared.link.Stage.{Stage}

-- what a connection is owed: the bytes that its peer did not take yet, since when there are such, and how many there were in all since then
pub record OwedSeen : Type 0 where
  pub left : List ℕ
  pub marked : ℕ
  pub whole : ℕ

-- a connection: its number, the moment at which it was last heard, what it is owed, where it is owed something, its stage, and whether it
-- broke
pub record LinkSeen : Type 0 where
  pub number : ℕ
  pub heard : ℕ
  pub owed : Option OwedSeen
  pub stage : Stage
  pub broken : Bool

-- places for connections: how many may be taken by all crowds of a listener, how many this one holds, and whether the last that it took was
-- one above the most, and it gave none back since
pub record PlacesSeen : Type 0 where
  pub most : ℕ
  pub held : ℕ
  pub is_over : Bool

-- what is seen of them: the last moment and the greatest number that were given, the last reading of the clock, the limit of a
-- connection, the connections in the order in which they were accepted, those that ended among them, how many are open, of at most how many,
-- whether the crowd ended, and how many calls failed
pub record SocketState : Type 0 where
  pub last : ℕ
  pub greatest : Option ℕ
  pub reading : ℕ
  pub limit : ℕ
  pub links : List LinkSeen
  pub open_now : ℕ
  pub most : ℕ
  pub ended : Bool
  pub faults : ℕ

-- those of a listener to which none came yet, by the limit and the most that are open
abbrev pub new_crowd : ℕ → ℕ → SocketState
new_crowd limit most =
    record { last = 0; greatest = None; reading = 0; limit = limit; links = []; open_now = 0; most = most; ended = false; faults = 0 }

-- what becomes of a read or a write of a connection after an error of this kind: it is made again at once, or once the connection is
-- ready, or the connection is over
abbrev pub transfer_after : ErrorKind → Outcome
transfer_after kind.Interrupted = outcome.Again
transfer_after kind.WouldBlock = outcome.Rests
transfer_after _ = outcome.Over

-- the errors of an accept that are one connection's, so that the next one may be taken at once (accept(2)): EPERM, EINTR, ENONET, EPROTO,
-- ENOPROTOOPT, EOPNOTSUPP, ENETDOWN, ENETUNREACH, ECONNABORTED, ECONNRESET, ETIMEDOUT, ECONNREFUSED, EHOSTDOWN, EHOSTUNREACH
abbrev pub errors_of_one : List ℕ
errors_of_one = 1 ∷ 4 ∷ 64 ∷ 71 ∷ 92 ∷ 95 ∷ 100 ∷ 101 ∷ 103 ∷ 104 ∷ 110 ∷ 111 ∷ 112 ∷ 113 ∷ []

-- those that tell that no descriptor is left: ENFILE, EMFILE
abbrev pub errors_of_descriptors : List ℕ
errors_of_descriptors = 23 ∷ 24 ∷ []

-- that which tells that no connection waits: EAGAIN
abbrev pub nothing_waits : ℕ
nothing_waits = 11

-- the number of an error, 0 for one that has none
abbrev pub error_number : Option ℤ → ℕ
error_number None = 0
error_number (Some code) = unsigned_abs code

abbrev pub is_among : List ℕ → ℕ → Bool
is_among errors error = list_any (λ one. nat_eq one error) errors

-- what becomes of accepting after an error with this number: the next one is taken at once; or it waits until one comes; or it rests, and
-- one gives way, for want of descriptors; or it rests, for want of memory or for whatever else
abbrev pub accepting_after : ℕ → Refusal
accepting_after error = if nat_eq error nothing_waits then refusal.Waits
    else (if is_among errors_of_one error then refusal.Again
    else (if is_among errors_of_descriptors error then refusal.Wanting else refusal.Rests))

-- so many refusals in a row are followed by a rest
abbrev pub most_refusals : ℕ
most_refusals = 16

-- since when accepting is refused, where it is so at this moment too
abbrev pub since_then : Option ℕ → ℕ → Option ℕ
since_then None now = Some now
since_then (Some since) now = Some since

-- accepting behind a refusal at a moment
abbrev pub behind : Accepting → ℕ → Refusal → Accepting
behind before now refusal.Waits = record before { turn = turn.Waits; refused = 0; since = None }
behind before now refusal.Again = if nat_lt (before.refused + 1) most_refusals
    then record before { refused = before.refused + 1; since = since_then before.since now }
    else record before { turn = turn.Rests; refused = 0; since = since_then before.since now }
behind before now refusal.Wanting = record before { turn = turn.Rests; refused = 0; since = since_then before.since now }
behind before now refusal.Rests =
    record before {
      turn = turn.Rests;
      refused = 0;
      since = since_then before.since now;
      useless = min (before.useless + 1) (2 ^ 32 - 1);
      began = since_then before.began now;
    }

-- whether it is 5 seconds since a moment
abbrev pub is_long : Option ℕ → ℕ → Bool
is_long None now = false
is_long (Some since) now = nat_le 5000 (now - since)

-- behind the last one that was accepted and made ready it was refused 8 times for the sake of no connection, the first time 5 seconds ago
abbrev pub is_useless : Accepting → ℕ → Bool
is_useless accepting now = nat_le 8 accepting.useless && is_long accepting.began now

-- whether the listener is of no use: no connection stands, and accepting was refused for 5 seconds, whenever one waited, or is useless
abbrev pub is_hopeless : Accepting → ℕ → ℕ → Bool
is_hopeless accepting now standing = nat_eq standing 0 && (is_useless accepting now || is_long accepting.since now)

-- whether one more is accepted: there is a place, or one of this crowd's can give way; but none before one gave way for the last
abbrev pub may_accept : Bool → ℕ → ℕ → Bool → Bool
may_accept is_over taken most gives_way = not is_over && (nat_lt taken most || gives_way)

-- whether a place that is taken behind so many is above the most
abbrev pub is_above : ℕ → ℕ → Bool
is_above taken most = nat_le most taken

-- whether those that ended are let go, of so many that stand or ended: more than half of them did, and more than 64
abbrev pub is_worn : ℕ → ℕ → Bool
is_worn all standing = nat_lt 64 (all - standing) && nat_lt standing (all - standing)

-- whether a connection is read again: the peer sends no more, or the read filled its room
abbrev pub reads_on : Bool → ℕ → ℕ → Bool
reads_on last count room = last || nat_eq count room

-- how long a wait is, in milliseconds: none where something is known to be ready
abbrev pub one_wait : ℕ
one_wait = 100

abbrev pub wait_with : Bool → ℕ
wait_with is_known = if is_known then 0 else one_wait

-- whether time is told as passed
abbrev pub is_due : ℕ → ℕ → Bool
is_due now told = nat_le (told + one_wait) now

-- the moment behind another one, where the clock stood at `before` and stands at `now`: of what passed at most two waits count, so that a
-- stall is nobody's silence
abbrev pub reading_behind : ℕ → ℕ → ℕ → ℕ
reading_behind reading before now = min (reading + min (now - before) (2 * one_wait)) (2 ^ 47 - 1)

-- for how many milliseconds a peer may take nothing of what it is owed
abbrev pub patience_of : ℕ → ℕ
patience_of limit = if nat_eq limit 0 then 5000 else limit

-- the number of the next connection, while there are numbers
abbrev pub number_behind : Option ℕ → Option ℕ
number_behind None = Some 0
number_behind (Some greatest) = if nat_lt (greatest + 1) (2 ^ 32) then Some (greatest + 1) else None
