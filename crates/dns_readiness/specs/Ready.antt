-- What is ready, and in which order it is given.
use Rattle.std.specs.Prelude.{ℕ, List, [], ◌∷◌, ◌++◌, Bool, false, true, not, ◌||◌, drop, length, map, nat_lt, reverse, take, if◌then◌else◌}
use Rattle.std.specs.List.{filter}
use Rattle.mio.specs.Event.{event_token, is_error, is_read_closed}
use Rattle.mio.specs.declared.event.event.Event.{Event}
use Rattle.mio.specs.declared.token.Token.{Token}
use Rattle.dns_readiness.specs.declared.ready.Ready.{Ready}

-- those that are ready and go on, in the order in which they are given; those whose peers send no more, in theirs; how many of these are
-- given yet before the next wait; those that are to be read again behind it; and for how many more that the system tells of, and that are
-- noted, there is room
pub record ReadySeen : Type 0 where
  pub going : List Ready
  pub ending : List Ready
  pub turn : ℕ
  pub again : List Ready
  pub spare : ℕ
  pub room : ℕ

abbrev pub nothing_ready : ReadySeen
nothing_ready = record { going = []; ending = []; turn = 0; again = []; spare = 0; room = 0 }

-- what is given before the next wait, one behind the other: those that go on, and then as many of those that end as this turn lets through
abbrev pub due : ReadySeen → List Ready
due list = list.going ++ take list.turn list.ending

-- those that wait for a later turn
abbrev pub waiting : ReadySeen → List Ready
waiting list = drop list.turn list.ending

-- the peer of a descriptor sends no more: it closed, or hung up
abbrev pub ends : Event → Bool
ends event = is_read_closed event || is_error event

-- what an event of the system tells
abbrev pub ready_of : Event → Ready
ready_of event = record { token = event_token event; last = ends event; noted = false }

-- what is noted to be read again
abbrev pub noted_of : Token → Ready
noted_of token = record { token = token; last = false; noted = true }

-- those of events that go on, and those that end
abbrev pub going_of : List Event → List Ready
going_of events = map ready_of (filter (λ event. not (ends event)) events)

abbrev pub ending_of : List Event → List Ready
ending_of events = map ready_of (filter ends events)

-- how many of those that end are given behind a wait that told of so many: few where it told of as many as it may, since the system may know
-- of more that go on
abbrev pub turn_behind : ℕ → ℕ
turn_behind told = if nat_lt told 256 then 256 else 16

-- one more is ready
abbrev pub put_to : Ready → ReadySeen → ReadySeen
put_to ready list = if ready.last then record list { ending = list.ending ++ ready ∷ [] } else record list { going = ready ∷ list.going }

-- behind these events: each is given once, those that end behind all of them that came before
abbrev pub put_all : List Event → ReadySeen → ReadySeen
put_all events list = record list { going = reverse (going_of events) ++ list.going; ending = list.ending ++ ending_of events }

-- behind a wait that told of them
abbrev pub behind_wait : List Event → ReadySeen → ReadySeen
behind_wait events list = record (put_all events list) { turn = turn_behind (length events) }
