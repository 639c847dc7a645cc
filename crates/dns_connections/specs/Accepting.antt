-- Whether connections are accepted, and the places for them.
use Rattle.std.specs.Prelude.{ℕ, ◌+◌, ◌-◌, ◌^◌, min, nat_le, nat_lt, nat_eq, if◌then◌else◌, Bool, false, ◌&&◌, ◌||◌, Option, Some, None}
use Rattle.dns_network.specs.declared.refused.Refused.{Refused}
use Rattle.dns_network.specs.declared.refused.Refused.TheVariants as refusal
use Rattle.dns_connections.specs.declared.accepting.Accepting.{Accepting}
use Rattle.dns_connections.specs.declared.accepting.Turn.TheVariants as turn

-- so many refusals in a row are followed by a rest
abbrev pub most_refusals : ℕ
most_refusals = 16

-- since when accepting is refused, where it is so at this moment too
abbrev pub since_then : Option ℕ → ℕ → Option ℕ
since_then None now = Some now
since_then (Some since) now = Some since

-- it is refused, and rests until time passed
abbrev pub at_rest : Accepting → ℕ → Accepting
at_rest before now = record before { turn = turn.Rests; refused = 0; since = since_then before.since now }

-- it is refused for the sake of one connection: the next one is asked for at once, but behind many refusals in a row
abbrev pub counted : Accepting → ℕ → Accepting
counted before now = if nat_lt (before.refused + 1) most_refusals
    then record before { refused = before.refused + 1; since = since_then before.since now } else at_rest before now

-- it is refused for whatever else
abbrev pub useless : Accepting → ℕ → Accepting
useless before now =
    record before {
      turn = turn.Rests;
      refused = 0;
      since = since_then before.since now;
      useless = min (before.useless + 1) (2 ^ 32 - 1);
      began = since_then before.began now;
    }

-- accepting behind a refusal at a moment: it waits until a connection comes; or the next one is asked for at once, where one peer is gone or the
-- call was interrupted; or it rests, for want of descriptors or for whatever else
abbrev pub behind : Accepting → ℕ → Refused → Accepting
behind before now refusal.NotYet = record before { turn = turn.Waits; refused = 0; since = None }
behind before now refusal.Interrupted = counted before now
behind before now refusal.Gone = counted before now
behind before now refusal.Wanting = at_rest before now
behind before now refusal.TooLong = useless before now
behind before now refusal.Useless = useless before now

-- whether it is 5 seconds since a moment
abbrev pub is_long : Option ℕ → ℕ → Bool
is_long None now = false
is_long (Some since) now = nat_le 5000 (now - since)

-- behind the last one that was accepted it was refused 8 times for the sake of no connection, the first time 5 seconds ago
abbrev pub is_useless : Accepting → ℕ → Bool
is_useless accepting now = nat_le 8 accepting.useless && is_long accepting.began now

-- whether the listener is of no use: no connection stands, and accepting was refused for 5 seconds, whenever one waited, or is useless
abbrev pub is_hopeless : Accepting → ℕ → ℕ → Bool
is_hopeless accepting now standing = nat_eq standing 0 && (is_useless accepting now || is_long accepting.since now)

-- places for connections: how many may be taken by all crowds of a listener, and how many this one holds
pub record PlacesSeen : Type 0 where
  pub most : ℕ
  pub held : ℕ

-- no place is held yet
abbrev pub none_held : ℕ → PlacesSeen
none_held most = record { most = most; held = 0 }

-- one more is held where a connection stands
abbrev pub held_more : Bool → ℕ → ℕ
held_more stands held = if stands then held + 1 else held

-- one is given back where a connection does not stand any more
abbrev pub held_with : Bool → ℕ → ℕ
held_with stands held = if stands then held else held - 1

-- whether those that ended are let go, of so many in all, of which so many stand: more than half of them did, and more than 64
abbrev pub is_worn : ℕ → ℕ → Bool
is_worn all standing = nat_lt 64 (all - standing) && nat_lt standing (all - standing)
