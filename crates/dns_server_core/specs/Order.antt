-- What a server keeps of its connections.
use Rattle.std.specs.Prelude.{◌≡◌, ◌<◌, ◌≤◌, ℕ, List, [], ◌∷◌, Option, Some, None, ◌||◌, if◌then◌else◌}
use Rattle.std.specs.List.{AllByRecursion, filter}
use Rattle.dns_server_core.specs.declared.event.Event.{Event}
use Rattle.dns_frames.specs.Frames.{frames}
use Rattle.dns_server_core.specs.Events.{moment, last_number, number_in, is_stop}
use Rattle.dns_server_core.specs.Connections.{Connection, Kept, is_within, most_messages}
use Rattle.dns_server_core.specs.Steps.{open_next}

-- a rest with no message in it
abbrev pub IsRest : Connection → Type 0
IsRest conn = frames conn.rest ≡ record { messages = []; rest = conn.rest }

-- a connection that may have more messages
abbrev pub IsGoing : Connection → Type 0
IsGoing conn = conn.taken < most_messages

-- in order of their numbers
abbrev pub Climbs : List Connection → Type 0
Climbs [] = Unit {0}
Climbs (k ∷ ks) = AllByRecursion (λ j. k.number < j.number) ks × Climbs ks

abbrev pub IsUpTo : Option ℕ → ℕ → Type 0
IsUpTo None n = ⊥
IsUpTo (Some greatest) n = n ≤ greatest

pub record IsKept (kept : Kept) : Type 0 where
  pub rests : AllByRecursion IsRest kept.connections
  pub going : AllByRecursion IsGoing kept.connections
  pub climbs : Climbs kept.connections
  pub below : AllByRecursion (λ k. IsUpTo kept.greatest k.number) kept.connections

-- one event later
abbrev pub next : Kept → Event → Kept
next kept e = record {
  last = moment e;
  greatest = last_number kept.greatest (number_in e);
  stopped = kept.stopped || is_stop e;
  connections = open_next e kept.connections;
}

-- after a list: a stop closes all, and the last moment those that are late
abbrev pub closed : Kept → Kept
closed kept = record {
  last = kept.last;
  greatest = kept.greatest;
  stopped = kept.stopped;
  connections = if kept.stopped then [] else filter (λ k. is_within k.limit k.base kept.last) kept.connections;
}
