-- Lists of events that a server can take.
use Rattle.std.specs.Prelude.{◌≡◌, ◌≤◌, ◌<◌, ◌^◌, ℕ, List, [], ◌∷◌, length, map, true, Option, Some, None}
use Rattle.std.specs.List.{AllByRecursion, flat_map}
use Rattle.dns_server_core.specs.declared.event.Event.{Event}
use Rattle.dns_server_core.specs.declared.event.Event.TheVariants.{Accepted, Bytes, Ended, Datagram, Tick, Stop}
use Rattle.dns_server_core.specs.Events.{moment, number_in, is_stop}
use Rattle.dns_server_core.specs.Connections.{Kept}

-- moments and limits are below 2^47, and pieces and datagrams have at most 65,535 bytes
abbrev pub Fits : Event → Type 0
Fits (Accepted at conn peer limit) = (at < 2 ^ 47) × (limit < 2 ^ 47)
Fits (Bytes at conn piece) = (at < 2 ^ 47) × (length piece ≤ 65535)
Fits (Ended at conn) = at < 2 ^ 47
Fits (Datagram at peer bytes) = (at < 2 ^ 47) × (length bytes ≤ 65535)
Fits (Tick at) = at < 2 ^ 47
Fits (Stop at) = at < 2 ^ 47

-- no moment is below the one before it, nor the first below this one
abbrev pub NeverFalls : ℕ → List ℕ → Type 0
NeverFalls last [] = Unit {0}
NeverFalls last (t ∷ ts) = (last ≤ t) × NeverFalls t ts

abbrev pub IsAbove : Option ℕ → ℕ → Type 0
IsAbove None n = Unit {0}
IsAbove (Some greatest) n = greatest < n

-- each number is greater than all before it, and than this one
abbrev pub Rises : Option ℕ → List ℕ → Type 0
Rises greatest [] = Unit {0}
Rises greatest (n ∷ ns) = IsAbove greatest n × Rises (Some n) ns

-- nothing follows a stop
abbrev pub StopIsLast : List Event → Type 0
StopIsLast [] = Unit {0}
StopIsLast (e ∷ es) = (is_stop e ≡ true → es ≡ []) × StopIsLast es

-- a list that a server can take which has kept this
pub record Valid (kept : Kept) (events : List Event) : Type 0 where
  pub few : length events < 2 ^ 32
  pub fit : AllByRecursion Fits events
  pub moments : NeverFalls kept.last (map moment events)
  pub numbers : Rises kept.greatest (flat_map number_in events)
  pub stop : StopIsLast events
