-- What events say.
use Rattle.std.specs.Prelude.{ℕ, List, [], ◌∷◌, Bool, true, false, ◌||◌, Option, Some}
use Rattle.dns_server_core.specs.declared.event.Event.{Event}
use Rattle.dns_server_core.specs.declared.event.Event.TheVariants.{Accepted, Bytes, Ended, Datagram, Tick, Stop}

-- the moment of an event
abbrev pub moment : Event → ℕ
moment (Accepted at conn peer limit) = at
moment (Bytes at conn piece) = at
moment (Ended at conn) = at
moment (Datagram at peer bytes) = at
moment (Tick at) = at
moment (Stop at) = at

-- the moment of the last event of a list; this one where it has none
abbrev pub last_moment : ℕ → List Event → ℕ
last_moment last [] = last
last_moment last (e ∷ es) = last_moment (moment e) es

-- the number of the connection that an event accepts, whether its peer is safe or not
abbrev pub number_in : Event → List ℕ
number_in (Accepted at conn peer limit) = conn ∷ []
number_in (Bytes at conn piece) = []
number_in (Ended at conn) = []
number_in (Datagram at peer bytes) = []
number_in (Tick at) = []
number_in (Stop at) = []

-- the last of these numbers; this one where there is none
abbrev pub last_number : Option ℕ → List ℕ → Option ℕ
last_number greatest [] = greatest
last_number greatest (n ∷ ns) = last_number (Some n) ns

abbrev pub is_stop : Event → Bool
is_stop (Accepted at conn peer limit) = false
is_stop (Bytes at conn piece) = false
is_stop (Ended at conn) = false
is_stop (Datagram at peer bytes) = false
is_stop (Tick at) = false
is_stop (Stop at) = true

abbrev pub has_stop : List Event → Bool
has_stop [] = false
has_stop (e ∷ es) = is_stop e || has_stop es
