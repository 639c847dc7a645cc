-- What is called where one looks at the token first.
use Rattle.std.specs.Prelude.{ℕ, List, [], ◌∷◌, true, false, Option, Some, None, Result}
use Rattle.std.specs.declared.net.socket_addr.SocketAddr.{SocketAddr}
use Rattle.dns_network.specs.Calls.{Noted, looked, received, waited}
use Rattle.dns_network.specs.declared.refused.Refused.{Refused}

-- the token was seen stopped, or else one waited
abbrev pub waited_or_stopped : ℕ → Option (Result ℕ Refused) → List Noted
waited_or_stopped most None = looked true ∷ []
waited_or_stopped most (Some given) = looked false ∷ waited most given ∷ []

-- the token was seen stopped, or else a datagram was asked for
abbrev pub received_or_stopped : List ℕ → Option (Result (ℕ × SocketAddr) Refused) → List Noted
received_or_stopped room None = looked true ∷ []
received_or_stopped room (Some given) = looked false ∷ received room given ∷ []
