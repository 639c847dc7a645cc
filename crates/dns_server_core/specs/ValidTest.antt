-- The test of a list, event by event.
use Rattle.std.specs.Prelude.{ℕ, ◌^◌, List, [], ◌∷◌, length, nat_lt, nat_le, Bool, true, not, ◌&&◌, Option, Some, None}
use Rattle.dns_server_core.specs.declared.event.Event.{Event}
use Rattle.dns_server_core.specs.declared.event.Event.TheVariants.{Accepted, Bytes, Ended, Datagram, Tick, Stop}
use Rattle.dns_server_core.specs.Events.{moment, number_in, last_number, is_stop}

abbrev pub fits : Event → Bool
fits (Accepted at conn peer limit) = nat_lt at (2 ^ 47) && nat_lt limit (2 ^ 47)
fits (Bytes at conn piece) = nat_lt at (2 ^ 47) && nat_le (length piece) 65535
fits (Ended at conn) = nat_lt at (2 ^ 47)
fits (Datagram at peer bytes) = nat_lt at (2 ^ 47) && nat_le (length bytes) 65535
fits (Tick at) = nat_lt at (2 ^ 47)
fits (Stop at) = nat_lt at (2 ^ 47)

abbrev pub is_above : Option ℕ → ℕ → Bool
is_above None n = true
is_above (Some greatest) n = nat_lt greatest n

abbrev pub are_above : Option ℕ → List ℕ → Bool
are_above greatest [] = true
are_above greatest (n ∷ ns) = is_above greatest n && are_above (Some n) ns

unfoldable pub is_next : ℕ → Option ℕ → Bool → Event → Bool
is_next last greatest stopped e = not stopped && (fits e && (nat_le last (moment e) && are_above greatest (number_in e)))

abbrev pub are_valid : ℕ → Option ℕ → Bool → List Event → Bool
are_valid last greatest stopped [] = true
are_valid last greatest stopped (e ∷ es) =
    is_next last greatest stopped e && are_valid (moment e) (last_number greatest (number_in e)) (is_stop e) es
