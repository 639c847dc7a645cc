-- What an opening of a hub over the operating system does to what it tells.
use Rattle.std.proofs.Common.{◌≡◌, ◌+◌, Ok}
use Rattle.dns_io.specs.Told.{one_more}
use Rattle.dns_edges.specs.Edges.{HasCause}
use Rattle.dns_crowd_server.specs.declared.hub.Places.{Places}
use Rattle.dns_crowd_server.specs.Hubs.{OpensPlaces, crowds_of, sockets_of}
use Rattle.dns_crowd_server.specs.Memory.{SocketHubCounts, untold_crowd_hub}

-- it gave what was asked for
pub sockets_opened : {A : Type 0} (before after : SocketHubCounts) (places : Places) (given : A)
    → after.lent_sockets ≡ before.lent_sockets + sockets_of places → after.lent_crowds ≡ before.lent_crowds + crowds_of places
    → HasCause {T = A} before.faults after.faults (Ok given) → after.opened_calls ≡ one_more before.opened_calls → after.failed_calls ≡ before.failed_calls
    → OpensPlaces {A = A} (untold_crowd_hub before) (untold_crowd_hub after) places (Ok given)
sockets_opened before after places given sockets crowds cause made failing = record {
  grows = tt;
  kept = tt;
  sockets_kept = tt;
  crowds_kept = tt;
  sockets_lent = sockets;
  crowds_lent = crowds;
  cause = cause;
  made = made;
  failing = failing;
}
