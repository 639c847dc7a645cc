-- What opens sockets and crowds together, and takes them back.
use Rattle.std.specs.Prelude.{◌≡◌, ◌+◌, ℕ, List, [], ◌∷◌, length, Option, Some, None, Result, OnOk, OnErr}
use Rattle.std.specs.List.{sum_by}
use Rattle.dns_io.specs.declared.io_fault.IoFault.{IoFault}
use Rattle.dns_io.specs.declared.peer.Peer.{Peer}
use Rattle.dns_io.specs.Told.{Grows, Keeps, counted, one_more}
use Rattle.dns_edges.specs.Edges.{HasCause}
use Rattle.dns_ports.specs.Ports.{CountsPort, IsEmpty, UdpTold, if_given, made_by}
use Rattle.dns_crowd.specs.Crowds.{CrowdTold}
use Rattle.dns_crowd_server.specs.declared.hub.Places.{Places}

-- so many where there is an address, else none
abbrev pub count_at : ℕ → Option Peer → ℕ
count_at count None = 0
count_at count (Some at) = count

-- how many sockets, and how many crowds, are opened
abbrev pub sockets_of : Places → ℕ
sockets_of places = count_at 1 places.udp

abbrev pub crowds_of : Places → ℕ
crowds_of places = count_at places.workers places.tcp

-- how many workers there are: one for the socket, and as many for the connections as are asked for
abbrev pub seats_of : Places → ℕ
seats_of places = sockets_of places + crowds_of places

-- a crowd that was not used yet: it took nothing, closed nothing, and no call failed
pub record IsFreshCrowd (told : CrowdTold) : Type 0 where
  pub none_taken : IsEmpty told.taken
  pub none_closed : IsEmpty told.closed
  pub no_fault : told.faults ≡ 0

-- a hub: what it opened, the sockets and the crowds that were taken back, each as it was then, in order, where they are told, how many of
-- each were opened and not taken back, its count of faults, and always how many openings gave what was asked for, and how many failed
pub record CrowdHubTold (U C : Type 0) : Type 0 where
  pub opened : Option (List Places)
  pub sockets : Option (List U)
  pub crowds : Option (List C)
  pub lent_sockets : ℕ
  pub lent_crowds : ℕ
  pub faults : ℕ
  pub opened_calls : ℕ
  pub failed_calls : ℕ

-- the counts of faults of sockets and of crowds, added up
abbrev pub their_faults : {U C : Type 0} → (U → UdpTold) → (C → CrowdTold) → List U → List C → ℕ
their_faults socket crowd sockets crowds = sum_by (λ one. (socket one).faults) sockets + sum_by (λ one. (crowd one).faults) crowds

-- all that was asked for was opened; after an error nothing stands open of it
pub record OpensPlaces {A U C : Type 0} (before after : CrowdHubTold U C) (places : Places) (result : Result A IoFault) : Type 0 where
  pub grows : OnOk result (Grows before.opened after.opened (places ∷ []))
  pub kept : OnErr result (Keeps before.opened after.opened)
  pub sockets_kept : Keeps before.sockets after.sockets
  pub crowds_kept : Keeps before.crowds after.crowds
  pub sockets_lent : after.lent_sockets ≡ before.lent_sockets + if_given (sockets_of places) result
  pub crowds_lent : after.lent_crowds ≡ before.lent_crowds + if_given (crowds_of places) result
  pub cause : HasCause before.faults after.faults result
  pub made : after.opened_calls ≡ made_by before.opened_calls result
  pub failing : after.failed_calls ≡ counted before.failed_calls result

-- one opening gave what was asked for, and none failed
pub record OpensOnce {U C : Type 0} (before after : CrowdHubTold U C) (places : Places) : Type 0 where
  pub grows : Grows before.opened after.opened (places ∷ [])
  pub made : after.opened_calls ≡ one_more before.opened_calls
  pub none_failed : after.failed_calls ≡ before.failed_calls

-- the sockets and the crowds of an opening were taken back, whose counts of faults are together this one: the hub's rose where that is
-- above 0, and only there; nothing was opened
pub record ClosesPlaces {U C : Type 0} (before after : CrowdHubTold U C) (sockets : List U) (crowds : List C) (faults : ℕ) : Type 0 where
  pub sockets_back : Grows before.sockets after.sockets sockets
  pub crowds_back : Grows before.crowds after.crowds crowds
  pub kept : Keeps before.opened after.opened
  pub sockets_lent : after.lent_sockets + length sockets ≡ before.lent_sockets
  pub crowds_lent : after.lent_crowds + length crowds ≡ before.lent_crowds
  pub cause : CountsPort faults before.faults after.faults
  pub none_made : after.opened_calls ≡ before.opened_calls
  pub none_failed : after.failed_calls ≡ before.failed_calls

-- it has back all that it opened
pub record HasAllBack {U C : Type 0} (before after : CrowdHubTold U C) : Type 0 where
  pub sockets : after.lent_sockets ≡ before.lent_sockets
  pub crowds : after.lent_crowds ≡ before.lent_crowds
