-- What is seen of a hub in memory, and of one of the operating system.
use Rattle.std.specs.Prelude.{ℕ, List, [], Some, None}
use Rattle.dns_ports.specs.Memory.{UdpState}
use Rattle.dns_ports.specs.Passed.{SocketSeen}
use Rattle.dns_readiness.specs.Decisions.{SocketState}
use Rattle.dns_crowd.specs.Memory.{CrowdState, crowd_told}
use Rattle.dns_crowd_server.specs.declared.hub.Places.{Places}
use Rattle.dns_crowd_server.specs.Hubs.{CrowdHubTold, IsFreshCrowd}

-- a crowd that was not used yet
abbrev pub IsUnusedCrowd : CrowdState → Type 0
IsUnusedCrowd s = IsFreshCrowd (crowd_told s)

-- the sockets and the crowds that it gives, what it opened, what it has back, how many of both are out, the numbers of the openings that
-- fail, how many there were, its count of faults, and how many openings gave what was asked for, and how many failed
pub record CrowdHubState : Type 0 where
  pub sockets : List UdpState
  pub crowds : List CrowdState
  pub opened : List Places
  pub closed_sockets : List UdpState
  pub closed_crowds : List CrowdState
  pub lent_sockets : ℕ
  pub lent_crowds : ℕ
  pub failing_openings : List ℕ
  pub calls : ℕ
  pub faults : ℕ
  pub opened_calls : ℕ
  pub failed_calls : ℕ

-- what it tells
abbrev pub crowd_hub_told : CrowdHubState → CrowdHubTold UdpState CrowdState
crowd_hub_told s = record {
  opened = Some s.opened;
  sockets = Some s.closed_sockets;
  crowds = Some s.closed_crowds;
  lent_sockets = s.lent_sockets;
  lent_crowds = s.lent_crowds;
  faults = s.faults;
  opened_calls = s.opened_calls;
  failed_calls = s.failed_calls;
}

-- a hub that gives these
abbrev pub crowd_hub_of : List UdpState → List CrowdState → List ℕ → CrowdHubState
crowd_hub_of sockets crowds openings = record {
  sockets = sockets;
  crowds = crowds;
  opened = [];
  closed_sockets = [];
  closed_crowds = [];
  lent_sockets = 0;
  lent_crowds = 0;
  failing_openings = openings;
  calls = 0;
  faults = 0;
  opened_calls = 0;
  failed_calls = 0;
}

-- one of the operating system: how many sockets and how many crowds are out, its count of faults, and how many openings gave what was
-- asked for, and how many failed
pub record SocketHubCounts : Type 0 where
  pub lent_sockets : ℕ
  pub lent_crowds : ℕ
  pub faults : ℕ
  pub opened_calls : ℕ
  pub failed_calls : ℕ

-- it tells its counts alone
abbrev pub untold_crowd_hub : SocketHubCounts → CrowdHubTold SocketSeen SocketState
untold_crowd_hub h = record {
  opened = None;
  sockets = None;
  crowds = None;
  lent_sockets = h.lent_sockets;
  lent_crowds = h.lent_crowds;
  faults = h.faults;
  opened_calls = h.opened_calls;
  failed_calls = h.failed_calls;
}
