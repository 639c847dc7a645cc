-- What is known of the objects of the top call, and what became of a hub.
use Rattle.std.specs.Prelude.{◌≡◌, ◌⊎◌, ◌<◌, ℕ, List, [], ◌∷◌, ◌++◌, Option}
use Rattle.dns_io.specs.Told.{Told, one_more}
use Rattle.dns_keeper.specs.Keeping.{KeeperOf}
use Rattle.dns_edges.specs.Edges.{Around}
use Rattle.dns_ports.specs.Ports.{UdpTold, ListenerOf, HubTold}

-- of a keeper what it tells, of a socket too, and of a listener what it and its connections tell
pub record Meanings (K U T R W C : Type 0) : Type 1 where
  pub keeper : KeeperOf K
  pub socket : U → UdpTold
  pub listener : ListenerOf T R W C

-- by the members of their traits
abbrev pub meanings : {K U T R W C : Type 0} → KeeperOf K → (U → UdpTold) → ListenerOf T R W C → Meanings K U T R W C
meanings keeper socket listener = record { keeper = keeper; socket = socket; listener = listener }

-- it has back each port that it opened
pub record HasAllBack {U T : Type 0} (hub : Around (HubTold U T)) : Type 0 where
  pub sockets : hub.after.lent_udp ≡ hub.before.lent_udp
  pub listeners : hub.after.lent_tcp ≡ hub.before.lent_tcp

-- a count after one more for each of these
abbrev pub one_more_each : {A : Type 0} → ℕ → List A → ℕ
one_more_each count [] = count
one_more_each count (item ∷ items) = one_more_each (one_more count) items

-- one opening failed, and is counted once
abbrev pub FailsOpening : {U T : Type 0} → Around (HubTold U T) → Type 0
FailsOpening hub = hub.after.failed_calls ≡ one_more hub.before.failed_calls

-- no opening failed
abbrev pub FailsNoOpening : {U T : Type 0} → Around (HubTold U T) → Type 0
FailsNoOpening hub = hub.after.failed_calls ≡ hub.before.failed_calls

-- some items came to the end, and these are the last ones
pub record EndsWith {A : Type 0} (before after : Option (List A)) (items : List A) : Type 0 where
  pub told : Told (λ old new. (others : List A) × (new ≡ (old ++ others) ++ items)) before after

-- one of the ports has a count of faults above 0
abbrev pub AnyFault : {P : Type 0} → (P → ℕ) → List P → Type 0
AnyFault faults [] = ⊥
AnyFault faults (port ∷ ports) = (0 < faults port) ⊎ AnyFault faults ports

-- the hub took back these ports, and one of them has
pub record TakesFaulty {K U T R W C : Type 0} (m : Meanings K U T R W C) (hub : Around (HubTold U T)) (sockets : List U)
    (listeners : List T) : Type 0 where
  pub sockets_back : EndsWith hub.before.closed_udp hub.after.closed_udp sockets
  pub listeners_back : EndsWith hub.before.closed_tcp hub.after.closed_tcp listeners
  pub faulty : AnyFault (λ port. (m.socket port).faults) sockets ⊎ AnyFault (λ port. (m.listener.told port).faults) listeners
