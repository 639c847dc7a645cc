-- What is answered where there may be nothing yet.
use Rattle.std.specs.Prelude.{◌≡◌, ◌⊎◌, ◌≤◌, ℕ, List, [], ◌∷◌, Option, Some, None, Result, Ok, Err}
use Rattle.dns_io.specs.Told.{Told, Keeps, Takes, Rose}
use Rattle.dns_io.specs.declared.io_fault.IoFault.{IoFault}
use Rattle.dns_io.specs.declared.io_fault.IoFault.TheVariants.{Failed, OutOfMemory}
use Rattle.dns_edges.specs.Edges.{HasCause}
use Rattle.dns_multicast.specs.declared.packet.Packet.{Packet}
use Rattle.dns_transport.specs.Faults.{of_io}
use Rattle.dns_transport.specs.declared.error.NetError.{NetError}
use Rattle.dns_transport.specs.declared.error.NetError.TheVariants.{Io}
use Rattle.dns_transport.specs.declared.poll.Poll.{Poll}
use Rattle.dns_transport.specs.declared.poll.Poll.TheVariants.{Ready, Pending}

-- the next packet was given, none where none is left, and none was taken where there is none yet or a fault
abbrev pub GivesPacket : Option (List Packet) → Option (List Packet) → Poll (Option (Result Packet IoFault)) → Type 0
GivesPacket before now Pending = Keeps before now
GivesPacket before now (Ready None) = Told (λ left rest. (left ≡ []) × (rest ≡ [])) before now
GivesPacket before now (Ready (Some (Ok packet))) = Takes before now (packet ∷ [])
GivesPacket before now (Ready (Some (Err fault))) = Keeps before now

-- the count of faults rose where a call failed, and stood still else: where there is none yet, a packet, the end or no memory
abbrev pub HasPollCause : ℕ → ℕ → Poll (Option (Result Packet IoFault)) → Type 0
HasPollCause before now Pending = now ≡ before
HasPollCause before now (Ready None) = now ≡ before
HasPollCause before now (Ready (Some (Ok packet))) = now ≡ before
HasPollCause before now (Ready (Some (Err Failed))) = HasCause {T = Packet} before now (Err Failed)
HasPollCause before now (Ready (Some (Err OutOfMemory))) = now ≡ before

-- a source: the packets that are left, where they are told, and how many calls failed
pub record PacketsTold : Type 0 where
  pub left : Option (List Packet)
  pub faults : ℕ

-- one asking: the next packet was given; after a fault none was taken
pub record Polls (before after : PacketsTold) (answer : Poll (Option (Result Packet IoFault))) : Type 0 where
  pub given : GivesPacket before.left after.left answer
  pub cause : HasPollCause before.faults after.faults answer

-- what is known of a source: what it tells, and what one asking may answer, and how it may leave the source
pub record PacketsOf (S : Type 0) : Type 1 where
  pub told : S → PacketsTold
  pub polls : S → Poll (Option (Result Packet IoFault)) → S → Type 0

-- the answer of a source, with a fault as it is told outside
abbrev pub told_as : Poll (Option (Result Packet IoFault)) → Poll (Option (Result Packet NetError))
told_as Pending = Pending
told_as (Ready None) = Ready None
told_as (Ready (Some (Ok packet))) = Ready (Some (Ok packet))
told_as (Ready (Some (Err fault))) = Ready (Some (Err (of_io fault)))

-- one asking of a source, where there is one: where there is none, it has nothing yet
abbrev pub IsAsked : {S : Type 0} → PacketsOf S → Option S → Poll (Option (Result Packet IoFault)) → Option S → Type 0
IsAsked packets None answer after = (answer ≡ Pending) × (after ≡ None)
IsAsked {S} packets (Some source) answer after = (next : S) × (after ≡ Some next) × packets.polls source answer next

-- the second source, which is asked only where the first has nothing yet
abbrev pub AskedSecond : {M : Type 0} → PacketsOf M → Poll (Option (Result Packet IoFault)) → Option M
    → Poll (Option (Result Packet NetError)) → Option M → Type 0
AskedSecond packets Pending before result after =
    (answer : Poll (Option (Result Packet IoFault))) × IsAsked packets before answer after × (result ≡ told_as answer)
AskedSecond packets (Ready given) before result after = (after ≡ before) × (result ≡ told_as (Ready given))

-- the two sources of a stream, each of which may be missing
abbrev pub Sources : Type 0 → Type 0 → Type 0
Sources D M = Option D × Option M

-- one asking of a stream: the first source is asked, then the second, and the first answer is given
abbrev pub PollsNext : {D M : Type 0} → PacketsOf D → PacketsOf M → Sources D M → Poll (Option (Result Packet NetError))
    → Sources D M → Type 0
PollsNext first second before result after =
    (answer : Poll (Option (Result Packet IoFault))) × IsAsked first before.0 answer after.0
    × AskedSecond second answer before.1 result after.1

-- the count of faults of a source, 0 where there is none
abbrev pub faults_of : {S : Type 0} → PacketsOf S → Option S → ℕ
faults_of packets None = 0
faults_of packets (Some source) = (packets.told source).faults

-- the answer is `Io`
abbrev pub IsIo : Poll (Option (Result Packet NetError)) → Type 0
IsIo (Ready (Some (Err Io))) = Unit {0}
IsIo _ = ⊥

-- the counts of faults of the two sources before an asking and after it: none fell; where the answer is `Io` one of them rose, and else
-- both stood still
pub record HasStreamCause {D M : Type 0} (first : PacketsOf D) (second : PacketsOf M)
    (before : Sources D M) (result : Poll (Option (Result Packet NetError))) (after : Sources D M) : Type 0 where
  pub later_first : faults_of first before.0 ≤ faults_of first after.0
  pub later_second : faults_of second before.1 ≤ faults_of second after.1
  pub raised : IsIo result
      → Rose (faults_of first before.0) (faults_of first after.0) ⊎ Rose (faults_of second before.1) (faults_of second after.1)
  pub calm_first : ¬ (IsIo result) → faults_of first after.0 ≡ faults_of first before.0
  pub calm_second : ¬ (IsIo result) → faults_of second after.1 ≡ faults_of second before.1
