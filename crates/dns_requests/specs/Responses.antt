-- Replies that are sent one by one.
use Rattle.std.specs.Prelude.{◌≡◌, ◌⊎◌, ℕ, ◌≤◌, List, Option, Result, Ok, Err, MatchResult}
use Rattle.dns_io.specs.declared.peer.Peer.{Peer}
use Rattle.dns_io.specs.declared.peer.Protocol.{Protocol}
use Rattle.dns_io.specs.declared.peer.Protocol.TheVariants.{Udp, Tcp, Tls, Https, Quic, H3}
use Rattle.dns_io.specs.Told.{Keeps, Grows, GrowsByPrefix, Rose}
use Rattle.dns_edges.specs.Edges.{SinkOf}
use Rattle.dns_wire.specs.declared.reply.Reply.{Reply}
use Rattle.dns_wire.specs.Standing.{word_at}
use Rattle.dns_wire.specs.Written.{Written}
use Rattle.dns_transport.specs.declared.error.NetError.{NetError}
use Rattle.dns_transport.specs.declared.error.NetError.TheVariants.{Io, OutOfMemory}
use Rattle.dns_requests.specs.declared.response_handle.ResponseInfo.{ResponseInfo}
use Rattle.dns_frames.specs.Frames.{frame_of}

-- what sends replies to one receiver: its address, where the bytes go, and by which protocol
pub record HandleOf (W : Type 0) : Type 0 where
  pub dst : Peer
  pub sink : W
  pub protocol : Protocol

-- a reply as a protocol sends it: over QUIC with the id 0 (RFC 9250 4.2.1)
abbrev pub sent_reply : Protocol → Reply → Reply
sent_reply Quic reply = record reply { id = 0 }
sent_reply _ reply = reply

-- a written reply as a protocol sends it: behind its length, where messages follow one another (RFC 1035 4.2.2, RFC 9250 4.2)
abbrev pub sent_as : Protocol → List ℕ → List ℕ
sent_as Udp bytes = bytes
sent_as Tcp bytes = frame_of bytes
sent_as Tls bytes = frame_of bytes
sent_as Https bytes = bytes
sent_as Quic bytes = frame_of bytes
sent_as H3 bytes = bytes

-- what a reply of this code says of itself in its written form: the id and the counts of its header (RFC 1035 4.1.1)
abbrev pub info_of : ℕ → List ℕ → ResponseInfo
info_of code bytes = record {
  id = word_at bytes 0;
  code = code;
  answers = word_at bytes 6;
  authority = word_at bytes 8;
  additional = word_at bytes 10;
}

-- the reply was taken whole
abbrev pub IsSent : Protocol → Reply → ℕ → Option (List ℕ) → Option (List ℕ) → ResponseInfo → Type 0
IsSent protocol reply limit before now info =
    (bytes : List ℕ) × Written (sent_reply protocol reply) limit bytes
    × Grows before now (sent_as protocol bytes) × (info ≡ info_of reply.code bytes)

-- a front of it was taken
abbrev pub IsBegun : Protocol → Reply → ℕ → Option (List ℕ) → Option (List ℕ) → Type 0
IsBegun protocol reply limit before now =
    (bytes : List ℕ) × Written (sent_reply protocol reply) limit bytes
    × ((rest : List ℕ) × GrowsByPrefix before now (sent_as protocol bytes) rest)

-- how sending ends by a fault: of the sink, or for want of memory, also before anything was written
abbrev pub BreaksOff : Protocol → Reply → ℕ → Option (List ℕ) → Option (List ℕ) → NetError → Type 0
BreaksOff protocol reply limit before now Io = IsBegun protocol reply limit before now
BreaksOff protocol reply limit before now OutOfMemory = Keeps before now ⊎ IsBegun protocol reply limit before now
BreaksOff protocol reply limit before now _ = ⊥

-- a count of faults, by how sending ended: it rose where the sink failed, and stood still where it did not
abbrev pub CountsSending : {T : Type 0} → ℕ → ℕ → Result T NetError → Type 0
CountsSending before now (Ok info) = now ≡ before
CountsSending before now (Err Io) = Rose before now
CountsSending before now (Err OutOfMemory) = now ≡ before
CountsSending before now (Err _) = ⊥

-- what sending a reply does
pub record SendsResponse {W : Type 0} (sink : SinkOf W) (before : HandleOf W) (reply : Reply) (limit : ℕ)
    (result : Result ResponseInfo NetError) (after : HandleOf W) : Type 0 where
  pub same : after ≡ record before { sink = after.sink }
  pub sent : MatchResult result
      (IsSent before.protocol reply limit (sink.told before.sink).taken (sink.told after.sink).taken)
      (BreaksOff before.protocol reply limit (sink.told before.sink).taken (sink.told after.sink).taken)
  pub unflushed : Keeps (sink.told before.sink).flushed (sink.told after.sink).flushed
  pub later : (sink.told before.sink).faults ≤ (sink.told after.sink).faults
  pub counts : CountsSending (sink.told before.sink).faults (sink.told after.sink).faults result
