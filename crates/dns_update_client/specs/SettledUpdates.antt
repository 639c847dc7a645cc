-- Updates that a book settles, and the replies that come of them (RFC 2136 3).
use Rattle.std.specs.Prelude.{◌≡◌, ◌≢◌, ℕ, List, [], ◌∷◌, Some, None}
use Rattle.std.specs.Option.{option_map}
use Rattle.dns_io.specs.declared.peer.Protocol.TheVariants.{Quic}
use Rattle.dns_wire.specs.declared.message.Message.{Message}
use Rattle.dns_wire.specs.declared.reply.Reply.{Reply}
use Rattle.dns_wire.specs.MessageBytes.{message_bytes}
use Rattle.dns_wire.specs.ReadBack.{IsMessage, IsPlain}
use Rattle.dns_keeper.specs.Keeping.{KeeperOf}
use Rattle.dns_book.specs.declared.ask.Ask.{Ask}
use Rattle.dns_book.specs.declared.ask.Settled.{Settled}
use Rattle.dns_book.specs.Access.{Access}
use Rattle.dns_book.specs.Owed.{reply_of}
use Rattle.dns_book.specs.Book.{SeenOf, grounds_of, Settles}
use Rattle.dns_update_client.specs.Exchange.{IsSendable}

-- an update (opcode 5) without an OPT, which reads as itself where it was written
pub record IsUpdate (m : Message) : Type 0 where
  pub kept : IsMessage m
  pub plain : IsPlain m
  pub opcode : m.header.opcode ≡ 5
  pub alone : m.edns ≡ None
  pub short : IsSendable m

-- a book settles an update that came in its written form by a protocol other than QUIC; these are the bytes of its reply, and
-- this is the code of the reply that it is owed. From a source that is not safe no reply is owed.
pub record SettlesUpdate {K : Type 0} (keeper : KeeperOf K) (access : Access) (before : SeenOf K) (m : Message) (bytes : List ℕ)
    (code : ℕ) (after : SeenOf K) : Type 0 where
  pub update : IsUpdate m
  pub ask : Ask
  pub asked : ask.bytes ≡ message_bytes m
  pub protocol : ask.protocol ≢ Quic
  pub settled : Settled
  pub settles : Settles keeper access before ask settled after
  pub answered : settled.reply ≡ Some bytes
  pub owed : Reply
  pub is_owed : option_map (reply_of (grounds_of before settles.failed)) settles.reply.decision ≡ Some owed
  pub says : code ≡ owed.code

-- updates are settled in order, and these are the replies and their codes
abbrev pub SettlesUpdates : {K : Type 0} → KeeperOf K → Access → SeenOf K → List Message → List (List ℕ) → List ℕ → SeenOf K → Type 0
SettlesUpdates keeper access before [] [] [] after = after ≡ before
SettlesUpdates keeper access before [] [] (c ∷ codes) after = ⊥
SettlesUpdates keeper access before [] (b ∷ replies) codes after = ⊥
SettlesUpdates keeper access before (m ∷ messages) [] codes after = ⊥
SettlesUpdates keeper access before (m ∷ messages) (b ∷ replies) [] after = ⊥
SettlesUpdates {K} keeper access before (m ∷ messages) (b ∷ replies) (c ∷ codes) after =
    (between : SeenOf K) × SettlesUpdate keeper access before m b c between
    × SettlesUpdates keeper access between messages replies codes after
