-- Messages that go out with the id 0, and what is read of those that come.
use Rattle.std.specs.Prelude.{◌≡◌, ℕ, List, Result, Ok, Err}
use Rattle.dns_name.specs.declared.fault.ProtoError.TheVariants.{OutsideGrammar}
use Rattle.dns_wire.specs.declared.message.Message.{Message}
use Rattle.dns_wire.specs.Messages.{MessageAt, TellsWhere}
use Rattle.dns_transport.specs.declared.error.NetError.{NetError}
use Rattle.dns_transport.specs.declared.error.NetError.TheVariants as net

-- the message with the id 0: all askers share an answer in a cache (RFC 8484 4.1), and the stream tells which answer is whose
-- (RFC 9250 4.2.1)
abbrev pub with_id_0 : Message → Message
with_id_0 message = record message { header = record message.header { id = 0 } }

-- the message that stands in the bytes, or where none can be read
abbrev pub ReadsMessage : List ℕ → Result Message NetError → Type 0
ReadsMessage bytes (Ok message) = MessageAt bytes message × ((other : Message) → MessageAt bytes other → message ≡ other)
ReadsMessage bytes (Err (net.Proto (OutsideGrammar at))) = TellsWhere bytes (OutsideGrammar at)
ReadsMessage bytes (Err net.OutOfMemory) = Unit {0}
ReadsMessage bytes (Err _) = ⊥
