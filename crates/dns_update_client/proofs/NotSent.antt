-- Why a message was not sent.
use Rattle.std.proofs.Common.{◌≡◌, ℕ, List, [], ◌++◌, length, Bool, true, false, ◌≤◌, refl, sym, ap, subst, ◌∙◌}
use Rattle.std.specs.Prelude.{Result, Ok, Err, OnErr}
use Rattle.dns_io.specs.declared.io_fault.IoFault.{IoFault}
use Rattle.dns_io.specs.declared.io_fault.IoFault.TheVariants as io
use Rattle.dns_name.specs.declared.fault.ProtoError.{ProtoError}
use Rattle.dns_name.specs.declared.fault.ProtoError.TheVariants as proto
use Rattle.dns_wire.specs.declared.message.Message.{Message}
use Rattle.dns_wire.specs.MessageBytes.{message_bytes, TellsTooLong}
use Rattle.dns_wire.specs.Messages.{TellsWhere}
use Rattle.dns_update_client.specs.Exchange.{message_frame, IsSendable, StopsSending, unwritable, unsent, StopsReading, unreadable}
use Rattle.dns_update_client.specs.Exchange as exchange
use Rattle.dns_update_client.specs.Faults.{of_proto, of_output}
use Rattle.dns_update_client.specs.Framed.{frame}
use Rattle.dns_update_client.proofs.Framing.{message_frame-is}

-- what stands whatever was answered
pub on-err : {T E P : Type 0} (result : Result T E) → P → OnErr result P
on-err (Ok done) holds = tt
on-err (Err fault) holds = holds

pub not-written : (m : Message) (e : ProtoError) → TellsTooLong m e → StopsSending m [] (of_proto e)
not-written m proto.OutOfMemory tells = exchange.StopsSending.no_memory (message_frame m) refl
not-written m (proto.OutsideGrammar at) tells = absurd tells
not-written m (proto.DataTooLong n) tells = unwritable tells (λ e. cc) refl
not-written m (proto.MessageTooLong n) tells = unwritable tells (λ e. cc) refl
not-written m proto.LabelEmpty tells = absurd tells
not-written m proto.LabelLong tells = absurd tells
not-written m proto.BadEscape tells = absurd tells
not-written m proto.NameLong tells = absurd tells

pub not-sent : (m : Message) (fault : IoFault) (front rest : List ℕ) → message_frame m ≡ front ++ rest → StopsSending m front (of_output fault)
not-sent m io.Failed front rest is = unsent rest is
not-sent m io.OutOfMemory front rest is = exchange.StopsSending.no_memory rest is

pub not-read : (id : ℕ) (bytes : List ℕ) (e : ProtoError) → TellsWhere bytes e → StopsReading id bytes (of_proto e)
not-read id bytes proto.OutOfMemory tells = exchange.StopsReading.no_memory
not-read id bytes (proto.OutsideGrammar at) tells = unreadable tells (λ e. cc)
not-read id bytes (proto.DataTooLong n) tells = absurd tells
not-read id bytes (proto.MessageTooLong n) tells = absurd tells
not-read id bytes proto.LabelEmpty tells = absurd tells
not-read id bytes proto.LabelLong tells = absurd tells
not-read id bytes proto.BadEscape tells = absurd tells
not-read id bytes proto.NameLong tells = absurd tells

pub frame-made-of : (m : Message) (made bytes : List ℕ) → made ≡ frame bytes → bytes ≡ message_bytes m → message_frame m ≡ made
frame-made-of m made bytes is from = message_frame-is m ∙ sym (is ∙ ap frame from)

pub sendable : (m : Message) (bytes : List ℕ) → bytes ≡ message_bytes m → length bytes ≤ 65535 → IsSendable m
sendable m bytes is short = let P : List ℕ → Type 0 = λ l. length l ≤ 65535 in record { short = subst P is short }

pub both : (b : Bool) → b ≡ true → b ≡ false → ⊥
both b holds fails = absurd (let it : true ≡ false = sym holds ∙ fails in cc)
