use Rattle.std.proofs.Common.{◌≡◌, ◌+◌, ◌%◌, ◌++◌, drop}
use Rattle.dns_update_script.specs.Meant.{meant_by}
use Rattle.dns_update_script.proofs.meant.messages_of.Given as goal

abbrev pub invariant-loop-sending : goal.invariant-loop-sending
invariant-loop-sending l = record {
  id : l.id ≡ (l.first_id + l.sending-index) % 65536;
  messages : l.messages.items ++ meant_by (drop l.sending-index l.sendings) (l.first_id + l.sending-index) ≡ meant_by l.sendings l.first_id;
}
