use Rattle.dns_quic.proofs.SentAndReceived.{read-back}
use Rattle.dns_quic.proofs.laws.messages_received.Goals as goal

pub returns : goal.returns
returns c = read-back
