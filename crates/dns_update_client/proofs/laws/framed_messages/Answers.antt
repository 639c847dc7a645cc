use Rattle.dns_update_client.proofs.Framed.{frames-of, frames-sent, frames-received}
use Rattle.dns_update_client.proofs.laws.framed_messages.Goals as goal

pub returns-clause-frames : goal.returns-clause-frames
returns-clause-frames c = frames-of

pub returns-clause-sent : goal.returns-clause-sent
returns-clause-sent c = frames-sent

pub returns-clause-received : goal.returns-clause-received
returns-clause-received c = frames-received
