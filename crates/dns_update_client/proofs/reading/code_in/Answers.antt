use Rattle.dns_update_client.specs.Exchange.{mismatched, no_reply}
use Rattle.dns_update_client.proofs.NotSent.{both, not-read}
use Rattle.dns_update_client.proofs.reading.code_in.Goals as goal

pub returns-then-got-id-clause-err : goal.returns-then-got-id-clause-err
returns-then-got-id-clause-err c = mismatched c.in-Ok.reply c.in-Ok.ensures.found c.if-got-id.true

pub returns-then-not-is_update_reply-clause-err : goal.returns-then-not-is_update_reply-clause-err
returns-then-not-is_update_reply-clause-err c =
    no_reply c.in-Ok.reply c.in-Ok.ensures.found c.if-got-id.false (λ is. both c.is_update_reply.result (c.is_update_reply.ensures.1 is) c.if-not-is_update_reply.true)

pub returns-in-Err-clause-err : goal.returns-in-Err-clause-err
returns-in-Err-clause-err c = rw c.from.ensures (not-read c.args.id c.args.bytes.now c.in-Err.error c.in-Err.ensures.outside)
