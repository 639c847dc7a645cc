use Rattle.std.proofs.lemmas.Result.{err_from_is_err_and}
use Rattle.dns_update_client.specs.declared.submit_fault.SubmitFault.{SubmitFault}
use Rattle.dns_update_client.proofs.Exchanging.{if-err, stops-reading, stops-receiving, stops-sending}
use Rattle.dns_update_client.proofs.Causes.{sending-reads, write-err, read-err, receiving-writes, read-of-reply, write-of-reply}
use Rattle.dns_update_client.proofs.submitting.exchange.Goals as goal

pub returns-in_err-send-clause-err : goal.returns-in_err-send-clause-err
returns-in_err-send-clause-err g c =
    let p = err_from_is_err_and c.from_residual.result c.from_residual.ensures.1 in
    rw (p.1, p.2) (stops-sending c.args.message.now c.args.number c.in_err-send.field-0.0 _ _ _ c.in_err-send.ensures.err)

pub returns-in_err-bytes-clause-err : goal.returns-in_err-bytes-clause-err
returns-in_err-bytes-clause-err g c =
    let p = err_from_is_err_and c.from_residual-in_err-bytes.result c.from_residual-in_err-bytes.ensures.1 in
    rw (p.1, p.2) (stops-receiving c.args.message.now c.args.number c.in_err-bytes.field-0.0 _ _ _ _ c.in_ok-send.ensures.ok.0 c.in_ok-send.ensures.ok.1 c.in_err-bytes.ensures.err)

pub returns-clause-err : goal.returns-clause-err
returns-clause-err g c =
    if-err _ _ c.code_in.result
    (λ (fault : SubmitFault) stops. stops-reading c.args.message.now c.args.number fault _ _ _ _ c.in_ok-bytes.bytes.items c.in_ok-send.ensures.ok.0 c.in_ok-send.ensures.ok.1 c.in_ok-bytes.ensures.ok c.in_ok-bytes.ensures.short stops)
    (rw c.as_slice.ensures.value at c.code_in.ensures.err)

pub returns-in_err-send-clause-read : goal.returns-in_err-send-clause-read
returns-in_err-send-clause-read g c =
    let p = err_from_is_err_and c.from_residual.result c.from_residual.ensures.1 in
    rw (p.1, p.2) (sending-reads _ _ _ _ c.in_err-send.ensures.err.1)

pub returns-in_err-send-clause-written : goal.returns-in_err-send-clause-written
returns-in_err-send-clause-written g c =
    let p = err_from_is_err_and c.from_residual.result c.from_residual.ensures.1 in
    rw (p.1, p.2) (write-err _ _ _ c.in_err-send.ensures.cause)

pub returns-in_err-bytes-clause-read : goal.returns-in_err-bytes-clause-read
returns-in_err-bytes-clause-read g c =
    let p = err_from_is_err_and c.from_residual-in_err-bytes.result c.from_residual-in_err-bytes.ensures.1 in
    rw (p.1, p.2) (read-err _ _ _ c.in_err-bytes.ensures.cause)

pub returns-in_err-bytes-clause-written : goal.returns-in_err-bytes-clause-written
returns-in_err-bytes-clause-written g c =
    let p = err_from_is_err_and c.from_residual-in_err-bytes.result c.from_residual-in_err-bytes.ensures.1 in
    rw (p.1, p.2) (receiving-writes _ _ _ _ _ c.in_ok-send.ensures.cause.counts c.in_err-bytes.ensures.err.1)

pub returns-clause-read : goal.returns-clause-read
returns-clause-read g c = read-of-reply _ _ c.code_in.result _ _ c.in_ok-bytes.ensures.cause.counts c.code_in.ensures.err

pub returns-clause-written : goal.returns-clause-written
returns-clause-written g c = write-of-reply _ _ c.code_in.result _ _ c.in_ok-send.ensures.cause.counts c.code_in.ensures.err
