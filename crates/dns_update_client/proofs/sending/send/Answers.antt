use Rattle.std.proofs.Common.{[], refl, sym, ◌∙◌}
use Rattle.std.proofs.lemmas.Result.{err_from_is_err_and}
use Rattle.dns_io.proofs.ToldContents.{Grows-nothing}
use Rattle.dns_update_client.specs.Exchange.{message_frame}
use Rattle.dns_update_client.specs.Exchange as exchange
use Rattle.dns_update_client.proofs.NotSent.{not-written, not-sent, frame-made-of, sendable}
use Rattle.dns_update_client.proofs.Causes.{unwritten, write-memory, write-done, write-failed}
use Rattle.dns_update_client.proofs.sending.send.Goals as goal

pub returns-in_err-bytes-clause-err : goal.returns-in_err-bytes-clause-err
returns-in_err-bytes-clause-err g c =
    let p = err_from_is_err_and c.from_residual.result c.from_residual.ensures.1 in
    rw (p.1, p.2) ([], not-written c.args.message.now c.in_err-bytes.field-0.0 c.in_err-bytes.ensures.err, Grows-nothing (g.W.Sink.sink.told c.args.output.now).taken)

pub returns-in_err-frame-clause-err : goal.returns-in_err-frame-clause-err
returns-in_err-frame-clause-err g c =
    let p = err_from_is_err_and c.from_residual-in_err-frame.result c.from_residual-in_err-frame.ensures.1 in
    rw (p.1, p.2) ([], exchange.StopsSending.no_memory (message_frame c.args.message.now) refl, Grows-nothing (g.W.Sink.sink.told c.args.output.now).taken)

pub returns-in-Ok-clause-ok : goal.returns-in-Ok-clause-ok
returns-in-Ok-clause-ok g c =
    let ok = c.in_ok-bytes.ensures.ok in
    let made = frame-made-of c.args.message.now c.in_ok-frame.frame.items c.as_slice.result.now c.in_ok-frame.ensures (c.as_slice.ensures ∙ ok.0) in
    (sendable c.args.message.now c.in_ok-bytes.bytes ok.0 ok.1, rw made (rw c.as_slice-2.ensures.value at c.in-Ok.ensures.ok))

pub returns-clause-err : goal.returns-clause-err
returns-clause-err g c =
    let ok = c.in_ok-bytes.ensures.ok in
    let made = frame-made-of c.args.message.now c.in_ok-frame.frame.items c.as_slice.result.now c.in_ok-frame.ensures (c.as_slice.ensures ∙ ok.0) in
    let err = c.in-Err.ensures.err in
    rw c.of_output.ensures (err.0, not-sent c.args.message.now c.in-Err.fault err.0 err.1 (made ∙ sym c.as_slice-2.ensures.value ∙ err.2), err.3)

pub returns-in_err-bytes-clause-cause : goal.returns-in_err-bytes-clause-cause
returns-in_err-bytes-clause-cause g c =
    let p = err_from_is_err_and c.from_residual.result c.from_residual.ensures.1 in
    rw (p.1, p.2) (unwritten _ c.in_err-bytes.field-0.0)

pub returns-in_err-frame-clause-cause : goal.returns-in_err-frame-clause-cause
returns-in_err-frame-clause-cause g c =
    let p = err_from_is_err_and c.from_residual-in_err-frame.result c.from_residual-in_err-frame.ensures.1 in
    rw (p.1, p.2) (write-memory _ _ refl)

pub returns-in-Ok-clause-cause : goal.returns-in-Ok-clause-cause
returns-in-Ok-clause-cause g c = write-done _ _ tt c.in-Ok.ensures.cause.counts

pub returns-clause-cause : goal.returns-clause-cause
returns-clause-cause g c = rw c.of_output.ensures (write-failed _ _ c.in-Err.fault c.in-Err.ensures.cause)
