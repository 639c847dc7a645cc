use Rattle.std.proofs.Common.{[], ◌∷◌, ◌≡◌, ◌∙◌, ◌<◌, ◌+◌, length, take, drop, refl, arith, length-append}
use Rattle.std.proofs.lemmas.List.{length-take-le, take_more}
use Rattle.std.proofs.lemmas.Result.{err_from_is_err_and}
use Rattle.dns_update_client.specs.declared.submit_fault.SubmitFault.TheVariants as fault
use Rattle.dns_update_client.proofs.Exchanging.{Answers-more, StopsAt-behind, parted, stops-noting}
use Rattle.dns_update_client.proofs.Causes.{read-err, read-memory, read-then, write-err, write-memory, write-then}
use Rattle.dns_update_client.proofs.submitting.submit.Goals as goal

pub returns-in_err-code-clause-err : goal.returns-in_err-code-clause-err
returns-in_err-code-clause-err g c =
    let p = err_from_is_err_and c.from_residual.result c.from_residual.ensures.1 in
    let messages = c.args.messages.now.items in
    let i = c.loop-message.message-index in
    let inside : i < length messages = rw c.deref-message-items.ensures.value at c.loop-message-test.true in
    let size : length (take i messages) ≡ i = length-take-le i messages (omega (arith, inside)) in
    rw (p.1, p.2)
    (StopsAt-behind messages (take i messages) c.message-item.result (drop (i + 1) messages) c.loop-message.codes.items c.in_err-code.field-0.0 (c.len.result + 1) (g.R.Source.source.told c.args.input.now).left (g.R.Source.source.told c.loop-message.input).left (g.R.Source.source.told c.exchange.new.input).left (g.W.Sink.sink.told c.args.output.now).taken (g.W.Sink.sink.told c.loop-message.output).taken
    (g.W.Sink.sink.told c.exchange.new.output).taken
    (parted messages i c.message-item.result inside (rw c.deref-message-items.ensures.value at c.message-item.is)) (omega (arith, size, c.len.ensures, c.loop-message.codes.ok, c.loop-message.invariant.count)) c.loop-message.invariant.answered c.in_err-code.ensures.err)

pub returns-in_err-push-clause-err : goal.returns-in_err-push-clause-err
returns-in_err-push-clause-err g c =
    let p = err_from_is_err_and c.from_residual-in_err-push.result c.from_residual-in_err-push.ensures.1 in
    let messages = c.args.messages.now.items in
    let i = c.loop-message.message-index in
    let inside : i < length messages = rw c.deref-message-items.ensures.value at c.loop-message-test.true in
    let ok = c.in_ok-code.ensures.ok in
    rw (p.1, p.2)
    (StopsAt-behind messages (take i messages) c.message-item.result (drop (i + 1) messages) c.loop-message.codes.items fault.OutOfMemory (length (take i messages) + 1) _ _ _ _ _ _
    (parted messages i c.message-item.result inside (rw c.deref-message-items.ensures.value at c.message-item.is)) refl c.loop-message.invariant.answered
    (stops-noting c.message-item.result (length (take i messages) + 1) _ _ _ _ ok.0 c.in_ok-code.code ok.1 ok.2 ok.3 ok.4))

pub loop-message-preserved : goal.loop-message-preserved
loop-message-preserved g c =
    let messages = c.args.messages.now.items in
    let i = c.loop-message.message-index in
    let inside : i < length messages = rw c.deref-message-items.ensures.value at c.loop-message-test.true in
    let is = rw c.deref-message-items.ensures.value at c.message-item.is in
    let ok = c.in_ok-code.ensures.ok in
    record {
      answered = rw (c.in_ok-push.ensures.items, take_more messages i c.message-item.result inside, ← is)
          (Answers-more (take i messages) c.loop-message.codes.items _ _ _ _ _ _ c.message-item.result ok.0 c.in_ok-code.code c.loop-message.invariant.answered ok.1 ok.2 ok.3 ok.4);
      count = rw c.in_ok-push.ensures.items (omega (arith, length-append c.loop-message.codes.items (c.in_ok-code.code ∷ []), c.loop-message.invariant.count));
      handed = λ before. c.in_ok-code.ensures.handed;
      calm_input = c.in_ok-code.ensures.read.counts ∙ c.loop-message.invariant.calm_input;
      calm_output = c.in_ok-code.ensures.written.counts ∙ c.loop-message.invariant.calm_output;
    }

pub returns-in_err-code-clause-read : goal.returns-in_err-code-clause-read
returns-in_err-code-clause-read g c =
    let p = err_from_is_err_and c.from_residual.result c.from_residual.ensures.1 in
    rw (p.1, p.2) (read-then _ _ _ _ c.loop-message.invariant.calm_input (read-err _ _ _ c.in_err-code.ensures.read))

pub returns-in_err-code-clause-written : goal.returns-in_err-code-clause-written
returns-in_err-code-clause-written g c =
    let p = err_from_is_err_and c.from_residual.result c.from_residual.ensures.1 in
    rw (p.1, p.2) (write-then _ _ _ _ c.loop-message.invariant.calm_output (write-err _ _ _ c.in_err-code.ensures.written))

pub returns-in_err-push-clause-read : goal.returns-in_err-push-clause-read
returns-in_err-push-clause-read g c =
    let p = err_from_is_err_and c.from_residual-in_err-push.result c.from_residual-in_err-push.ensures.1 in
    rw (p.1, p.2) (read-memory _ _ (c.in_ok-code.ensures.read.counts ∙ c.loop-message.invariant.calm_input))

pub returns-in_err-push-clause-written : goal.returns-in_err-push-clause-written
returns-in_err-push-clause-written g c =
    let p = err_from_is_err_and c.from_residual-in_err-push.result c.from_residual-in_err-push.ensures.1 in
    rw (p.1, p.2) (write-memory _ _ (c.in_ok-code.ensures.written.counts ∙ c.loop-message.invariant.calm_output))
