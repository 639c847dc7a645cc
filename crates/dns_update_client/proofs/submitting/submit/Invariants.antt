-- All messages so far were answered.
use Rattle.std.proofs.Common.{◌≡◌, length, take}
use Rattle.dns_io.specs.Told.{IsHandedOn}
use Rattle.dns_update_client.specs.Exchange.{Answers}
use Rattle.dns_update_client.proofs.submitting.submit.Given as goal

abbrev pub invariant-loop-message : goal.invariant-loop-message
invariant-loop-message g l =
    let input = g.R.Source.source.told l.fn.input in
    let rest = g.R.Source.source.told l.input in
    let output = g.W.Sink.sink.told l.fn.output in
    let now = g.W.Sink.sink.told l.output in
    record {
      answered : Answers (take l.message-index l.messages.items) l.codes.items input.left rest.left output.taken now.taken;
      count : length l.codes.items ≡ l.message-index;
      handed : IsHandedOn output.taken output.flushed → IsHandedOn now.taken now.flushed;
      calm_input : rest.faults ≡ input.faults;
      calm_output : now.faults ≡ output.faults;
    }
