-- Sending leaves the receiving half, and counts nothing where it went well.
use Rattle.std.proofs.Common.{◌≡◌, ◌∙◌, subst, rules, arith, ◌⊎◌}
use Rattle.dns_io.specs.Told.{Rose}
use Rattle.dns_quic.proofs.client.talk.Goals as goal

pub returns-in-Ok-clause-cause : goal.returns-in-Ok-clause-cause
returns-in-Ok-clause-cause g c =
    let recv : (g.R.RecvHalf.told c.send.new.self.recv).faults ≡ (g.R.RecvHalf.told c.args.stream.now.recv).faults = search rules in
    let send : (g.S.SendHalf.sending.told c.send.new.self.send).faults ≡ (g.S.SendHalf.sending.told c.args.stream.now.send).faults = search rules in
    let sent = (g.S.SendHalf.sending.told c.await_answer.new.stream.send).faults in
    let received = (g.R.RecvHalf.told c.await_answer.new.stream.recv).faults in
    record {
      later_send = omega (arith, send, c.await_answer.ensures.cause.later_send);
      later_recv = omega (arith, recv, c.await_answer.ensures.cause.later_recv);
      failed = λ io. subst (λ count. Rose count sent ⊎ Rose (g.R.RecvHalf.told c.args.stream.now.recv).faults received) send
          (subst (λ count. Rose (g.S.SendHalf.sending.told c.send.new.self.send).faults sent ⊎ Rose count received) recv
          (c.await_answer.ensures.cause.failed io));
      calm_send = λ io id. c.await_answer.ensures.cause.calm_send io id ∙ send;
      calm_recv = λ io. c.await_answer.ensures.cause.calm_recv io ∙ recv;
    }
