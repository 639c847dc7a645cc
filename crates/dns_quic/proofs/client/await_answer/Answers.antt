-- Ending the sending half leaves the receiving one, and counts nothing where it went well.
use Rattle.std.proofs.Common.{◌≡◌, ◌∙◌, inr, subst, rules, arith}
use Rattle.dns_io.specs.Told.{Rose}
use Rattle.dns_quic.proofs.client.await_answer.Goals as goal

pub returns-in-Ok-clause-cause : goal.returns-in-Ok-clause-cause
returns-in-Ok-clause-cause g c =
    let recv : (g.R.RecvHalf.told c.finish.new.self.recv).faults ≡ (g.R.RecvHalf.told c.args.stream.now.recv).faults = search rules in
    let send : (g.S.SendHalf.sending.told c.finish.new.self.send).faults ≡ (g.S.SendHalf.sending.told c.args.stream.now.send).faults = search rules in
    record {
      later_send = omega (arith, send, c.receive.ensures.later);
      later_recv = omega (arith, recv, c.receive.ensures.cause.later);
      failed = λ io. inr (subst (λ count. Rose count (g.R.RecvHalf.told c.receive.new.self.recv).faults) recv (c.receive.ensures.cause.failed io));
      calm_send = λ io id. c.receive.ensures.calm_send id ∙ send;
      calm_recv = λ io. c.receive.ensures.cause.calm io ∙ recv;
    }
