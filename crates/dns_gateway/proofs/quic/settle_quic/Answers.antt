-- Receiving leaves the sending half, and counts nothing where it went well; the answer leaves the receiving one.
use Rattle.std.proofs.Common.{◌≡◌, ◌∙◌, inl, subst, rules, arith}
use Rattle.dns_io.specs.Told.{Rose}
use Rattle.dns_gateway.proofs.quic.settle_quic.Goals as goal

pub returns-in-Ok-clause-cause : goal.returns-in-Ok-clause-cause
returns-in-Ok-clause-cause g c =
    let send : (g.S.SendHalf.sending.told c.receive_bytes.new.self.send).faults ≡ (g.S.SendHalf.sending.told c.args.stream.now.send).faults = search rules in
    let recv : (g.R.RecvHalf.told c.answer.new.stream.recv).faults ≡ (g.R.RecvHalf.told c.args.stream.now.recv).faults = search rules in
    record {
      later_send = omega (arith, send, c.answer.ensures.later);
      later_recv = omega (arith, recv);
      failed = λ io. inl (subst (λ count. Rose count (g.S.SendHalf.sending.told c.answer.new.stream.send).faults) send (c.answer.ensures.failed io));
      calm_send = λ io id. c.answer.ensures.calm io id ∙ send;
      calm_recv = λ io. recv;
    }
