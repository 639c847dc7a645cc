use Rattle.std.proofs.Common.{Some, None, Bool, if◌then◌else◌, sym, subst, OnOk}
use Rattle.dns_io.specs.Told.{Grows}
use Rattle.dns_server.specs.Sockets.{answer_to}
use Rattle.dns_server.proofs.socket_worker.answer.Goals as goal

pub returns-then-is_owed-clause-ok : goal.returns-then-is_owed-clause-ok
returns-then-is_owed-clause-ok g c =
    subst (λ (owed : Bool). OnOk c.answer.result (Grows (g.U.UdpPort.told c.args.socket.now).taken (g.U.UdpPort.told c.answer.new.self).taken (answer_to c.args.to (if owed then Some c.args.reply.now else None)))) (sym c.if-is_owed.true) c.answer.ensures.told.grows
