-- What became of a message.
use Rattle.std.proofs.Common.{subst, Option, List, ℕ}
use Rattle.std.specs.Prelude.{OnOk}
use Rattle.dns_io.specs.Told.{Grows}
use Rattle.dns_io.specs.declared.peer.Peer.{Peer}
use Rattle.dns_book.proofs.IntoBuffer.{plain_reply, is_replied}
use Rattle.dns_server.specs.Sockets.{answer_to}
use Rattle.dns_server.proofs.Handling.{answered}
use Rattle.dns_server.proofs.socket_worker.settle.Goals as goal

pub returns : goal.returns
returns g c =
    let into = c.in_ok-into.ensures.ok in
    answered _ _ _ _ _ _ into.settled _ c.answer.result into.is (λ owed. is_replied _ _ _ _ _ into owed) c.answer.ensures.owed c.answer.ensures.left c.answer.ensures.received
    (subst (λ (p : Peer). OnOk c.answer.result (Grows (g.U.UdpPort.told c.args.socket.now).taken (g.U.UdpPort.told c.answer.new.socket).taken (answer_to p into.settled.reply)))
    c.source_of.ensures
    (subst (λ (r : Option (List ℕ)). OnOk c.answer.result (Grows (g.U.UdpPort.told c.args.socket.now).taken (g.U.UdpPort.told c.answer.new.socket).taken (answer_to c.source_of.result r)))
    (plain_reply _ _ _ _ _ c.clear.ensures.items c.as_slice.ensures.value into) c.answer.ensures.ok))
    c.answer.ensures.err c.answer.ensures.counted
