-- The messages that the connection may still have were settled, and let go.
use Rattle.dns_server_core.proofs.LongerRuns.{on_err}
use Rattle.dns_requests.proofs.answering.answer.Goals as goal

pub returns-in_err-answered-clause-err : goal.returns-in_err-answered-clause-err
returns-in_err-answered-clause-err g c = on_err c.from_residual.result (rw (c.unread.ensures, c.peer.ensures, c.most-most.ensures) at c.in_err-answered.ensures.err)

pub settled-requires-clause-messages : goal.settled-requires-clause-messages
settled-requires-clause-messages g c = rw (c.unread.ensures, c.most-most.ensures) at c.in_ok-answered.ensures.count

pub settled-requires-clause-rest : goal.settled-requires-clause-rest
settled-requires-clause-rest g c = rw (c.unread.ensures, c.most-most.ensures) at c.in_ok-answered.ensures.rest

pub returns-clause-ok : goal.returns-clause-ok
returns-clause-ok g c = rw (c.unread.ensures, c.peer.ensures, c.most-most.ensures) at c.in_ok-answered.ensures.ok
