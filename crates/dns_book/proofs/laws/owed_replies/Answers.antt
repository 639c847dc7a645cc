use Rattle.dns_book.proofs.Replying.{Owes-one, OwesBytes-one, OwesBytes-header, OwesBytes-limit, OwesBytes-datagram, OwesBytes-malformed, OwesBytes-refused, Owes-refused, OwesBytes-silent}
use Rattle.dns_book.proofs.Deciding.{same_decision}
use Rattle.dns_book.proofs.laws.owed_replies.Goals as goal

pub returns-clause-decided : goal.returns-clause-decided
returns-clause-decided c = same_decision c.standing_messages.ensures.messages

pub returns-clause-one : goal.returns-clause-one
returns-clause-one c = OwesBytes-one c.standing_messages.ensures.messages c.written_replies.ensures.one

pub returns-clause-reply : goal.returns-clause-reply
returns-clause-reply c = Owes-one c.standing_messages.ensures.messages

pub returns-clause-header : goal.returns-clause-header
returns-clause-header c = OwesBytes-header c.written_replies.ensures.header

pub returns-clause-limit : goal.returns-clause-limit
returns-clause-limit c = OwesBytes-limit c.standing_messages.ensures.messages c.written_replies.ensures.short

pub returns-clause-datagram : goal.returns-clause-datagram
returns-clause-datagram c = OwesBytes-datagram c.written_replies.ensures.short

pub returns-clause-malformed : goal.returns-clause-malformed
returns-clause-malformed c = OwesBytes-malformed c.written_replies.ensures.short

pub returns-clause-shut_out : goal.returns-clause-shut_out
returns-clause-shut_out c = OwesBytes-refused c.written_replies.ensures.short

pub returns-clause-refused : goal.returns-clause-refused
returns-clause-refused c = Owes-refused

pub returns-clause-silent : goal.returns-clause-silent
returns-clause-silent c = OwesBytes-silent c.written_replies.ensures.header
