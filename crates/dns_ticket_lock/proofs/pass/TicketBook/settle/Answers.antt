use Rattle.std.proofs.Common.{subst}
use Rattle.dns_book.specs.declared.ask.Ask.{Ask}
use Rattle.dns_ticket_lock.specs.Passes.{SettledBy}
use Rattle.dns_book.proofs.IntoBuffer.{frame_into, settled_back}
use Rattle.dns_ticket_lock.proofs.pass.TicketBook.settle.Goals as goal

pub from_frame-requires : goal.from_frame-requires
from_frame-requires g c = frame_into _ _ _ c.in_ok-into.into c.new-frame.ensures.items c.in_ok-into.ensures.ok

pub returns-clause-ok : goal.returns-clause-ok
returns-clause-ok g c =
    subst (λ (k : Ask). SettledBy g.K.Keeper.keeper c.args.access.now c.args.pass.now k c.from_frame.result c.settle_into.new.pass) c.lent.ensures
    (settled_back (λ s. SettledBy g.K.Keeper.keeper c.args.access.now c.args.pass.now c.lent.result s c.settle_into.new.pass) _ _ c.in_ok-into.into c.from_frame.result c.new-frame.ensures.items c.in_ok-into.ensures.ok c.from_frame.ensures)
