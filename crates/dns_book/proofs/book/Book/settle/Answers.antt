use Rattle.dns_book.specs.Book.{Settles}
use Rattle.dns_book.specs.Crash.{SettlesLeaving}
use Rattle.dns_book.proofs.IntoBuffer.{frame_into, settled_back}
use Rattle.dns_book.proofs.book.Book.settle.Goals as goal

pub from_frame-requires : goal.from_frame-requires
from_frame-requires g c = frame_into _ _ _ c.in_ok-into.into c.new-frame.ensures.items c.in_ok-into.ensures.ok

pub returns-clause-ok : goal.returns-clause-ok
returns-clause-ok g c =
    settled_back (λ s. Settles g.K.Keeper.keeper c.args.access.now c.args.self.now c.args.ask.now s c.settle_into.new.self) _ _ c.in_ok-into.into c.from_frame.result c.new-frame.ensures.items (rw c.lent.ensures at c.in_ok-into.ensures.ok) c.from_frame.ensures

pub returns-clause-left : goal.returns-clause-left
returns-clause-left g c =
    settled_back (λ s. SettlesLeaving g.K.Keeper.keeper c.args.access.now c.args.self.now c.args.ask.now s c.settle_into.new.self) _ _ c.in_ok-into.into c.from_frame.result c.new-frame.ensures.items (rw c.lent.ensures at c.in_ok-into.ensures.left) c.from_frame.ensures
