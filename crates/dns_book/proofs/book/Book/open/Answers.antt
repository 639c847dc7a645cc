use Rattle.dns_store.specs.Store.{StoreOf}
use Rattle.dns_store.specs.Opening as store
use Rattle.dns_book.specs.Crash.{LeavesOpened}
use Rattle.dns_store.specs.Crash.{LeavesStoreOn}
use Rattle.dns_book.proofs.Opened.{opened_fresh, opened_store}
use Rattle.dns_book.proofs.book.Book.open.Goals as goal

pub returns-clause-ok : goal.returns-clause-ok
returns-clause-ok g c =
    opened_fresh c.in_ok-store.store c.args.allow_update _ c.of_store.ensures
    (store.Opens g.K.Keeper.keeper (g.K.Keeper.keeper.told c.args.keeper) c.args.origin c.args.zone c.args.moment) c.in_ok-store.ensures.ok

pub returns-clause-left : goal.returns-clause-left
returns-clause-left g c =
    opened_store c.in_ok-store.store c.args.allow_update _ c.of_store.ensures (λ (s : StoreOf g.row.K.Denot). LeavesOpened g.K.Keeper.keeper c.args.keeper s.keeper) c.in_ok-store.ensures.left

pub returns-clause-left_on : goal.returns-clause-left_on
returns-clause-left_on g c = λ alone.
    opened_store c.in_ok-store.store c.args.allow_update _ c.of_store.ensures (LeavesStoreOn g.K.Keeper.keeper) (c.in_ok-store.ensures.left_on alone)
