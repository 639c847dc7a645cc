use Rattle.dns_store.specs.Store.{StoreOf}
use Rattle.dns_store.specs.Opening as store
use Rattle.dns_store.specs.Crash.{LeavesRows}
use Rattle.dns_book.proofs.Opened.{opened_fresh, opened_store}
use Rattle.dns_book.proofs.book.Book.begin.Goals as goal

pub returns-clause-ok : goal.returns-clause-ok
returns-clause-ok g c =
    opened_fresh c.in_ok-store.store c.args.allow_update _ c.of_store.ensures
    (store.Begins g.K.Keeper.keeper (g.K.Keeper.keeper.told c.args.keeper) c.args.zone c.args.moment) c.in_ok-store.ensures.ok

pub returns-clause-left : goal.returns-clause-left
returns-clause-left g c =
    opened_store c.in_ok-store.store c.args.allow_update _ c.of_store.ensures (λ (s : StoreOf g.row.K.Denot). LeavesRows g.K.Keeper.keeper s.keeper) c.in_ok-store.ensures.left
