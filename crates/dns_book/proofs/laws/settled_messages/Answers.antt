use Rattle.dns_book.proofs.Failing.{Settles-later, Settles-same, Settles-rose, Settles-some}
use Rattle.dns_book.proofs.ServFail.{Settles-servfail}
use Rattle.dns_book.proofs.laws.settled_messages.Goals as goal

pub returns-clause-later : goal.returns-clause-later
returns-clause-later g c = Settles-later g.K.Keeper.keeper

pub returns-clause-still : goal.returns-clause-still
returns-clause-still g c = Settles-same g.K.Keeper.keeper

pub returns-clause-rose : goal.returns-clause-rose
returns-clause-rose g c = Settles-rose g.K.Keeper.keeper

pub returns-clause-some : goal.returns-clause-some
returns-clause-some g c = Settles-some g.K.Keeper.keeper

pub returns-clause-servfail : goal.returns-clause-servfail
returns-clause-servfail g c = Settles-servfail g.K.Keeper.keeper
