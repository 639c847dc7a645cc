use Rattle.std.proofs.Common.{Ok, Err}
use Rattle.dns_keeper.specs.declared.keeper.KeepFault.TheVariants.{Failed}
use Rattle.dns_journal.proofs.Inserting.{puts_as_ok, puts_as_err, appends}
use Rattle.dns_journal.proofs.inserts.JournalKeeper.append.Goals as goal

pub returns-in-Ok-clause-put : goal.returns-in-Ok-clause-put
returns-in-Ok-clause-put g c = puts_as_ok g.S.Store _ _ _ _ _ _ c.in-Ok.ensures.inserted.put

pub returns-in-Ok-clause-appended : goal.returns-in-Ok-clause-appended
returns-in-Ok-clause-appended g c =
    let cause = c.in-Ok.ensures.inserted.cause in
    appends g.S.Store _ _ _ _ _ _ (Ok tt) (puts_as_ok g.S.Store _ _ _ _ _ _ c.in-Ok.ensures.inserted.put) (record { later = cause.later; counts = cause.counts })

pub returns-in-Err-Sqlite-clause-put : goal.returns-in-Err-Sqlite-clause-put
returns-in-Err-Sqlite-clause-put g c = puts_as_err g.S.Store _ _ _ _ _ _ _ Failed c.in-Err-Sqlite.ensures.inserted.put

pub returns-in-Err-Sqlite-clause-appended : goal.returns-in-Err-Sqlite-clause-appended
returns-in-Err-Sqlite-clause-appended g c =
    let cause = rw c.in-Err-Sqlite.field-0-is at c.in-Err-Sqlite.ensures.inserted.cause in
    appends g.S.Store _ _ _ _ _ _ (Err Failed) (puts_as_err g.S.Store _ _ _ _ _ _ _ Failed c.in-Err-Sqlite.ensures.inserted.put) (record { later = cause.later; counts = cause.counts })
