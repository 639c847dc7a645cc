use Rattle.dns_journal.specs.HostFiles.{host_told, host_may_leave}
use Rattle.dns_journal.proofs.file_journal.FileJournalKeeper.append.Goals as goal

pub returns : goal.returns
unfolding host_told host_may_leave
returns c =
    let all = c.append.ensures.appended in
    record { appended = record { ok = all.ok; run = all.run; err = all.err; batches = all.batches; ascending = all.ascending; by_first = all.by_first; alone = all.alone; left = all.left; cause = all.cause } }
