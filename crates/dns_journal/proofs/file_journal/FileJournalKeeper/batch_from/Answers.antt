use Rattle.std.proofs.Common.{w64}
use Rattle.std.proofs.lemmas.Int.{to_z-of_z}
use Rattle.dns_journal.specs.HostFiles.{host_told, host_may_leave}
use Rattle.dns_journal.proofs.file_journal.FileJournalKeeper.batch_from.Goals as goal

pub returns : goal.returns
unfolding host_told host_may_leave
returns c =
    let all = rw (to_z-of_z w64 c.args.first c.ranges.first) at c.batch_from.ensures.read in
    record { read = record { found = all.found; first = all.first; by_first = all.by_first; kept = all.kept; batches = all.batches; left = all.left; cause = all.cause } }
