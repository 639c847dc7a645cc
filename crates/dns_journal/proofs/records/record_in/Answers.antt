use Rattle.dns_journal.proofs.RecordsRead.{reading_of}
use Rattle.dns_journal.proofs.records.record_in.Goals as goal

pub returns : goal.returns
returns c = rw c.whole.ensures (reading_of c.args.bytes.now c.in_ok-read.read c.in_ok-read.ensures.read)
