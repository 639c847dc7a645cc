use Rattle.std.proofs.Common.{subst}
use Rattle.dns_journal.specs.Records.{IsReading}
use Rattle.dns_journal.proofs.records.record_of.Goals as goal

pub returns-in-None-clause-err : goal.returns-in-None-clause-err
returns-in-None-clause-err c =
    let reading : IsReading c.args.row.now.bytes c.in_ok-record.field-0 = subst (λ b. IsReading b c.in_ok-record.field-0) c.as_slice.ensures c.in_ok-record.ensures in
    subst (IsReading c.args.row.now.bytes) c.in-None.is reading
