use Rattle.std.proofs.Common.{sym, subst}
use Rattle.std.specs.Prelude.{Some}
use Rattle.dns_wire.specs.Standing.{RecordAt, Reads}
use Rattle.dns_update.specs.Replay.{IsReading}
use Rattle.dns_update.proofs.Effects.{whole, none_whole}
use Rattle.dns_update.proofs.row_change.one_record.Goals as goal

pub returns-in-Some-clause-reading : goal.returns-in-Some-clause-reading
returns-in-Some-clause-reading c =
    let bytes = c.args.bytes.now in
    let reads : Reads (RecordAt bytes 0) (Some (c.in-Some.one, c.in-Some.end)) = subst (Reads (RecordAt bytes 0)) c.in-Some.is c.in_ok-one.ensures.read in
    subst (IsReading bytes) (sym c.if_whole.ensures) (whole bytes c.in-Some.one c.in-Some.end reads)

pub returns-in-None-clause-reading : goal.returns-in-None-clause-reading
returns-in-None-clause-reading c = none_whole c.args.bytes.now (subst (Reads (RecordAt c.args.bytes.now 0)) c.in-None.is c.in_ok-one.ensures.read)
