use Rattle.std.proofs.Common.{◌≡◌, drop}
use Rattle.std.specs.List.{list_any}
use Rattle.dns_update.specs.Change.{is_same_record}
use Rattle.dns_update.proofs.changing.is_among.Given as goal

abbrev pub invariant-loop-other : goal.invariant-loop-other
invariant-loop-other l = list_any (is_same_record l.one) (drop l.other-index l.records) ≡ list_any (is_same_record l.one) l.records
