use Rattle.std.proofs.Common.{◌≡◌, drop}
use Rattle.std.specs.List.{list_any}
use Rattle.dns_update.specs.Change.{is_taken_by_none}
use Rattle.dns_update.proofs.changing.takes_one.Given as goal

abbrev pub invariant-loop-other : goal.invariant-loop-other
invariant-loop-other l = list_any (is_taken_by_none l.origin l.count l.one) (drop l.other-index l.records) ≡ list_any (is_taken_by_none l.origin l.count l.one) l.records
