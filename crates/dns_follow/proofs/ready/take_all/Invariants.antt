use Rattle.std.proofs.Common.{◌≡◌, ◌++◌, List, take}
use Rattle.dns_keeper.specs.declared.row.Row.{Row}
use Rattle.dns_zone.specs.Replaying.{HasTaken}
use Rattle.dns_follow.proofs.ready.take_all.Given as goal

abbrev pub invariant-loop-row : goal.invariant-loop-row
invariant-loop-row l = record {
  before : l.growing.before ≡ l.fn.growing.before;
  named : l.growing.now.origin ≡ l.fn.growing.now.origin;
  taken : (front : List Row) → HasTaken l.fn.growing.now front → HasTaken l.growing.now (front ++ take l.row-index l.fn.rows.items);
}
