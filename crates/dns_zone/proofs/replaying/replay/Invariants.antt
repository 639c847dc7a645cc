use Rattle.std.proofs.Common.{◌≡◌, take}
use Rattle.dns_name.specs.Name.{fold_of}
use Rattle.dns_zone.specs.Replaying.{HasTaken}
use Rattle.dns_zone.proofs.replaying.replay.Given as goal

abbrev pub invariant-loop-row : goal.invariant-loop-row
invariant-loop-row l = record {
  origin : l.replaying.origin ≡ fold_of l.origin;
  taken : HasTaken l.replaying (take l.row-index l.fn.rows.items);
}
