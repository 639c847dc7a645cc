use Rattle.std.proofs.Common.{◌≡◌, ◌≤◌, length, take}
use Rattle.dns_zone_map.specs.Former.{restored}
use Rattle.dns_zone_map.proofs.former.put_all_back.Given as goal

abbrev pub invariant-loop-left : goal.invariant-loop-left
invariant-loop-left l = record {
  within : l.left ≤ length l.formers.items;
  same : restored (take l.left l.formers.items) l.names ≡ restored l.fn.formers.items l.fn.names;
}

abbrev pub decreases-loop-left : goal.decreases-loop-left
decreases-loop-left l = l.left
