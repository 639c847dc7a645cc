-- Those that were looked at stand at the end, but for those that are let go of.
use Rattle.std.proofs.Common.{◌≡◌, ◌≤◌, ◌-◌, ◌++◌, length, take, drop}
use Rattle.std.specs.List.{filter}
use Rattle.dns_connections.specs.Links.{is_kept}
use Rattle.dns_connections.proofs.links.drop_ended.Given as goal

abbrev pub invariant-loop-done : goal.invariant-loop-done
invariant-loop-done g l = record {
  few : l.done ≤ l.all;
  all : l.all ≡ length l.fn.links.items;
  items : l.links.items ≡ drop l.done l.fn.links.items ++ filter is_kept (take l.done l.fn.links.items);
}

abbrev pub decreases-loop-done : goal.decreases-loop-done
decreases-loop-done g l = l.all - l.done
