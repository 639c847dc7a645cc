use Rattle.std.proofs.Common.{◌≡◌, ◌+◌, ◌≤◌, ◌++◌, length, take}
use Rattle.std.specs.List.{AllByRecursion}
use Rattle.dns_name.specs.Name.{IsLabel, labels_bytes}
use Rattle.dns_presentation.proofs.names.put_origin.Given as goal

abbrev pub invariant-loop-label : goal.invariant-loop-label
invariant-loop-label l = record {
  size : length l.room ≡ 255;
  put : take l.end l.room ++ labels_bytes l.labels ≡ take l.fn.end l.fn.room ++ labels_bytes l.origin;
  labels : AllByRecursion IsLabel l.labels;
  within : l.end + length (labels_bytes l.labels) ≤ 254;
}
