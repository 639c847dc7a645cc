use Rattle.std.proofs.Common.{◌≡◌, ◌+◌, ◌≤◌, ◌++◌, length}
use Rattle.std.specs.List.{sum_by, AllByRecursion}
use Rattle.dns_name.specs.Name.{IsLabel, name_len}
use Rattle.dns_presentation.proofs.names.name_under.Given as goal

abbrev pub invariant-loop-label : goal.invariant-loop-label
invariant-loop-label l = record {
  name : l.name ++ l.labels ≡ l.fn.name ++ l.origin;
  labels : AllByRecursion IsLabel l.labels;
  room : name_len l.name + (sum_by length l.labels + length l.labels) ≤ 255;
}
