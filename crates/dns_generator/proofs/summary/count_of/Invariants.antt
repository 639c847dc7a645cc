-- Those counted and those of the replies that are left are all.
use Rattle.std.proofs.Common.{◌≡◌, ◌+◌, ◌≤◌, drop}
use Rattle.std.specs.Prelude.{count_by}
use Rattle.dns_generator.specs.Summary.{has_code}
use Rattle.dns_generator.proofs.summary.count_of.Given as goal

abbrev pub invariant-loop-out : goal.invariant-loop-out
invariant-loop-out l =
    record {
      few : l.count ≤ l.out-index;
      all : l.count + count_by (has_code l.code) (drop l.out-index l.outs) ≡ count_by (has_code l.code) l.outs;
    }
