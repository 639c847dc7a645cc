-- The bytes so far and those of the replies that are left are all.
use Rattle.std.proofs.Common.{◌≡◌, ◌+◌, ◌*◌, ◌≤◌, drop, length}
use Rattle.std.specs.List.{sum_by}
use Rattle.dns_generator.proofs.summary.bytes_of.Given as goal

abbrev pub invariant-loop-out : goal.invariant-loop-out
invariant-loop-out l =
    record {
      few : l.bytes ≤ l.out-index * 18446744073709551616;
      all : l.bytes + sum_by (λ out. length out.bytes) (drop l.out-index l.outs) ≡ sum_by (λ out. length out.bytes) l.outs;
    }
