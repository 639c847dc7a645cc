-- The bytes so far were taken from the source, and at most one byte more than the bound is read.
use Rattle.std.proofs.Common.{◌≡◌, ◌+◌, ◌-◌, ◌≤◌, take, vec_len}
use Rattle.dns_io.specs.Told.{Takes}
use Rattle.dns_edges.proofs.to_end.read_to_end.Given as goal

abbrev pub invariant-loop-count : goal.invariant-loop-count
invariant-loop-count g l =
    record {
      held : l.count ≤ vec_len l.bytes;
      size : vec_len l.bytes ≤ l.bound + 1;
      taken : Takes (g.S.Source.source.told l.fn.source).left (g.S.Source.source.told l.source).left (take l.count l.bytes.items);
      calm : (g.S.Source.source.told l.source).faults ≡ (g.S.Source.source.told l.fn.source).faults;
    }

abbrev pub decreases-loop-count : goal.decreases-loop-count
decreases-loop-count g l = l.bound + 1 - l.count
