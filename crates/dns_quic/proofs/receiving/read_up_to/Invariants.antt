-- The bytes so far were taken from the half, and no call of it failed.
use Rattle.std.proofs.Common.{◌≡◌, ◌≤◌, ◌-◌, length}
use Rattle.dns_io.specs.Told.{Keeps, Takes}
use Rattle.dns_quic.proofs.receiving.read_up_to.Given as goal

abbrev pub invariant-loop-half : goal.invariant-loop-half
invariant-loop-half g l =
    record {
      taken : Takes (g.R.RecvHalf.told l.fn.half).left (g.R.RecvHalf.told l.half).left l.bytes;
      within : length l.bytes ≤ l.fn.count;
      unstopped : Keeps (g.R.RecvHalf.told l.fn.half).stops (g.R.RecvHalf.told l.half).stops;
      calm : (g.R.RecvHalf.told l.half).faults ≡ (g.R.RecvHalf.told l.fn.half).faults;
    }

abbrev pub decreases-loop-half : goal.decreases-loop-half
decreases-loop-half g l = l.fn.count - length l.bytes
