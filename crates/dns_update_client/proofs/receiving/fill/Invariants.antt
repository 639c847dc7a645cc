-- The first bytes of the room were taken from the input.
use Rattle.std.proofs.Common.{◌≡◌, ◌≤◌, ◌-◌, length, take}
use Rattle.dns_io.specs.Told.{Takes}
use Rattle.dns_update_client.proofs.receiving.fill.Given as goal

abbrev pub invariant-loop-filled : goal.invariant-loop-filled
invariant-loop-filled g l =
    record {
      taken : Takes (g.R.Source.source.told l.fn.input).left (g.R.Source.source.told l.input).left (take l.filled l.room);
      within : l.filled ≤ length l.room;
      calm : (g.R.Source.source.told l.input).faults ≡ (g.R.Source.source.told l.fn.input).faults;
    }

abbrev pub decreases-loop-filled : goal.decreases-loop-filled
decreases-loop-filled g l = length l.room - l.filled
