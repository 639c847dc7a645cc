use Rattle.dns_update.proofs.Replayed.{replays_one, last_replayed, numbered_replayed, replayed_batch, replayed_update}
use Rattle.dns_update.proofs.ReplayZones.{replay_zone}
use Rattle.dns_update.proofs.Opened.{opened}
use Rattle.dns_update.proofs.laws.replays.Goals as goal

pub returns : goal.returns
returns c = record { one = replays_one; zone = replay_zone; opening = opened; last = last_replayed; numbered = numbered_replayed; batch = replayed_batch; update = replayed_update }
