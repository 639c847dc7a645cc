use Rattle.dns_update.proofs.Zones.{applied_zone}
use Rattle.dns_update.proofs.AppliedSerials.{applied_serial}
use Rattle.dns_update.proofs.laws.applied_batches.Goals as goal

pub returns : goal.returns
returns c = record { zone = applied_zone; serial = applied_serial }
