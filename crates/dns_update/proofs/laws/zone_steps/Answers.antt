use Rattle.dns_update.proofs.Zones.{step_so_far, step_soa, so_far_at, batch_entry}
use Rattle.dns_update.proofs.laws.zone_steps.Goals as goal

pub returns : goal.returns
returns c = record { so_far = step_so_far; soa = step_soa; serial = λ origin records serial before. so_far_at origin serial records before; fit = batch_entry }
