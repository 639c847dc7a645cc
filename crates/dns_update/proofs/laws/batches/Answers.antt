use Rattle.dns_update.proofs.Batches.{steps_changes, batch_journalled, batch_passes, batch_few}
use Rattle.dns_update.proofs.laws.batches.Goals as goal

pub returns : goal.returns
returns c = record { steps = steps_changes; journalled = batch_journalled; passes = batch_passes; few = batch_few }
