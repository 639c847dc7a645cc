use Rattle.dns_keeper.proofs.Runs.{covers_more}
use Rattle.dns_keeper.proofs.CoversGrow.{covers_appended}
use Rattle.dns_keeper.proofs.Covering.{covered, covering}
use Rattle.dns_keeper.proofs.laws.covers.Goals as goal

pub returns : goal.returns
returns c = record { more = covers_more; append = covers_appended; exactly = λ e rows batches. (covered e rows batches, covering e batches rows) }
