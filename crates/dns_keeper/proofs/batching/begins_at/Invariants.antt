use Rattle.std.proofs.Common.{◌≡◌, drop}
use Rattle.dns_keeper.specs.Batches.{begins_at}
use Rattle.dns_keeper.proofs.batching.begins_at.Given as goal

abbrev pub invariant-loop-one : goal.invariant-loop-one
invariant-loop-one l = begins_at l.batch.first (drop l.one-index l.batches) ≡ begins_at l.batch.first l.batches
