use Rattle.std.proofs.Common.{◌≡◌, ◌^◌, drop, pos, neg_ℤ}
use Rattle.dns_keeper.specs.Batches.{batch_from}
use Rattle.dns_keeper.proofs.batching.batch_from.Given as goal

abbrev pub invariant-loop-one : goal.invariant-loop-one
invariant-loop-one l =
    (batch_from l.first (drop l.one-index l.batches) ≡ batch_from l.first l.batches)
    × (l.first ≡ neg_ℤ (pos (2 ^ 63)) → l.one-index ≡ 0)
