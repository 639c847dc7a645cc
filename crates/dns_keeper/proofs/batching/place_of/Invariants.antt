use Rattle.std.proofs.Common.{◌≡◌, ◌++◌, take, drop}
use Rattle.dns_keeper.specs.Batches.{put_batch}
use Rattle.dns_keeper.proofs.batching.place_of.Given as goal

abbrev pub invariant-loop-one : goal.invariant-loop-one
invariant-loop-one l = record {
  place : l.place ≡ l.one-index;
  put : take l.one-index l.batches ++ put_batch l.batch (drop l.one-index l.batches) ≡ put_batch l.batch l.batches;
}
