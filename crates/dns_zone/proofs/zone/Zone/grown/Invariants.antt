use Rattle.std.proofs.Common.{◌≡◌, ◌++◌, take}
use Rattle.dns_zone.specs.Replaying.{HasTaken}
use Rattle.dns_zone.specs.Growing.{Behind}
use Rattle.dns_zone.proofs.zone.Zone.grown.Given as goal

abbrev pub invariant-loop-row : goal.invariant-loop-row
invariant-loop-row l = record {
  origin : l.replaying.origin ≡ l.fn.self.origin;
  taken : Behind l.fn.self l.fn.done (λ front. HasTaken l.replaying (front ++ take l.row-index l.fn.rows));
}
