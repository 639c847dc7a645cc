use Rattle.std.proofs.Common.{◌≡◌, drop}
use Rattle.dns_update.specs.Verdict.{prescan}
use Rattle.dns_update.proofs.prescan.prescan.Given as goal

abbrev pub invariant-loop-one : goal.invariant-loop-one
invariant-loop-one l = prescan l.origin (drop l.one-index l.updates) ≡ prescan l.origin l.updates
