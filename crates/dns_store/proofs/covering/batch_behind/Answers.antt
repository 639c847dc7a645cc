use Rattle.std.proofs.Common.{◌∙◌}
use Rattle.std.specs.Int.{w64}
use Rattle.std.specs.Prelude.{pos, ◌+ℤ◌}
use Rattle.std.proofs.lemmas.Int.{to_z-of_z}
use Rattle.dns_store.proofs.ReadBatches.{found_on}
use Rattle.dns_store.proofs.covering.batch_behind.Goals as goal

pub returns-in-Ok-clause-found : goal.returns-in-Ok-clause-found
returns-in-Ok-clause-found g c =
    found_on (c.args.batch.now.first +ℤ pos 1) _ c.in-Ok.found (g.K.Keeper.keeper.told c.batch_from.new.self) (to_z-of_z w64 c.in-Some.first c.in-Some.ensures.fits ∙ c.in-Some.ensures.next)
    c.in-Ok.ensures.read.found c.in-Ok.ensures.read.by_first
