-- An update that is half done.
use Rattle.std.specs.Prelude.{◌≡◌, List, ◌++◌}
use Rattle.std.specs.List.{AllByRecursion}
use Rattle.dns_wire.specs.declared.record.Record.{Record}
use Rattle.dns_wire.specs.ReadBack.{ReadsBack}
use Rattle.dns_zone_map.specs.Zone.{Contents, IsZone}
use Rattle.dns_update.specs.declared.verdict.Verdict.TheVariants.{Passes}
use Rattle.dns_update.specs.declared.batch.Modified.{Modified}
use Rattle.dns_update.specs.Change.{steps, batch_of}
use Rattle.dns_update.specs.Modified.{modified_of}
use Rattle.dns_update.specs.Verdict.{prescan}

-- of the update records of a zone some are left to be done: the others made a batch, which led to the records that there are
pub record IsUnderWay (before : Contents) (updates rest : List Record) (now : Contents) (batch : List Record)
    (modified : Modified) : Type 0 where
  pub origin : now.origin ≡ before.origin
  pub zone : IsZone now.origin now.records
  pub passes : prescan now.origin rest ≡ Passes
  pub back : AllByRecursion ReadsBack rest
  pub whole : batch ++ batch_of before.origin now.records rest ≡ batch_of before.origin before.records updates
  pub made : now.records ≡ steps before.origin before.records batch
  pub counted : modified ≡ modified_of before.origin before.records batch
