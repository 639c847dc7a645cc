use Rattle.dns_store.proofs.Migrated.{migrated}
use Rattle.dns_store.proofs.laws.migrations.Goals as goal

pub returns : goal.returns
returns c = record { replay = migrated }
