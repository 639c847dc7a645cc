use Rattle.std.proofs.Common.{refl, []}
use Rattle.dns_sqlite.specs.declared.schema.Start.TheVariants.{NoTable, VersionAlone}
use Rattle.dns_journal.proofs.Runs.{asked_none}
use Rattle.dns_journal.proofs.Raising.{raises_after}
use Rattle.dns_journal.proofs.migrating.raise.Goals as goal

pub returns-in-NoTable : goal.returns-in-NoTable
returns-in-NoTable g c =
    record { done = rw c.in-NoTable.is (raises_after g.S.Store NoTable [] c.args.conn.now c.args.conn.now c.schema_up.new.conn c.requires.alone (asked_none g.S.Store c.args.conn.now) c.schema_up.result (λ clean from. refl) c.schema_up.ensures.done) }

pub returns-in-VersionAlone : goal.returns-in-VersionAlone
returns-in-VersionAlone g c =
    record { done = rw c.in-VersionAlone.is (raises_after g.S.Store VersionAlone [] c.args.conn.now c.args.conn.now c.schema_up-in-VersionAlone.new.conn c.requires.alone (asked_none g.S.Store c.args.conn.now) c.schema_up-in-VersionAlone.result (λ clean from. refl) c.schema_up-in-VersionAlone.ensures.done) }
