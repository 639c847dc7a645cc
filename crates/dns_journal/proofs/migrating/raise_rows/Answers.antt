use Rattle.dns_journal.proofs.migrating.raise_rows.Goals as goal
