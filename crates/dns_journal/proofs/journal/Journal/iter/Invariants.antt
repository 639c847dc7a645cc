use Rattle.dns_journal.proofs.Iterating.{Read}
use Rattle.dns_journal.proofs.journal.Journal.iter.Given as goal

abbrev pub invariant-loop : goal.invariant-loop
invariant-loop g l = Read g.S.Store l.fn.self l.self l.from l.records.items
