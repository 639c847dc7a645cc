use Rattle.dns_journal.proofs.Runs.{Counted}
use Rattle.dns_journal.proofs.migrating.all_runs.Given as goal

abbrev pub invariant-loop : goal.invariant-loop
invariant-loop g l = Counted g.S.Store l.fn.conn l.conn l.page l.from l.runs
