use Rattle.std.proofs.Common.{ap, Err}
use Rattle.sqlite.specs.Held.{state}
use Rattle.dns_journal.proofs.Opening.{no_version}
use Rattle.dns_journal.proofs.journal.select_schema_version.Goals as goal

pub returns-in-Err-clause-none : goal.returns-in-Err-clause-none
returns-in-Err-clause-none g c =
    rw c.version_refusal.ensures (no_version (state g.S.Store c.args.conn.now) (state g.S.Store c.select_schema_version.new.conn) c.in-Err.fault (λ clean is. c.in-Err.ensures.none clean (ap (λ f. Err f) is)) c.in-Err.ensures.refused)
