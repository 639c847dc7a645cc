use Rattle.std.proofs.Common.{sym, subst}
use Rattle.sqlite.specs.Held.{state}
use Rattle.dns_sqlite.specs.Versions.{FitsTables}
use Rattle.dns_journal.proofs.Opening.{ready_if, version_bits}
use Rattle.dns_journal.proofs.Pages.{holds_none}
use Rattle.dns_journal.proofs.BatchPages.{holds_no_batch}
use Rattle.dns_journal.proofs.journal.Journal.new.Goals as goal

pub invariant_of-result : goal.invariant_of-result
invariant_of-result g c =
    let done = c.in-Ok.ensures in
    let s = state g.S.Store c.select_schema_version.new.conn in
    let old = state g.S.Store c.args.conn in
    record {
      ready = ready_if c.takes_calls.result _ s c.takes_calls.ensures.0;
      page = λ clean. holds_none c.empty.result _ c.empty.ensures;
      batches = λ clean. holds_no_batch c.none.result _ c.none.ensures;
      fits = λ clean live. subst (λ n. FitsTables n s.now) (sym (version_bits c.in-Ok.version old.now (done.version clean))) (subst (FitsTables c.in-Ok.version) (sym (done.shown clean live).1) (done.fits clean));
    }

pub returns-in-Err-clause-none : goal.returns-in-Err-clause-none
returns-in-Err-clause-none g c = (c.select_schema_version.new.conn, c.in-Err.ensures.asked, c.in-Err.ensures.none)
