use Rattle.std.proofs.Common.{sym, subst, ◌∙◌, to_z, w64}
use Rattle.std.proofs.lemmas.Int.{to_z-of_z}
use Rattle.sqlite.specs.Held.{state}
use Rattle.dns_journal.specs.Pages.{HoldsPage}
use Rattle.dns_journal.proofs.Runs.{counted_none, asked_none, asked_then, counts_more, counts_all, counts_full}
use Rattle.dns_journal.proofs.migrating.all_runs.Goals as goal

pub loop-init : goal.loop-init
loop-init g c =
    let table = (state g.S.Store c.args.conn.now).now.trees 1 in
    record {
      asked = asked_none g.S.Store c.args.conn.now;
      held = λ clean has. subst (HoldsPage c.empty-page.result.next table) (sym c.empty-page.ensures) tt;
      counted = λ clean has. counted_none table c.new-runs.result c.new-runs.ensures;
    }

pub loop-preserved : goal.loop-preserved
loop-preserved g c =
    let taken = rw c.in-Some.is at c.in_ok-row.ensures.next in
    let next = to_z-of_z w64 c.in-Some-id_behind.next c.in-Some-id_behind.ensures.fits ∙ c.in-Some-id_behind.ensures.some in
    counts_more g.S.Store c.args.conn.now c.loop.conn c.next_row.new.conn c.loop.page c.next_row.new.page (to_z w64 c.loop.from-bits) _ c.in-Some.row c.loop.runs c.count_row.new.runs c.requires.alone c.loop.invariant
    c.next_row.ensures.asked taken next c.in_ok-count_row.ensures

pub returns-in_default-clause-asked : goal.returns-in_default-clause-asked
returns-in_default-clause-asked g c = asked_then g.S.Store c.args.conn.now c.loop.conn c.next_row.new.conn c.loop.invariant.asked c.next_row.ensures.asked

pub returns-in_default-clause-runs : goal.returns-in_default-clause-runs
returns-in_default-clause-runs g c =
    let none = rw c.in_default.is at c.in_ok-row.ensures.next in
    counts_all g.S.Store c.args.conn.now c.loop.conn c.next_row.new.conn c.loop.page c.next_row.new.page (to_z w64 c.loop.from-bits) c.loop.runs c.into_batches.result.items c.requires.alone c.loop.invariant
    c.next_row.ensures.asked none c.into_batches.ensures

pub returns-in-None-clause-runs : goal.returns-in-None-clause-runs
returns-in-None-clause-runs g c =
    let taken = rw c.in-Some.is at c.in_ok-row.ensures.next in
    counts_full g.S.Store c.args.conn.now c.loop.conn c.next_row.new.conn c.loop.page c.next_row.new.page (to_z w64 c.loop.from-bits) c.in-Some.row c.loop.runs c.count_row.new.runs c.into_batches-in-None.result.items c.requires.alone
    c.loop.invariant c.next_row.ensures.asked taken c.in-None.ensures.none c.in_ok-count_row.ensures c.into_batches-in-None.ensures
