use Rattle.std.proofs.Common.{◌≡◌, true, inr, sym, subst, arith, rules, w64, to_z, of_z}
use Rattle.std.proofs.lemmas.Int.{to_z-of_z}
use Rattle.sqlite.specs.Held.{state}
use Rattle.sqlite.specs.Effect.{Database}
use Rattle.dns_sqlite.specs.Reads.{HasPage}
use Rattle.dns_journal.specs.Told.{IsReady}
use Rattle.dns_journal.specs.Stored.{ShowsRow}
use Rattle.dns_journal.proofs.Reading.{row_told, first_row_told}
use Rattle.dns_journal.proofs.Pages.{shows_row}
use Rattle.dns_journal.proofs.Asking.{was_read_at, was_read_stays, reads_row, counts_by}
use Rattle.dns_journal.proofs.Iterating.{was_read_then}
use Rattle.dns_journal.proofs.journal.Journal.read_page.Goals as goal

pub first_of-requires : goal.first_of-requires
first_of-requires g c clean =
    let old = state g.S.Store c.self.inside.conn in
    let done = c.in-Ok.ensures in
    let is : c.self.inside.ready ≡ true = rw (← c.self.view_is) at c.requires in
    let ready : IsReady true c.self.inside.version old = subst (λ b. IsReady b c.self.inside.version old) is c.self.invariant.ready in
    let it = done.found clean (inr (ready.2 (omega (arith, done.asked.falls, clean)) (done.opened clean))) in
    subst (λ (d : Database). HasPage (to_z w64 (of_z w64 c.args.id)) (d.trees 1) c.in-Ok.rows.items) (sym it.1.0.now_is) it.0

pub returns-in-Ok-clause-stays : goal.returns-in-Ok-clause-stays
returns-in-Ok-clause-stays g c =
    let is : c.self.inside.ready ≡ true = rw (← c.self.view_is) at c.requires in
    let asked = was_read_at g.S.Store c.self.inside.conn c.select_rows_from.new.conn c.self.inside.version c.self.inside.ready c.self.inside.faults c.self.inside.faults is c.self.invariant.ready c.in-Ok.ensures.asked in
    rw (← c.self.view_is, c.first_of.ensures.kept) asked

pub returns-in-Ok-clause-shown : goal.returns-in-Ok-clause-shown
returns-in-Ok-clause-shown g c =
    let old = state g.S.Store c.self.inside.conn in
    let new = state g.S.Store c.select_rows_from.new.conn in
    let done = c.in-Ok.ensures in
    let is : c.self.inside.ready ≡ true = rw (← c.self.view_is) at c.requires in
    let ready : IsReady true c.self.inside.version old = subst (λ b. IsReady b c.self.inside.version old) is c.self.invariant.ready in
    let stored = rw (to_z-of_z w64 c.args.id c.ranges.id, c.first_of.ensures.kept) at c.first_of.ensures.stored in
    let all : ShowsRow c.args.id old new c.first_of.result = shows_row c.args.id old new c.first_of.result (λ clean. (done.found clean (inr (ready.2 (omega (arith, done.asked.falls, clean)) (done.opened clean)))).1.0.now_is) stored in
    rw (← c.self.view_is, c.first_of.ensures.kept) all

pub returns-in-Ok-clause-read : goal.returns-in-Ok-clause-read
returns-in-Ok-clause-read g c =
    let stored = rw (to_z-of_z w64 c.args.id c.ranges.id) at c.first_of.ensures.stored in
    reads_row g.S.Store c.args.self.now c.first_of.new.self c.args.id _ (row_told g.S.Store c.first_of.new.self c.args.id c.first_of.result stored)
    (λ least. first_row_told g.S.Store c.first_of.new.self c.first_of.result (rw least at stored)) (returns-in-Ok-clause-stays g c) (record { later = search rules; counts = search rules })

pub returns-in-Err-clause-stays : goal.returns-in-Err-clause-stays
returns-in-Err-clause-stays g c =
    let is : c.self.inside.ready ≡ true = rw (← c.self.view_is) at c.requires in
    let asked = was_read_at g.S.Store c.self.inside.conn c.select_rows_from.new.conn c.self.inside.version c.self.inside.ready c.self.inside.faults c.self.inside.faults is c.self.invariant.ready c.in-Err.ensures.asked in
    rw (← c.self.view_is) (was_read_then g.S.Store _ _ c.keep_fault.new.self asked (was_read_stays g.S.Store _ c.keep_fault.new.self c.keep_fault.ensures.kept))

pub returns-in-Err-clause-read : goal.returns-in-Err-clause-read
returns-in-Err-clause-read g c =
    reads_row g.S.Store c.args.self.now c.keep_fault.new.self c.args.id _ tt (λ _. tt) (returns-in-Err-clause-stays g c) (rw (← c.self.view_is) (counts_by _ _ c.keep_fault.result c.keep_fault.ensures.later c.keep_fault.ensures.cause c.keep_fault.ensures.uncounted))
