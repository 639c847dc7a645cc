use Rattle.std.proofs.Common.{◌≡◌, ◌∙◌, true, w64, Some, Ok, refl, sym, ap, subst, rules}
use Rattle.std.proofs.lemmas.Int.{to_z-of_z}
use Rattle.sqlite.specs.Held.{state}
use Rattle.dns_journal.specs.Told.{View}
use Rattle.dns_journal.specs.Pages.{IsStoredIn}
use Rattle.dns_journal.specs.Selects.{WasRead}
use Rattle.dns_journal.specs.Stored.{ShowsRow}
use Rattle.dns_journal.proofs.Reading.{row_told, first_row_told}
use Rattle.dns_journal.proofs.Pages.{shows_row}
use Rattle.dns_journal.proofs.Iterating.{was_read_none}
use Rattle.dns_journal.proofs.Asking.{reads_row}
use Rattle.dns_journal.proofs.inserts.JournalKeeper.row_from.Goals as goal

pub read_page-requires : goal.read_page-requires
read_page-requires g c =
    let is : c.self.inside.ready ≡ true = search rules in
    let before : c.args.self.now.is_ready ≡ true = rw (← c.self.view_is) is in
    ap (λ (j : View g.row.S.Denot). j.is_ready) c.from_page.ensures.kept ∙ before

pub returns-in-None-clause-read : goal.returns-in-None-clause-read
returns-in-None-clause-read g c = rw (to_z-of_z w64 c.args.id c.ranges.id, c.from_page.ensures.kept) at c.read_page.ensures.read

pub returns-in-None-clause-shown : goal.returns-in-None-clause-shown
returns-in-None-clause-shown g c = rw (to_z-of_z w64 c.args.id c.ranges.id, c.from_page.ensures.kept) at c.read_page.ensures.shown

pub returns-in-Some-clause-read : goal.returns-in-Some-clause-read
returns-in-Some-clause-read g c =
    let stored : IsStoredIn c.args.id (state g.S.Store c.from_page.new.self.conn) (Some c.in-Some.row) = rw (to_z-of_z w64 c.args.id c.ranges.id) at c.in-Some.ensures.stored in
    let read : WasRead g.S.Store c.args.self.now c.from_page.new.self = subst (WasRead g.S.Store c.args.self.now) (sym c.from_page.ensures.kept) (was_read_none g.S.Store c.args.self.now) in
    let calm : c.from_page.new.self.faults ≡ c.args.self.now.faults = ap (λ (j : View g.row.S.Denot). j.faults) c.from_page.ensures.kept in
    reads_row g.S.Store c.args.self.now c.from_page.new.self c.args.id (Ok (Some c.in-Some.row)) (row_told g.S.Store c.from_page.new.self c.args.id (Some c.in-Some.row) stored)
    (λ least. first_row_told g.S.Store c.from_page.new.self (Some c.in-Some.row) (rw least at stored)) read (record { later = search (rules, calm); counts = calm })

pub returns-in-Some-clause-shown : goal.returns-in-Some-clause-shown
returns-in-Some-clause-shown g c =
    let s = state g.S.Store c.from_page.new.self.conn in
    let stored : IsStoredIn c.args.id s (Some c.in-Some.row) = rw (to_z-of_z w64 c.args.id c.ranges.id) at c.in-Some.ensures.stored in
    subst (λ h. ShowsRow c.args.id (state g.S.Store h) s (Some c.in-Some.row)) (ap (λ (j : View g.row.S.Denot). j.conn) c.from_page.ensures.kept) (shows_row c.args.id s s (Some c.in-Some.row) (λ clean. refl) stored)
