-- The runs of the rows of a table that were read one by one.
use Rattle.std.proofs.Common.{◌≡◌, ◌+ℤ◌, ◌-◌, ◌^◌, ◌++◌, ℤ, pos, neg_ℤ, false, List, [], ◌∷◌, Option, Some, None, Result, Ok, Err, IfOk, inl, inr, refl, sym, ap, subst, ◌∙◌, arith, append_assoc, append-nil}
use Rattle.sqlite.specs.Order.{Row as Shown}
use Rattle.sqlite.specs.Effect.{Database}
use Rattle.sqlite.specs.Store.{Ghosts}
use Rattle.sqlite.specs.Held.{Held, state}
use Rattle.sqlite.specs.State.{HasCleanDisk}
use Rattle.dns_sqlite.specs.Statements.{HasRecords}
use Rattle.dns_sqlite.specs.Reads.{WasAsked}
use Rattle.dns_keeper.specs.declared.row.Row.{Row}
use Rattle.dns_keeper.specs.declared.batch_row.BatchRow.{BatchRow}
use Rattle.dns_keeper.specs.Batches.{runs_of}
use Rattle.dns_keeper.specs.RunsSoFar.{RunsSoFar, AreRunsOf}
use Rattle.dns_journal.specs.Told.{told}
use Rattle.dns_journal.specs.Stored.{IsStoredFrom}
use Rattle.dns_journal.specs.Pages.{Holds}
use Rattle.dns_journal.specs.Migrating.{IsNextIn, TakesNext, AreRunsOfTable}
use Rattle.dns_journal.specs.declared.page.Page.{Page}
use Rattle.dns_journal.proofs.Order.{told_is}
use Rattle.dns_journal.proofs.Iterating.{rows_from, from_next, none_left, all_from, none_from}
use Rattle.dns_journal.proofs.Reading.{stored_told}

-- the rows below this id were counted, of those that the table tells
abbrev pub IsCountedTo : List Shown → ℤ → RunsSoFar → Type 0
IsCountedTo table from runs = (rows : List Row) → told table ≡ Some rows → (front : List Row) × (rows ≡ front ++ rows_from from rows) × AreRunsOf front runs

-- none yet
pub counted_none : (table : List Shown) (runs : RunsSoFar) → AreRunsOf [] runs → IsCountedTo table (neg_ℤ (pos (2 ^ 63))) runs
counted_none table runs none rows e = ([], sym (all_from table rows (told_is table rows e).reads), none)

-- one more
pub counted_more : (table : List Shown) (from : ℤ) (row : Row) (runs after : RunsSoFar) → IsCountedTo table from runs → IsStoredFrom from table (Some row) → ((rows : List Row) → AreRunsOf rows runs → AreRunsOf (rows ++ row ∷ []) after)
    → IsCountedTo table (row.id +ℤ pos 1) after
counted_more table from row runs after was stored counts rows e =
    let it = was rows e in
    let t = told_is table rows e in
    let here = from_next from rows row t.ascending (sym (stored_told from table rows (Some row) e stored)) in
    (it.0 ++ row ∷ [], it.1 ∙ ap (λ rest. it.0 ++ rest) here ∙ sym (append_assoc it.0 (row ∷ []) (rows_from (row.id +ℤ pos 1) rows)), counts it.0 it.2)

-- no row is left
pub counted_all : (table : List Shown) (from : ℤ) (runs : RunsSoFar) (batches : List BatchRow) → IsCountedTo table from runs → IsStoredFrom from table None → ((rows : List Row) → AreRunsOf rows runs → batches ≡ runs_of rows) → AreRunsOfTable table batches
counted_all table from runs batches was stored ends rows e =
    let it = was rows e in
    let none = none_left from rows (sym (stored_told from table rows None e stored)) in
    let all : rows ≡ it.0 = it.1 ∙ ap (λ rest. it.0 ++ rest) none ∙ append-nil it.0 in
    ends it.0 it.2 ∙ ap runs_of (sym all)

-- no id is left
pub counted_full : (table : List Shown) (from : ℤ) (runs : RunsSoFar) (batches : List BatchRow) → from ≡ pos (2 ^ 63 - 1) +ℤ pos 1 → IsCountedTo table from runs → ((rows : List Row) → AreRunsOf rows runs → batches ≡ runs_of rows) → AreRunsOfTable table batches
counted_full table from runs batches last was ends rows e =
    let it = was rows e in
    let none : rows_from from rows ≡ [] = subst (λ n. rows_from n rows ≡ []) (sym last) (none_from table rows (told_is table rows e).reads) in
    let all : rows ≡ it.0 = it.1 ∙ ap (λ rest. it.0 ++ rest) none ∙ append-nil it.0 in
    ends it.0 it.2 ∙ ap runs_of (sym all)

-- ---- over a connection

module _ {S : Type 0} (g : Ghosts S) where
  pub asked_none : (h : Held S) → WasAsked g h h
  asked_none h = record { alone = λ alone. alone; falls = omega arith; kept = λ alone clean live. (live, refl); left = λ clean db may. may }

  pub asked_then : (first mid now : Held S) → WasAsked g first mid → WasAsked g mid now → WasAsked g first now
  asked_then first mid now was is = record {
    alone = λ alone. is.alone (was.alone alone);
    falls = let a = was.falls in omega (arith, a, is.falls);
    kept = λ alone clean live.
        let late = is.kept (was.alone alone) clean live in
        let early : HasCleanDisk (state g mid) = omega (arith, is.falls, clean) in
        let before = was.kept alone early late.0 in
        (before.0, late.1 ∙ before.1);
    left = λ clean db may. let early : HasCleanDisk (state g mid) = omega (arith, is.falls, clean) in was.left early db (is.left clean db may);
  }

  -- what a loop keeps that counted the rows below this id
  pub record Counted (first now : Held S) (page : Page) (from : ℤ) (runs : RunsSoFar) : Type 0 where
    pub asked : WasAsked g first now
    pub held : HasCleanDisk (state g now) → HasRecords (state g first).now → Holds page ((state g first).now.trees 1)
    pub counted : HasCleanDisk (state g now) → HasRecords (state g first).now → IsCountedTo ((state g first).now.trees 1) from runs

  -- the row that comes next is of the first table
  next_of : (first mid now : Held S) (was is : Page) (from : ℤ) (found : Option Row) → (state g first).in_transaction ≡ false → WasAsked g first mid → WasAsked g mid now → (HasCleanDisk (state g mid) → HasRecords (state g first).now → Holds was ((state g first).now.trees 1))
      → TakesNext g from mid was now is found → HasCleanDisk (state g now) → HasRecords (state g first).now → IsNextIn from ((state g first).now.trees 1) is found
  next_of first mid now was is from found alone before asked held next clean has =
      let early : HasCleanDisk (state g mid) = omega (arith, asked.falls, clean) in
      elim (next clean) [
        | inl page ↦ page ((state g first).now.trees 1) (held early has)
        | inr read ↦
            let kept = before.kept alone early read.0 in
            subst (λ (d : Database). IsNextIn from (d.trees 1) is found) kept.1 (read.1 (subst HasRecords (sym kept.1) has))
      ]

  pub counts_more : (first mid now : Held S) (was is : Page) (from next : ℤ) (row : Row) (runs after : RunsSoFar) → (state g first).in_transaction ≡ false → Counted first mid was from runs → WasAsked g mid now → TakesNext g from mid was now is (Some row)
      → next ≡ row.id +ℤ pos 1 → ((rows : List Row) → AreRunsOf rows runs → AreRunsOf (rows ++ row ∷ []) after) → Counted first now is next after
  counts_more first mid now was is from next row runs after alone so_far asked takes next_is counts =
      let found = next_of first mid now was is from (Some row) alone so_far.asked asked so_far.held takes in
      record {
        asked = asked_then first mid now so_far.asked asked;
        held = λ clean has. (found clean has).1;
        counted = λ clean has.
            let early : HasCleanDisk (state g mid) = omega (arith, asked.falls, clean) in
            subst (λ n. IsCountedTo ((state g first).now.trees 1) n after) (sym next_is) (counted_more ((state g first).now.trees 1) from row runs after (so_far.counted early has) (found clean has).0 counts);
      }

  pub counts_all : (first mid now : Held S) (was is : Page) (from : ℤ) (runs : RunsSoFar) (batches : List BatchRow) → (state g first).in_transaction ≡ false → Counted first mid was from runs → WasAsked g mid now → TakesNext g from mid was now is None
      → ((rows : List Row) → AreRunsOf rows runs → batches ≡ runs_of rows) → HasCleanDisk (state g now) → HasRecords (state g first).now → AreRunsOfTable ((state g first).now.trees 1) batches
  counts_all first mid now was is from runs batches alone so_far asked takes ends clean has =
      let found = next_of first mid now was is from None alone so_far.asked asked so_far.held takes in
      let early : HasCleanDisk (state g mid) = omega (arith, asked.falls, clean) in
      counted_all ((state g first).now.trees 1) from runs batches (so_far.counted early has) (found clean has).0 ends

  -- the row that comes next has the last id that there is
  pub counts_full : (first mid now : Held S) (was is : Page) (from : ℤ) (row : Row) (runs after : RunsSoFar) (batches : List BatchRow) → (state g first).in_transaction ≡ false → Counted first mid was from runs → WasAsked g mid now → TakesNext g from mid was now is (Some row)
      → row.id ≡ pos (2 ^ 63 - 1) → ((rows : List Row) → AreRunsOf rows runs → AreRunsOf (rows ++ row ∷ []) after) → ((rows : List Row) → AreRunsOf rows after → batches ≡ runs_of rows) → HasCleanDisk (state g now) → HasRecords (state g first).now
      → AreRunsOfTable ((state g first).now.trees 1) batches
  counts_full first mid now was is from row runs after batches alone so_far asked takes last counts ends clean has =
      let next = counts_more first mid now was is from (row.id +ℤ pos 1) row runs after alone so_far asked takes refl counts in
      counted_full ((state g first).now.trees 1) (row.id +ℤ pos 1) after batches (ap (λ n. n +ℤ pos 1) last) (next.counted clean has) ends

-- ---- over a page from which a row was taken, or none

-- what holds of the page that was left holds of the page before
pub takes_of : {S : Type 0} (g : Ghosts S) (id : ℤ) (old new : Held S) (was left is : Page) (found : Option Row) → ((table : List Shown) → Holds was table → Holds left table) → TakesNext g id old left new is found → TakesNext g id old was new is found
takes_of g id old new was left is found held takes = λ clean. elim (takes clean) [
  | inl page ↦ inl (λ table holds. page table (held table holds))
  | inr read ↦ inr read
]

pub takes_as : {S E : Type 0} (g : Ghosts S) (id : ℤ) (old new : Held S) (was left is : Page) (r : Result (Option Row) E) → ((table : List Shown) → Holds was table → Holds left table) → IfOk r (TakesNext g id old left new is) → IfOk r (TakesNext g id old was new is)
takes_as g id old new was left is (Ok found) held takes = takes_of g id old new was left is found held takes
takes_as g id old new was left is (Err e) held takes = tt
