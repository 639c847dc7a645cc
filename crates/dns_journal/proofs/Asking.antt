-- What a reading call does to a journal, by what it asked of the connection.
use Rattle.std.proofs.Common.{◌≡◌, ◌≤◌, ℕ, ℤ, Bool, true, false, pos, neg_ℤ, ◌^◌, Option, Result, Err, IfOk, refl, sym, subst, arith}
use Rattle.sqlite.specs.Store.{Ghosts}
use Rattle.sqlite.specs.Held.{Held, state}
use Rattle.sqlite.specs.State.{State, HasCleanDisk}
use Rattle.dns_sqlite.specs.Reads.{WasAsked}
use Rattle.dns_io.specs.Told.{one_more}
use Rattle.dns_keeper.specs.declared.row.Row.{Row}
use Rattle.dns_keeper.specs.declared.keeper.KeepFault.{KeepFault}
use Rattle.dns_keeper.specs.declared.keeper.KeepFault.TheVariants.{Failed, OutOfMemory}
use Rattle.dns_keeper.specs.declared.batch_row.BatchRow.{BatchRow}
use Rattle.dns_keeper.specs.Keeping.{IsRowFrom, IsFirstRow, IsBatchFrom, IsFirstBatch, HasCause}
use Rattle.dns_keeper.specs.Calls.{ReadsRow, ReadsBatch}
use Rattle.dns_sqlite.specs.Versions.{current_version}
use Rattle.dns_journal.specs.Told.{View, told_rows, Stays, IsReady}
use Rattle.dns_journal.specs.Keepers.{journal_keeper}
use Rattle.dns_journal.specs.Selects.{WasRead}
use Rattle.dns_journal.proofs.Telling.{keeps_told, keeps_run}
use Rattle.dns_journal.proofs.BatchReading.{tells_by_first}
use Rattle.dns_journal.proofs.Iterating.{was_read_none}
use Rattle.dns_journal.proofs.Reading.{told_ascends}

module _ {S : Type 0} (g : Ghosts S) where
  -- the connection was asked
  pub was_read : (old new : Held S) (version : ℤ) (faults count : ℕ) → IsReady true version (state g old) → WasAsked g old new
      → WasRead g (record { conn = old; version = version; is_ready = true; faults = faults }) (record { conn = new; version = version; is_ready = true; faults = count })
  was_read old new version faults count ready asked = record {
    kept = keeps_told (state g old) (state g new) asked.falls (asked.kept ready.1);
    batches = keeps_run (state g old) (state g new) asked.falls (asked.kept ready.1);
    untouched = asked.kept ready.1;
    left = asked.left;
    falls = asked.falls;
    mode = asked.alone;
    version = refl;
    ready = refl;
  }

  pub was_read_at : (old new : Held S) (version : ℤ) (ready : Bool) (faults count : ℕ) → ready ≡ true → IsReady ready version (state g old) → WasAsked g old new
      → WasRead g (record { conn = old; version = version; is_ready = ready; faults = faults }) (record { conn = new; version = version; is_ready = ready; faults = count })
  was_read_at old new version false faults count is ready asked = absurd (cc)
  was_read_at old new version true faults count is ready asked = was_read old new version faults count ready asked

  -- a row was asked for
  pub reads_row : (old new : View S) (id : ℤ) (r : Result (Option Row) KeepFault) → IfOk r (IsRowFrom (told_rows g new) id) → (id ≡ neg_ℤ (pos (2 ^ 63)) → IfOk r (IsFirstRow (told_rows g new))) → WasRead g old new → HasCause old.faults new.faults r
      → ReadsRow (journal_keeper g) old new id r
  reads_row old new id r found first read cause = record {
    found = found;
    first = first;
    ascending = told_ascends g new;
    kept = read.kept;
    batches = read.batches;
    left = λ kept m. (let was : HasCleanDisk (state g old.conn) = omega (arith, read.falls, m.0) in was, record { db = m.1.db; left = read.left m.0 m.1.db m.1.left; opens = m.1.opens });
    cause = cause;
  }

  -- a batch was asked for
  pub reads_batch : (old new : View S) (id : ℤ) (r : Result (Option BatchRow) KeepFault) → IfOk r (IsBatchFrom ((journal_keeper g).told new) id) → (id ≡ neg_ℤ (pos (2 ^ 63)) → IfOk r (IsFirstBatch ((journal_keeper g).told new))) → WasRead g old new → HasCause old.faults new.faults r
      → ReadsBatch (journal_keeper g) old new id r
  reads_batch old new id r found first read cause = record {
    found = found;
    first = first;
    by_first = tells_by_first g new;
    kept = read.kept;
    batches = read.batches;
    left = λ kept m. (let was : HasCleanDisk (state g old.conn) = omega (arith, read.falls, m.0) in was, record { db = m.1.db; left = read.left m.0 m.1.db m.1.left; opens = m.1.opens });
    cause = cause;
  }

  pub stays_is : (old new : View S) → Stays old new → new ≡ record old { faults = new.faults }
  stays_is old new stays = rw (stays.conn, stays.version, stays.ready) refl

  -- only a fault was counted, if anything
  pub was_read_stays : (old new : View S) → Stays old new → WasRead g old new
  was_read_stays old new stays =
      let it : WasRead g old (record old { faults = new.faults }) = record { kept = (was_read_none g old).kept; batches = (was_read_none g old).batches; untouched = λ clean live. (live, refl); left = λ clean db may. may; falls = omega arith; mode = λ alone. alone; version = refl; ready = refl } in
      let same : new ≡ record old { faults = new.faults } = rw (stays.conn, stays.version, stays.ready) refl in
      subst (WasRead g old) (sym same) it

-- a journal whose calls go to its connection is at the current version
pub is_current : (ready : Bool) (version : ℤ) (s : State) → ready ≡ true → IsReady ready version s → version ≡ current_version
is_current false version s is ready = absurd (cc)
is_current true version s is ready = ready.0

pub counted_once : {T : Type 0} (before now : ℕ) → before ≤ now → now ≡ one_more before → HasCause {T = T} before now (Err Failed)
counted_once before now later is = record { later = later; counts = omega (arith, is) }

pub counts_by : {T : Type 0} (before now : ℕ) (fault : KeepFault) → before ≤ now → (fault ≡ Failed → now ≡ one_more before) → (fault ≡ OutOfMemory → now ≡ before) → HasCause {T = T} before now (Err fault)
counts_by before now Failed later rose calm = let is = rose refl in record { later = later; counts = omega (arith, is) }
counts_by before now OutOfMemory later rose calm = record { later = later; counts = calm refl }
