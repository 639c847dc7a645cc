-- What an insert does to a journal, by how it ends.
use Rattle.std.proofs.Common.{◌≡◌, ◌≢◌, ◌≤◌, ◌<◌, ◌⊎◌, ℕ, ℤ, true, false, OnOk, List, [], ◌∷◌, length, map, Option, Some, None, Result, Ok, Err, inl, inr, refl, sym, ap, subst, ◌∙◌, arith, append-nil}
use Rattle.sqlite.specs.declared.error.Error.{Error}
use Rattle.sqlite.specs.Store.{Ghosts}
use Rattle.sqlite.specs.Held.{Held, state}
use Rattle.sqlite.specs.State.{HasCleanDisk}
use Rattle.sqlite_trees.specs.View.{doubt}
use Rattle.dns_io.specs.Told.{Keeps, one_more}
use Rattle.dns_wire.specs.declared.record.Record.{Record}
use Rattle.dns_wire.specs.WireFormat.{record_bytes, AreShort}
use Rattle.dns_sqlite.specs.Statements.{HasTables}
use Rattle.dns_sqlite.specs.Batch.{AddsBatch}
use Rattle.dns_keeper.specs.declared.row.Row.{Row}
use Rattle.dns_keeper.specs.declared.keeper.KeepFault.{KeepFault}
use Rattle.dns_keeper.specs.Keeping.{Kept, IsStampFor, GrowsByBatch, KeepsBatches, HasCause}
use Rattle.dns_keeper.specs.Crash.{AreTold, IsGrownFrom}
use Rattle.dns_keeper.proofs.KeptBatches.{keeps_batches_same}
use Rattle.dns_sqlite.specs.Versions.{current_version}
use Rattle.dns_keeper.specs.Calls.{Appends}
use Rattle.dns_journal.specs.declared.error.PersistenceError.{PersistenceError}
use Rattle.dns_journal.specs.declared.error.PersistenceError.TheVariants.{Sqlite, OutOfMemory}
use Rattle.dns_journal.specs.Counting.{CountsAs}
use Rattle.dns_journal.specs.Told.{View, told_rows, Stays, IsReady}
use Rattle.dns_journal.specs.Crash.{MayLeave, Leaves, LeavesTrees, LeavesItsOwn}
use Rattle.dns_journal.specs.Records.{RefusesBatch}
use Rattle.dns_journal.specs.Stored.{KeepsDatabase, LeavesBatch}
use Rattle.dns_journal.specs.Keepers.{journal_keeper}
use Rattle.dns_journal.specs.Inserts.{Puts, Inserts}
use Rattle.dns_journal.proofs.Telling.{grows_told, grows_run, keeps_told, keeps_run, leaves_batch, left_of, left_told}
use Rattle.dns_journal.proofs.Iterating.{keeps_same, not_unready}
use Rattle.dns_journal.proofs.Reading.{told_ascends}
use Rattle.dns_journal.proofs.BatchReading.{tells_by_first}

pub no_records : (records : List Record) → length (map record_bytes records) ≡ 0 → records ≡ []
no_records [] e = refl
no_records (r ∷ rs) e = absurd (cc)

pub some_records : (records : List Record) → 0 < length (map record_bytes records) → 0 < length records
some_records [] some = absurd (omega (arith, some))
some_records (r ∷ rs) some = omega arith

pub refuses_by : (records : List Record) (e : PersistenceError) → (e ≡ Sqlite) ⊎ (e ≡ OutOfMemory) → RefusesBatch records e
refuses_by records e (inl is) = subst (RefusesBatch records) (sym is) tt
refuses_by records e (inr is) = subst (RefusesBatch records) (sym is) tt

grows_none : (told : Option (List Row)) (client serial moment : ℕ) → GrowsByBatch told told client serial moment []
grows_none None client serial moment = tt
grows_none (Some rows) client serial moment = record { stamp = []; stamped = tt; is = sym (append-nil rows) }

not_sqlite : (before : ℕ) (e : PersistenceError) → e ≢ Sqlite → CountsAs before before e
not_sqlite before Sqlite other = absurd (other refl)
not_sqlite before _ other = refl

module _ {S : Type 0} (g : Ghosts S) (client serial moment : ℕ) where
  -- ---- nothing was asked of the connection

  as_counted : (old new : View S) → Stays old new → new ≡ record old { faults = new.faults }
  as_counted old new stays = rw (stays.conn, stays.version, stays.ready) refl

  -- refused, with at most a fault counted
  pub puts_refused : {E : Type 0} (records : List Record) (old new : View S) (e : E) → Stays old new → (records ≡ [] → old.is_ready ≡ true → new ≡ old) → Puts g old new client serial moment records (Err e)
  puts_refused records old new e stays empty =
      let told : told_rows g new ≡ told_rows g old = rw (stays.ready, stays.conn) refl in
      let was = state g old.conn in
      record {
        ok = tt;
        run = tt;
        err = subst (λ t. Keeps (told_rows g old) t) (sym told) (keeps_same (told_rows g old));
        batches = subst (λ (j : View S). KeepsBatches ((journal_keeper g).told old) ((journal_keeper g).told j)) (sym (as_counted old new stays)) (keeps_batches_same ((journal_keeper g).told old));
        grown = λ _. tt;
        untouched = subst (λ h. KeepsDatabase was (state g h)) (sym stays.conn) (λ clean live. (live, refl));
        committed = λ _. tt;
        alone = λ _. tt;
        left = subst (λ h. Leaves (state g h) (λ kept. MayLeave was kept ⊎ IsGrownFrom ((journal_keeper g).told old) client serial moment records kept)) (sym stays.conn) (λ clean kept m. inl m);
        crash = subst (λ h. LeavesBatch client serial moment records was (state g h)) (sym stays.conn) (λ clean db may. inl may);
        empty = empty;
        same = λ _. subst (λ h. LeavesTrees (state g h) was.may_leave) (sym stays.conn) (λ clean db may. may);
        falls = subst (λ h. doubt was.is_clean ≤ doubt (state g h).is_clean) (sym stays.conn) (omega arith);
        mode = subst (λ h. was.in_transaction ≡ false → (state g h).in_transaction ≡ false) (sym stays.conn) (λ alone. alone);
        version = stays.version;
        ready = stays.ready;
      }

  pub stays_as : (j : View S) → Stays j j
  stays_as j = record { conn = refl; version = refl; ready = refl }

  pub stays_counted : (old new : View S) → new ≡ record old { faults = one_more old.faults } → Stays old new
  stays_counted old new is = subst (Stays old) (sym is) (record { conn = refl; version = refl; ready = refl })

  -- the calls of the journal do not go to the connection
  pub inserts_unready : (records : List Record) (old new : View S) → old.is_ready ≡ false → new ≡ record old { faults = one_more old.faults } → old.faults ≤ new.faults → Inserts g old new client serial moment records (Err Sqlite)
  inserts_unready records old new unready counted later = record {
    put = puts_refused records old new Sqlite (stays_counted old new counted) (λ _ ready. absurd (let it : true ≡ false = sym ready ∙ unready in cc));
    short = tt;
    named = tt;
    written = λ ready _. absurd (let it : true ≡ false = sym ready ∙ unready in cc);
    other = λ _. record { named = refl; counted = counted };
    cause = record {
      later = later;
      counts = subst (λ (j : View S). one_more old.faults ≤ j.faults) (sym counted) (omega arith);
    };
  }

  -- a record that cannot be written, or no memory
  pub inserts_unwritten : (records : List Record) (j : View S) (e : PersistenceError) → j.version ≡ current_version → j.is_ready ≡ true → e ≢ Sqlite → RefusesBatch records e → Inserts g j j client serial moment records (Err e)
  inserts_unwritten records j e current ready other named = record {
    put = puts_refused records j j e (stays_as j) (λ _ _. refl);
    short = tt;
    named = named;
    written = λ _ is. absurd (other (let it : Err e ≡ Err Sqlite = is in cc));
    other = not_unready j current ready;
    cause = record { later = omega arith; counts = not_sqlite j.faults e other };
  }

  -- no records
  pub inserts_none : (j : View S) → j.version ≡ current_version → j.is_ready ≡ true → Inserts g j j client serial moment [] (Ok tt)
  inserts_none j current ready = record {
    put = record {
      ok = grows_none (told_rows g j) client serial moment;
      run = keeps_batches_same ((journal_keeper g).told j);
      err = tt;
      batches = tt;
      grown = λ some. absurd (omega (arith, some));
      untouched = tt;
      committed = λ some. absurd (omega (arith, some));
      alone = λ some. absurd (omega (arith, some));
      left = λ clean rows m. inl m;
      crash = λ clean db may. inl may;
      empty = λ _ _. refl;
      same = λ _ clean db may. may;
      falls = omega arith;
      mode = λ alone. alone;
      version = refl;
      ready = refl;
    };
    short = tt;
    named = tt;
    written = λ _ _. tt;
    other = not_unready j current ready;
    cause = record { later = omega arith; counts = refl };
  }

  -- ---- a batch was handed to the connection

  module _ (records : List Record) (some : 0 < length records) (stamp : List ℕ) (stamped : IsStampFor moment records stamp) (old new : Held S) (version : ℤ) (faults count : ℕ) (ready : IsReady true version (state g old)) where
    abbrev pub before : View S
    before = record { conn = old; version = version; is_ready = true; faults = faults }

    abbrev pub after : View S
    after = record { conn = new; version = version; is_ready = true; faults = count }

    none_left : {X : Type 0} → records ≡ [] → X
    none_left none = absurd (omega (arith, some, ap length none))

    pub puts_batch : {T : Type 0} (x : T) → AddsBatch g client serial stamp (map record_bytes records) old new (Ok x) → Puts {E = PersistenceError} g before after client serial moment records (Ok tt)
    puts_batch x done =
        let was = state g old in
        let is = state g new in
        let has : HasCleanDisk is → HasTables was.now = λ clean. ready.2 (omega (arith, done.falls, clean)) (done.opened clean) in
        let crash : LeavesBatch client serial moment records was is = leaves_batch was is done.falls client serial moment stamp records stamped done.survives.crash in
        record {
          ok = grows_told was is done.falls client serial moment stamp records some stamped (λ clean live. done.made clean (has clean));
          run = grows_run was is done.falls client serial stamp records some (λ clean live. done.made clean (has clean));
          err = tt;
          batches = tt;
          grown = λ _ clean. (stamp, stamped, done.made clean (has clean));
          untouched = tt;
          committed = λ _. done.crash;
          alone = λ _ clean kept m. let it = left_told is clean (done.made clean (has clean)).is_open (done.crash clean) kept m in record { rows = it.0; batches = it.1 };
          left = λ clean kept m. left_of was is done.falls client serial moment records some ready.2 crash clean kept m;
          crash = crash;
          empty = λ none _. none_left none;
          same = λ none. none_left none;
          falls = done.falls;
          mode = λ _. done.alone;
          version = refl;
          ready = refl;
        }

    pub puts_no_batch : {T : Type 0} (fault : Error) (e : PersistenceError) → AddsBatch {T = T} g client serial stamp (map record_bytes records) old new (Err fault) → Puts g before after client serial moment records (Err e)
    puts_no_batch fault e failed =
        let was = state g old in
        let is = state g new in
        let crash : LeavesBatch client serial moment records was is = leaves_batch was is failed.falls client serial moment stamp records stamped failed.survives.crash in
        record {
          ok = tt;
          run = tt;
          err = keeps_told was is failed.falls (λ clean live. let k = failed.kept clean live in (k.0, k.1));
          batches = keeps_run was is failed.falls (λ clean live. let k = failed.kept clean live in (k.0, k.1));
          grown = λ _. tt;
          untouched = λ clean live. let k = failed.kept clean live in (k.0, k.1);
          committed = λ _. tt;
          alone = λ _. tt;
          left = λ clean kept m. left_of was is failed.falls client serial moment records some ready.2 crash clean kept m;
          crash = crash;
          empty = λ none _. none_left none;
          same = λ none. none_left none;
          falls = failed.falls;
          mode = λ _. failed.alone;
          version = refl;
          ready = refl;
        }

    pub inserts_batch : {T : Type 0} (x : T) → AreShort records → AddsBatch g client serial stamp (map record_bytes records) old new (Ok x) → count ≡ faults → Inserts g before after client serial moment records (Ok tt)
    inserts_batch x short done calm = record {
      put = puts_batch x done;
      short = short;
      named = tt;
      written = λ _ is. absurd (cc);
      other = not_unready before ready.0 refl;
      cause = record { later = omega (arith, calm); counts = calm };
    }

    pub inserts_no_batch : {T : Type 0} (fault : Error) (e : PersistenceError) → AreShort records → AddsBatch {T = T} g client serial stamp (map record_bytes records) old new (Err fault) → RefusesBatch records e
        → faults ≤ count → CountsAs faults count e → Inserts g before after client serial moment records (Err e)
    inserts_no_batch fault e short failed named later counts = record {
      put = puts_no_batch fault e failed;
      short = tt;
      named = named;
      written = λ _ _. short;
      other = not_unready before ready.0 refl;
      cause = record { later = later; counts = counts };
    }

  -- ---- as a keeper says it

  pub puts_as_ok : {E F : Type 0} (records : List Record) (old new : View S) → Puts {E = E} g old new client serial moment records (Ok tt) → Puts {E = F} g old new client serial moment records (Ok tt)
  puts_as_ok records old new put = record {
    ok = put.ok;
    run = put.run;
    err = tt;
    batches = tt;
    grown = put.grown;
    untouched = tt;
    committed = put.committed;
    alone = put.alone;
    left = put.left;
    crash = put.crash;
    empty = put.empty;
    same = put.same;
    falls = put.falls;
    mode = put.mode;
    version = put.version;
    ready = put.ready;
  }

  pub puts_as_err : {E F : Type 0} (records : List Record) (old new : View S) (e : E) (f : F) → Puts g old new client serial moment records (Err e) → Puts g old new client serial moment records (Err f)
  puts_as_err records old new e f put = record {
    ok = tt;
    run = tt;
    err = put.err;
    batches = put.batches;
    grown = λ _. tt;
    untouched = put.untouched;
    committed = λ _. tt;
    alone = λ _. tt;
    left = put.left;
    crash = put.crash;
    empty = put.empty;
    same = put.same;
    falls = put.falls;
    mode = put.mode;
    version = put.version;
    ready = put.ready;
  }

  pub appends : (records : List Record) (old new : View S) (r : Result (Unit {0}) KeepFault) → Puts g old new client serial moment records r → HasCause old.faults new.faults r
      → Appends (journal_keeper g) old new client serial moment records r
  appends records old new r put cause = record {
    ok = put.ok;
    run = put.run;
    err = put.err;
    batches = put.batches;
    ascending = told_ascends g new;
    by_first = tells_by_first g new;
    alone = alone r put.alone;
    left = λ kept m. left records put.left put.same kept m.0 m.1;
    cause = cause;
  }
    where
      alone : (r : Result (Unit {0}) KeepFault) → (0 < length records → OnOk r (LeavesItsOwn g new)) → 0 < length records → OnOk r ((kept : Kept) → HasCleanDisk (state g new.conn) × MayLeave (state g new.conn) kept → AreTold ((journal_keeper g).told new) kept)
      alone (Ok x) it = λ some kept m. it some m.0 kept m.1
      alone (Err e) it = λ some. tt

      left : (rs : List Record) → Leaves (state g new.conn) (λ kept. MayLeave (state g old.conn) kept ⊎ IsGrownFrom ((journal_keeper g).told old) client serial moment rs kept) → (rs ≡ [] → LeavesTrees (state g new.conn) (state g old.conn).may_leave)
          → (kept : Kept) → HasCleanDisk (state g new.conn) → MayLeave (state g new.conn) kept
          → (HasCleanDisk (state g old.conn) × MayLeave (state g old.conn) kept) ⊎ ((0 < length rs) × IsGrownFrom ((journal_keeper g).told old) client serial moment rs kept)
      left [] it same kept clean m = inl (omega (arith, put.falls, clean), record { db = m.db; left = same refl clean m.db m.left; opens = m.opens })
      left (q ∷ qs) it same kept clean m = elim (it clean kept m) [
        | inl before ↦ inl (omega (arith, put.falls, clean), before)
        | inr grown ↦ inr (omega arith, grown)
      ]
