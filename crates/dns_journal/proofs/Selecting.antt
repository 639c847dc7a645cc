-- What a call that reads a record does, by what came of asking for its row.
use Rattle.std.proofs.Common.{◌≡◌, ◌≢◌, ℕ, ℤ, Option, Some, None, Result, Ok, Err, IfOk, IfErr, IfSome, FitsSigned, IsErrOf, w64, refl, subst}
use Rattle.sqlite.specs.Store.{Ghosts}
use Rattle.sqlite.specs.Held.{state}
use Rattle.dns_wire.specs.declared.record.Record.{Record}
use Rattle.dns_keeper.specs.declared.row.Row.{Row}
use Rattle.dns_keeper.specs.declared.keeper.KeepFault.TheVariants as keep
use Rattle.dns_keeper.specs.Keeping.{IsRowFrom, HasCause}
use Rattle.dns_journal.specs.declared.error.PersistenceError.{PersistenceError}
use Rattle.dns_journal.specs.declared.error.PersistenceError.TheVariants.{Recovery, Sqlite, OutOfMemory}
use Rattle.dns_journal.specs.declared.error.RecoveryKind.TheVariants.{NoRecord}
use Rattle.dns_journal.specs.Counting.{CountsAs}
use Rattle.dns_journal.specs.Told.{View, told_rows, IsUnready, Refuses}
use Rattle.dns_journal.specs.Records.{IsRecordOf, IsUnread, IsRecordFault}
use Rattle.dns_journal.specs.Stored.{ShowsRow}
use Rattle.dns_journal.specs.Selects.{WasRead, Selects}
use Rattle.dns_journal.proofs.RecordsRead.{record_from, none_from, no_record_from, none_shown, record_shown, no_record_shown}

unread_named : (row : Row) (e : PersistenceError) → IsUnread row e → IsRecordFault e
unread_named row (Recovery NoRecord) unread = tt
unread_named row OutOfMemory unread = tt
unread_named row _ unread = absurd unread

unread_calm : (row : Row) (before now : ℕ) (e : PersistenceError) → IsUnread row e → now ≡ before → CountsAs before now e
unread_calm row before now (Recovery NoRecord) unread calm = calm
unread_calm row before now OutOfMemory unread calm = calm
unread_calm row before now _ unread calm = absurd unread

-- only a refusal by the connection, or one that did not go there, was counted
pub calm_but : (before now : ℕ) (e : PersistenceError) → e ≢ Sqlite → CountsAs before now e → now ≡ before
calm_but before now Sqlite other counts = absurd (other refl)
calm_but before now _ other counts = counts

module _ {S : Type 0} (g : Ghosts S) (old new : View S) (id : ℤ) (read : WasRead g old new) where
  pub selects_none : IsRowFrom (told_rows g new) id None → ShowsRow id (state g old.conn) (state g new.conn) None → (IsUnready old → Refuses {T = Option Row} old new keep.Failed (Ok None)) → HasCause {T = Option Row} old.faults new.faults (Ok None)
      → Selects g old new id (Ok None)
  selects_none found shown other cause = record {
    found = none_from (told_rows g new) id found;
    fits = tt;
    recovery = λ is. absurd (cc);
    shown = none_shown id (state g old.conn) (state g new.conn) shown;
    spoiled = λ is. absurd (cc);
    read = read;
    named = tt;
    other = λ un. absurd (let it = (other un).named in cc);
    cause = record { later = cause.later; counts = cause.counts };
  }

  pub selects_row : (row : Row) → IsRowFrom (told_rows g new) id (Some row) → ShowsRow id (state g old.conn) (state g new.conn) (Some row) → (IsUnready old → Refuses {T = Option Row} old new keep.Failed (Ok (Some row)))
      → HasCause {T = Option Row} old.faults new.faults (Ok (Some row)) → (r : Result (Option (ℤ × Record)) PersistenceError) → IfOk r (IsRecordOf (Some row)) → IfOk r (λ found. IfSome found (λ f. FitsSigned w64 f.0)) → IfErr r (IsUnread row)
      → Selects g old new id r
  selects_row row found shown other cause (Ok one) ok fits err = record {
    found = record_from (told_rows g new) id row one found ok;
    fits = fits;
    recovery = λ is. absurd (cc);
    shown = record_shown id (state g old.conn) (state g new.conn) row one shown ok;
    spoiled = λ is. absurd (cc);
    read = read;
    named = tt;
    other = λ un. absurd (let it = (other un).named in cc);
    cause = record { later = cause.later; counts = cause.counts };
  }
  selects_row row found shown other cause (Err e) ok fits err = record {
    found = tt;
    fits = tt;
    recovery = λ is. no_record_from (told_rows g new) id row found (no_record is);
    shown = tt;
    spoiled = λ is. no_record_shown id (state g old.conn) (state g new.conn) row shown (no_record is);
    read = read;
    named = unread_named row e err;
    other = λ un. absurd (let it = (other un).named in cc);
    cause = record { later = cause.later; counts = unread_calm row old.faults new.faults e err cause.counts };
  }
    where
      no_record : IsErrOf {T = Option (ℤ × Record)} (Err e) (Recovery NoRecord) → IsUnread row (Recovery NoRecord)
      no_record is = let same : e ≡ Recovery NoRecord = cc in subst (IsUnread row) same err

  pub selects_failed : (IsUnready old → Refuses {T = Option Row} old new keep.Failed (Err keep.Failed)) → HasCause {T = Option Row} old.faults new.faults (Err keep.Failed) → Selects g old new id (Err Sqlite)
  selects_failed other cause = record {
    found = tt;
    fits = tt;
    recovery = λ is. absurd (cc);
    shown = tt;
    spoiled = λ is. absurd (cc);
    read = read;
    named = tt;
    other = λ un. record { named = refl; counted = (other un).counted };
    cause = record { later = cause.later; counts = cause.counts };
  }

  pub selects_wants : (IsUnready old → Refuses {T = Option Row} old new keep.Failed (Err keep.OutOfMemory)) → HasCause {T = Option Row} old.faults new.faults (Err keep.OutOfMemory) → Selects g old new id (Err OutOfMemory)
  selects_wants other cause = record {
    found = tt;
    fits = tt;
    recovery = λ is. absurd (cc);
    shown = tt;
    spoiled = λ is. absurd (cc);
    read = read;
    named = tt;
    other = λ un. absurd (let it = (other un).named in cc);
    cause = record { later = cause.later; counts = cause.counts };
  }
