-- The records of rows.
use Rattle.std.proofs.Common.{◌≡◌, ◌==◌, ℕ, ℤ, List, length, true, false, Option, Some, None, inl, inr, sym, subst, ◌∙◌, arith}
use Rattle.std.proofs.lemmas.Bool.{cases_Bool}
use Rattle.dns_wire.specs.declared.record.Record.{Record}
use Rattle.dns_wire.specs.Standing.{RecordAt, Reads}
use Rattle.dns_keeper.specs.declared.row.Row.{Row}
use Rattle.dns_keeper.specs.Keeping.{IsRowFrom}
use Rattle.sqlite.specs.State.{State}
use Rattle.dns_journal.specs.Stored.{ShowsRow, ShowsRecord, ShowsNoRecord}
use Rattle.dns_journal.specs.Records.{IsReading, IsNoRecord, whole_of, IsRecordOf, IsRecordFrom, IsNoRecordFrom}

-- what was read and ends with the bytes is the one record that they are
pub reading_of : (bytes : List ℕ) (read : Option (Record × ℕ)) → Reads (RecordAt bytes 0) read → IsReading bytes (whole_of read (length bytes))
reading_of bytes None h = λ r at. h.only r (length bytes) at
reading_of bytes (Some found) h = elim (cases_Bool (found.1 == length bytes)) [
  | inl ends ↦ let same : found.1 ≡ length bytes = grind arith in rw ends (subst (λ j. RecordAt bytes 0 found.0 j) same h.found)
  | inr other ↦ rw other (λ r at. let it = h.only r (length bytes) at in absurd (let e : (found.1 == length bytes) ≡ true = let same : found.1 ≡ length bytes = it.1 in grind arith in let bad : true ≡ false = sym e ∙ other in cc))
]

pub record_from : (o : Option (List Row)) (id : ℤ) (row : Row) (found : Option (ℤ × Record)) → IsRowFrom o id (Some row) → IsRecordOf (Some row) found → IsRecordFrom o id found
record_from None id row found is one = tt
record_from (Some rows) id row found is one = subst (λ o. IsRecordOf o found) is one

pub none_from : (o : Option (List Row)) (id : ℤ) → IsRowFrom o id None → IsRecordFrom o id None
none_from None id is = tt
none_from (Some rows) id is = subst (λ o. IsRecordOf o None) is tt

pub no_record_from : (o : Option (List Row)) (id : ℤ) (row : Row) → IsRowFrom o id (Some row) → IsNoRecord row → IsNoRecordFrom o id
no_record_from None id row is none = tt
no_record_from (Some rows) id row is none = (row, sym is, none)

-- ---- of a row that a query shows

pub none_shown : (id : ℤ) (old new : State) → ShowsRow id old new None → ShowsRecord id old new None
none_shown id old new row = λ clean. let it = row clean in (it.0, None, it.1, tt)

pub record_shown : (id : ℤ) (old new : State) (row : Row) (found : Option (ℤ × Record)) → ShowsRow id old new (Some row) → IsRecordOf (Some row) found → ShowsRecord id old new found
record_shown id old new row found is one = λ clean. let it = is clean in (it.0, Some row, it.1, one)

pub no_record_shown : (id : ℤ) (old new : State) (row : Row) → ShowsRow id old new (Some row) → IsNoRecord row → ShowsNoRecord id old new
no_record_shown id old new row is none = λ clean. let it = is clean in (it.0, row, it.1, none)
