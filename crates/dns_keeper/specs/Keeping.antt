-- What a keeper tells of itself, and what its calls do to its rows, where it tells them afterwards, and to its count of faults.
use Rattle.std.specs.Prelude.{◌≡◌, ◌+ℤ◌, ℕ, ℤ, pos, ◌≤◌, List, [], ◌∷◌, Option, Some, None, IfSome, Result, Ok, Err}
use Rattle.dns_io.specs.Told.{Rose, Told}
use Rattle.dns_keeper.specs.Stamp.{IsStampOf}
use Rattle.dns_wire.specs.declared.record.Record.{Record}
use Rattle.dns_keeper.specs.declared.row.Row.{Row}
use Rattle.dns_keeper.specs.declared.batch_row.BatchRow.{BatchRow}
use Rattle.dns_keeper.specs.declared.keeper.KeepFault.{KeepFault}
use Rattle.dns_keeper.specs.declared.keeper.KeepFault.TheVariants.{Failed, OutOfMemory}
use Rattle.dns_keeper.specs.Rows.{appended, last_id, first_of, first_from, AreAscending}
use Rattle.dns_keeper.specs.Batches.{first_batch, batch_from, batches_with, AreByFirst}

-- what a keeper tells of itself: its rows, where they are told; where they are, its batches; and how many calls failed
pub record KeeperTold : Type 0 where
  pub rows : Option (List Row)
  pub batches : List BatchRow
  pub faults : ℕ

-- what a journal keeps: rows by ascending id, and batches by ascending first
pub record Kept : Type 0 where
  pub rows : List Row
  pub batches : List BatchRow

-- what is known of a keeper: what it tells, and which rows and batches a crash now may leave in it. A keeper that does not tell these
-- lets none be left, and then nothing is said of them
pub record KeeperOf (K : Type 0) : Type 1 where
  pub told : K → KeeperTold
  pub may_leave : K → Kept → Type 0

-- the stamp of a batch, where it has any records: the text of its moment
abbrev pub IsStampFor : ℕ → List Record → List ℕ → Type 0
IsStampFor moment [] stamp = Unit {0}
IsStampFor moment (r ∷ rs) stamp = IsStampOf moment stamp

-- rows are those of before and a batch, whose rows bear the stamp of its moment
pub record HasBatch (old : List Row) (client serial moment : ℕ) (records : List Record) (new : List Row) : Type 0 where
  pub stamp : List ℕ
  pub stamped : IsStampFor moment records stamp
  pub is : new ≡ appended old client serial stamp records

-- a batch came to the rows
abbrev pub GrowsByBatch : Option (List Row) → Option (List Row) → ℕ → ℕ → ℕ → List Record → Type 0
GrowsByBatch before after client serial moment records = Told (λ old new. HasBatch old client serial moment records new) before after

-- where the rows are told, the batches are what they were
abbrev pub KeepsBatches : KeeperTold → KeeperTold → Type 0
KeepsBatches before after = Told (λ old new. after.batches ≡ before.batches) before.rows after.rows

-- where the rows are told, the batches are those of before and, where there are records, that of the records: it begins at the first
-- id that follows
abbrev pub GrowsByRun : KeeperTold → KeeperTold → List Record → Type 0
GrowsByRun before after records = Told (λ old new. after.batches ≡ batches_with (last_id old +ℤ pos 1) records before.batches) before.rows after.rows

-- told rows have ascending ids
abbrev pub TellsAscending : Option (List Row) → Type 0
TellsAscending None = Unit {0}
TellsAscending (Some rows) = AreAscending rows

-- told batches have ascending firsts
abbrev pub TellsByFirst : KeeperTold → Type 0
TellsByFirst told = IfSome told.rows (λ rows. AreByFirst told.batches)

-- the row with the least id from this one on, or that there is none
abbrev pub IsRowFrom : Option (List Row) → ℤ → Option Row → Type 0
IsRowFrom None id found = Unit {0}
IsRowFrom (Some rows) id found = found ≡ first_from id rows

-- the first of all rows, or that there are none
abbrev pub IsFirstRow : Option (List Row) → Option Row → Type 0
IsFirstRow None found = Unit {0}
IsFirstRow (Some rows) found = found ≡ first_of rows

-- the batch of least first from this id on, or that there is none
abbrev pub IsBatchFrom : KeeperTold → ℤ → Option BatchRow → Type 0
IsBatchFrom told id found = IfSome told.rows (λ rows. found ≡ batch_from id told.batches)

-- the first of all batches, or that there are none
abbrev pub IsFirstBatch : KeeperTold → Option BatchRow → Type 0
IsFirstBatch told found = IfSome told.rows (λ rows. found ≡ first_batch told.batches)

-- what a call did to a count of faults, by its answer: it rose where the call failed, and stood still where it did not
abbrev pub CountsBy : {T : Type 0} → ℕ → ℕ → Result T KeepFault → Type 0
CountsBy before now (Ok value) = now ≡ before
CountsBy before now (Err Failed) = Rose before now
CountsBy before now (Err OutOfMemory) = now ≡ before

-- a count of faults before a call and after it: it never falls, it rises where the call fails, and only there
pub record HasCause {T : Type 0} (before now : ℕ) (result : Result T KeepFault) : Type 0 where
  pub later : before ≤ now
  pub counts : CountsBy before now result
