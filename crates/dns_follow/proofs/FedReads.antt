-- Reading a journal that is to be fed, call by call.
use Rattle.std.proofs.Common.{◌≡◌, ◌≤◌, ℕ, List, Option, Some, None, Result, Ok, Err, sym, subst, arith}
use Rattle.std.specs.Prelude.{IfSome}
use Rattle.dns_io.specs.Told.{Told, Keeps}
use Rattle.dns_keeper.specs.declared.row.Row.{Row}
use Rattle.dns_keeper.specs.declared.batch_row.BatchRow.{BatchRow}
use Rattle.dns_keeper.specs.Keeping.{KeeperOf}
use Rattle.dns_store.proofs.ReadRows.{kept_on}
use Rattle.dns_store.proofs.ToldBatches.{batches_on}
use Rattle.dns_follow.specs.declared.feed_fault.FeedFault.{FeedFault}
use Rattle.dns_follow.specs.declared.feed_fault.FeedFault.TheVariants as fault
use Rattle.dns_follow.specs.Feeding.{CountsFeeding, ReadsJournal}

-- ---- what is told after a call that kept it

carried_by : (P : List BatchRow → List Row → Type 0) (b n : Option (List Row)) (bb nb : List BatchRow) → Keeps b n → Told (λ (o : List Row) (s : List Row). nb ≡ bb) b n
    → IfSome b (P bb) → IfSome n (P nb)
carried_by P b None bb nb kept same h = tt
carried_by P None (Some n) bb nb kept same h = absurd kept
carried_by P (Some b) (Some n) bb nb kept same h = subst (λ (l : List Row). P nb l) (sym kept) (subst (λ (bs : List BatchRow). P bs b) (sym same) h)

back_by : (P : List BatchRow → List Row → Type 0) (b n : Option (List Row)) (bb nb : List BatchRow) → Keeps b n → Told (λ (o : List Row) (s : List Row). nb ≡ bb) b n
    → IfSome n (P nb) → Told (λ (old : List Row) (new : List Row). P bb old) b n
back_by P b None bb nb kept same h = tt
back_by P None (Some n) bb nb kept same h = absurd kept
back_by P (Some b) (Some n) bb nb kept same h = subst (λ (l : List Row). P bb l) kept (subst (λ (bs : List BatchRow). P bs n) same h)

pub both_told : {A B C : List Row → Type 0} (told : Option (List Row)) → ((l : List Row) → A l → B l → C l) → IfSome told A → IfSome told B → IfSome told C
both_told None make a b = tt
both_told (Some l) make a b = make l a b

pub if_told : {A B : List Row → Type 0} (told : Option (List Row)) → ((l : List Row) → A l → B l) → IfSome told A → IfSome told B
if_told None make a = tt
if_told (Some l) make a = make l a

-- what a count of faults did since it was as it then was
counts_on : {T : Type 0} (first before now : ℕ) (result : Result T FeedFault) → before ≡ first → CountsFeeding before now result → CountsFeeding first now result
counts_on first before now result same counts = subst (λ (n : ℕ). CountsFeeding n now result) same counts

module _ {K : Type 0} (keeper : KeeperOf K) where
  -- what is told after a reading is what was told before
  pub carried : {T : Type 0} (P : List BatchRow → List Row → Type 0) (old new : K) (result : Result T FeedFault) → ReadsJournal keeper old new result
      → IfSome (keeper.told old).rows (P (keeper.told old).batches) → IfSome (keeper.told new).rows (P (keeper.told new).batches)
  carried P old new result read h =
      carried_by P (keeper.told old).rows (keeper.told new).rows (keeper.told old).batches (keeper.told new).batches read.kept read.batches h

  pub told_back : {T : Type 0} (P : List BatchRow → List Row → Type 0) (old new : K) (result : Result T FeedFault) → ReadsJournal keeper old new result
      → IfSome (keeper.told new).rows (P (keeper.told new).batches) → Told (λ (l : List Row) (n : List Row). P (keeper.told old).batches l) (keeper.told old).rows (keeper.told new).rows
  told_back P old new result read h =
      back_by P (keeper.told old).rows (keeper.told new).rows (keeper.told old).batches (keeper.told new).batches read.kept read.batches h

  -- one was made, and then others
  pub reads_on : {T U : Type 0} (start before now : K) (value : U) (result : Result T FeedFault) → ReadsJournal keeper start before (Ok value) → ReadsJournal keeper before now result
      → ReadsJournal keeper start now result
  reads_on start before now value result first second =
      let same : (keeper.told before).faults ≡ (keeper.told start).faults = first.counts in
      let later : (keeper.told before).faults ≤ (keeper.told now).faults = second.later in
      record {
        kept = kept_on (keeper.told start).rows (keeper.told before).rows (keeper.told now).rows first.kept second.kept;
        batches = batches_on (keeper.told start) (keeper.told before) (keeper.told now) first.kept first.batches second.batches;
        left = λ rows some. first.left rows (second.left rows some);
        later = omega (arith, same, later);
        counts = counts_on (keeper.told start).faults (keeper.told before).faults (keeper.told now).faults result same second.counts;
      }

  -- the same, whatever was to be read
  pub reads_as_well : {T U : Type 0} (old new : K) (value : T) (other : U) → ReadsJournal keeper old new (Ok value) → ReadsJournal keeper old new (Ok other)
  reads_as_well old new value other read = record { kept = read.kept; batches = read.batches; left = read.left; later = read.later; counts = read.counts }

  -- all was read, but a row is out of place, or memory ran out
  pub reads_wanting : {T U : Type 0} (old new : K) (value : U) → ReadsJournal keeper old new (Ok value) → ReadsJournal {T = T} keeper old new (Err fault.OutOfMemory)
  reads_wanting old new value read = record { kept = read.kept; batches = read.batches; left = read.left; later = read.later; counts = read.counts }
