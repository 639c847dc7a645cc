-- What one update record does, by whether it makes a change.
use Rattle.std.proofs.Common.{◌≡◌, ℕ, List, refl, sym, ◌∙◌, arith, subst, Bool, true, false}
use Rattle.std.specs.Prelude.{◌+◌, ◌++◌, [], ◌∷◌, length, nat_lt, not, ◌==◌, ◌&&◌}
use Rattle.std.specs.List.{list_any}
use Rattle.dns_name.specs.Name.{is_at_or_below}
use Rattle.dns_wire.specs.declared.record.Record.{Record}
use Rattle.dns_wire.specs.ReadBack.{ReadsBack}
use Rattle.dns_zone_map.specs.Zone.{is_type, IsZone, IsSoFar}
use Rattle.dns_update.specs.declared.verdict.Verdict.TheVariants.{Passes}
use Rattle.dns_update.specs.Change.{fold_record, is_ignored, step, steps, change, are_same_records, makes_change, batch_of}
use Rattle.dns_update.specs.Modified.{adds, updates, deletes, count_if, count_of, modified_of, modified_with, sum_of}
use Rattle.dns_update.specs.Verdict.{prescan_rule}
use Rattle.dns_update.specs.Replay.{IsJournalledAsIs}
use Rattle.dns_update.proofs.Folded.{fold_record-fold_record, below_folded, back_folded}
use Rattle.dns_update.proofs.SameRecords.{are_same_records-true}
use Rattle.dns_update.proofs.Batches.{change_if, journalled, not_stray, scanned}
use Rattle.dns_update.proofs.Zones.{step_soa}

pub true_of : (b : Bool) → not b ≡ false → b ≡ true
true_of true h = refl
true_of false h = absurd cc

pub false_of : (b : Bool) → not b ≡ true → b ≡ false
false_of true h = absurd cc
false_of false h = refl

-- where it makes none, the records are those there were
pub undone : (origin : List (List ℕ)) (records : List Record) (r : Record) (changes : Bool) → changes ≡ makes_change origin records r → changes ≡ false → records ≡ change origin records r
undone origin records r changes e h =
    sym (are_same_records-true (change origin records r) records (true_of (are_same_records (change origin records r) records) (sym e ∙ h)))

-- where it makes one, it is not passed over
pub done : (origin : List (List ℕ)) (records : List Record) (r : Record) (changes : Bool) → changes ≡ makes_change origin records r → changes ≡ true → step origin records r ≡ change origin records r
done origin records r changes e h =
    sym (change_if ((r.class == 1) && is_ignored origin records r) records (step origin records r) (false_of (are_same_records (change origin records r) records) (sym e ∙ h)))

-- a step leaves the records of a zone
pub zone_step : (origin : List (List ℕ)) (records after : List Record) (r : Record) → IsZone origin records → after ≡ step origin records r → IsSoFar origin after → IsZone origin after
zone_step origin records after r zone is so_far =
    record {
      folded = zone.folded;
      entries = so_far.entries;
      distinct = so_far.distinct;
      soa = subst (λ (l : List Record). list_any (is_type 6) l ≡ true) (sym is) (step_soa origin records r zone.entries zone.soa);
    }

-- what changes a zone, and can be journalled, may come into it
pub journalled_change : (origin : List (List ℕ)) (records : List Record) (r : Record) → ReadsBack r → prescan_rule origin r ≡ Passes → makes_change origin records (fold_record r) ≡ true → IsJournalledAsIs origin (fold_record r)
journalled_change origin records r back passed h =
    record {
      back = back_folded r back;
      folded = fold_record-fold_record r;
      journalled = journalled origin r passed (not_stray origin records (fold_record r) (false_of (are_same_records (change origin records (fold_record r)) records) h));
    }

pub within_folded : (origin : List (List ℕ)) (r : Record) → prescan_rule origin r ≡ Passes → is_at_or_below (fold_record r).name origin ≡ true
within_folded origin r passed = below_folded r.name origin ∙ (scanned origin r passed).0

-- the batch goes on with a record that makes a change, and passes another by
pub batch_on : (origin : List (List ℕ)) (records : List Record) (r : Record) (rest : List Record) → makes_change origin records (fold_record r) ≡ true
    → batch_of origin records (r ∷ rest) ≡ fold_record r ∷ batch_of origin (change origin records (fold_record r)) rest
batch_on origin records r rest h = rw (false_of (are_same_records (change origin records (fold_record r)) records) h) refl

pub batch_by : (origin : List (List ℕ)) (records : List Record) (r : Record) (rest : List Record) → makes_change origin records (fold_record r) ≡ false
    → batch_of origin records (r ∷ rest) ≡ batch_of origin records rest
batch_by origin records r rest h = rw (true_of (are_same_records (change origin records (fold_record r)) records) h) refl

-- one record more, behind others
pub steps_on : (origin : List (List ℕ)) (records batch : List Record) (r : Record) → steps origin records (batch ++ r ∷ []) ≡ step origin (steps origin records batch) r
steps_on origin records [] r = refl
steps_on origin records (b ∷ batch) r = steps_on origin (step origin records b) batch r

count_on : (test : List (List ℕ) → List Record → Record → Bool) (origin : List (List ℕ)) (records batch : List Record) (r : Record)
    → count_of test origin records (batch ++ r ∷ []) ≡ count_of test origin records batch + count_if (test origin (steps origin records batch) r)
count_on test origin records [] r = omega arith
count_on test origin records (b ∷ batch) r =
    let rest = count_on test origin (step origin records b) batch r in
    omega (arith, rest)

-- the counts of a batch with one record more
pub modified_on : (origin : List (List ℕ)) (records batch : List Record) (r : Record)
    → modified_of origin records (batch ++ r ∷ []) ≡ modified_with (modified_of origin records batch) r (nat_lt (length (steps origin records batch)) (length (step origin (steps origin records batch) r)))
modified_on origin records batch r =
    rw (count_on adds origin records batch r, count_on updates origin records batch r, count_on deletes origin records batch r) refl

-- each record of a batch is counted once
one_of_three : (here grows : Bool) → count_if (here && grows) + (count_if (here && not grows) + count_if (not here)) ≡ 1
one_of_three true true = refl
one_of_three true false = refl
one_of_three false grows = refl

pub counted_once : (origin : List (List ℕ)) (records batch : List Record) → sum_of (modified_of origin records batch) ≡ length batch
counted_once origin records [] = refl
counted_once origin records (r ∷ batch) =
    let rest = counted_once origin (step origin records r) batch in
    let one = one_of_three (r.class == 1) (nat_lt (length records) (length (step origin records r))) in
    omega (arith, rest, one)
