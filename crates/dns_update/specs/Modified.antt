-- How many records of a batch added one to the zone, changed one, or deleted some.
use Rattle.std.specs.Prelude.{ℕ, ◌+◌, List, [], ◌∷◌, length, Bool, ◌==◌, ◌&&◌, not, nat_lt, if◌then◌else◌}
use Rattle.dns_wire.specs.declared.record.Record.{Record}
use Rattle.dns_wire.specs.declared.class.TheConstants as class
use Rattle.dns_update.specs.declared.batch.Modified.{Modified}
use Rattle.dns_update.specs.Change.{step}

-- an addition after which there are more records
abbrev pub adds : List (List ℕ) → List Record → Record → Bool
adds origin records r = (r.class == class.IN) && nat_lt (length records) (length (step origin records r))

-- an addition that takes the place of a record
abbrev pub updates : List (List ℕ) → List Record → Record → Bool
updates origin records r = (r.class == class.IN) && not (nat_lt (length records) (length (step origin records r)))

-- a deletion
abbrev pub deletes : List (List ℕ) → List Record → Record → Bool
deletes origin records r = not (r.class == class.IN)

abbrev pub count_if : Bool → ℕ
count_if b = if b then 1 else 0

-- of a batch, how many records pass a test of what the ones before them left
abbrev pub count_of : (List (List ℕ) → List Record → Record → Bool) → List (List ℕ) → List Record → List Record → ℕ
count_of test origin records [] = 0
count_of test origin records (r ∷ rs) = count_if (test origin records r) + count_of test origin (step origin records r) rs

-- the counts of a batch
abbrev pub modified_of : List (List ℕ) → List Record → List Record → Modified
modified_of origin records batch =
    record {
      added = count_of adds origin records batch;
      updated = count_of updates origin records batch;
      deleted = count_of deletes origin records batch;
    }

-- the counts with one record more, after which there are more records or not
abbrev pub modified_with : Modified → Record → Bool → Modified
modified_with counts r grows =
    record {
      added = counts.added + count_if ((r.class == class.IN) && grows);
      updated = counts.updated + count_if ((r.class == class.IN) && not grows);
      deleted = counts.deleted + count_if (not (r.class == class.IN));
    }

-- all counts together
abbrev pub sum_of : Modified → ℕ
sum_of counts = counts.added + (counts.updated + counts.deleted)
