-- What records add to a keeper in memory: their rows, and the batch of these.
use Rattle.std.proofs.Common.{◌≡◌, ◌<◌, ℕ, ℤ, pos, ◌+ℤ◌, List, [], ◌∷◌, ◌++◌, length, append-nil, append_assoc, suc, refl, sym, ap, ◌∙◌, arith}
use Rattle.std.proofs.lemmas.Int.{ints}
use Rattle.dns_wire.specs.declared.record.Record.{Record}
use Rattle.dns_keeper.specs.declared.row.Row.{Row}
use Rattle.dns_keeper.specs.declared.batch_row.BatchRow.{BatchRow}
use Rattle.dns_keeper.specs.Rows.{last_id, rows_of, AreAscending}
use Rattle.dns_keeper.specs.Batches.{put_batch, batches_with}
use Rattle.dns_keeper.specs.Keeping.{HasBatch, IsStampFor}
use Rattle.dns_keeper.specs.Stamp.{IsStampOf}
use Rattle.dns_keeper.specs.Packed.{joined, GrowsBehind}
use Rattle.dns_keeper.proofs.Ascending.{ascending_appended, last_id-next}
use Rattle.dns_keeper.proofs.Packing.{joined_more}

pub length-rows_of : (id : ℤ) (client serial : ℕ) (stamp : List ℕ) (records : List Record) → length (rows_of id client serial stamp records) ≡ length records
length-rows_of id client serial stamp [] = refl
length-rows_of id client serial stamp (r ∷ rs) = ap suc (length-rows_of (id +ℤ pos 1) client serial stamp rs)

stamped_for : (moment : ℕ) (records : List Record) (stamp : List ℕ) → IsStampOf moment stamp → IsStampFor moment records stamp
stamped_for moment [] stamp is = tt
stamped_for moment (r ∷ rs) stamp is = is

-- rows that are packed come behind those of before
pub some_added : (last : ℤ) (client serial moment : ℕ) (records : List Record) (stamp : List ℕ) (before after : List (List Row)) (rows : List Row) → IsStampOf moment stamp
    → rows ≡ rows_of (last +ℤ pos 1) client serial stamp records → after ≡ before ++ rows ∷ [] → GrowsBehind last client serial moment records (joined before) (joined after)
some_added last client serial moment records stamp before after rows stamped are is = record {
  stamp = stamp;
  stamped = stamped_for moment records stamp stamped;
  is = ap joined is ∙ joined_more before rows ∙ ap (λ more. joined before ++ more) are;
}

pub one_batch : (id : ℤ) (records : List Record) (batches : List BatchRow) → 0 < length records → put_batch (record { first = id; count = pos (length records) }) batches ≡ batches_with id records batches
one_batch id [] batches some = absurd (omega arith)
one_batch id (r ∷ rs) batches some = refl

-- ---- behind rows that were given

pub has_batch : (given old new : List Row) (client serial moment : ℕ) (records : List Record) → GrowsBehind (last_id (given ++ old)) client serial moment records old new
    → HasBatch (given ++ old) client serial moment records (given ++ new)
has_batch given old new client serial moment records grown = record {
  stamp = grown.stamp;
  stamped = grown.stamped;
  is = ap (λ rows. given ++ rows) grown.is ∙ sym (append_assoc given old (rows_of (last_id (given ++ old) +ℤ pos 1) client serial grown.stamp records));
}

-- rows stay ascending
pub ascending_whole : (old new : List Row) (client serial moment : ℕ) (records : List Record) → AreAscending old → HasBatch old client serial moment records new → AreAscending new
ascending_whole old new client serial moment records up grown = rw grown.is (ascending_appended old client serial grown.stamp records up)

-- the last id of rows behind others, of which there is one
last_id-append : (rows : List Row) (r : Row) (more : List Row) → last_id (rows ++ r ∷ more) ≡ last_id (r ∷ more)
last_id-append [] r more = refl
last_id-append (first ∷ []) r more = last_id-next first r more
last_id-append (first ∷ second ∷ rest) r more = last_id-next first second (rest ++ r ∷ more) ∙ last_id-append (second ∷ rest) r more

two_on : (id : ℤ) (count : ℕ) → (id +ℤ pos 1) +ℤ pos count ≡ id +ℤ pos (suc count)
two_on id count = omega (arith, ints)

none_on : (id : ℤ) → id ≡ id +ℤ pos 0
none_on id = omega (arith, ints)

last_id-rows_of : (id : ℤ) (client serial : ℕ) (stamp : List ℕ) (r : Record) (records : List Record) → last_id (rows_of id client serial stamp (r ∷ records)) ≡ id +ℤ pos (length records)
last_id-rows_of id client serial stamp r [] = none_on id
last_id-rows_of id client serial stamp r (s ∷ records) =
    last_id-next _ _ (rows_of ((id +ℤ pos 1) +ℤ pos 1) client serial stamp records) ∙ last_id-rows_of (id +ℤ pos 1) client serial stamp s records ∙ two_on id (length records)

-- the last id once a batch came
pub last_id-grown : (old new : List Row) (client serial moment : ℕ) (records : List Record) → HasBatch old client serial moment records new → last_id new ≡ last_id old +ℤ pos (length records)
last_id-grown old new client serial moment [] grown = ap last_id (grown.is ∙ append-nil old) ∙ none_on (last_id old)
last_id-grown old new client serial moment (r ∷ records) grown =
    ap last_id grown.is ∙ last_id-append old _ (rows_of ((last_id old +ℤ pos 1) +ℤ pos 1) client serial grown.stamp records)
    ∙ last_id-rows_of (last_id old +ℤ pos 1) client serial grown.stamp r records ∙ two_on (last_id old) (length records)
