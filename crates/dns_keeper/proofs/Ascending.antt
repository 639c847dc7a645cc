-- Rows stay ascending when a batch comes to them.
use Rattle.std.proofs.Common.{◌≡◌, ℕ, ℤ, pos, ◌+ℤ◌, ◌-◌, List, [], ◌∷◌, ◌++◌, length, true, false, suc, refl, ◌∙◌, arith}
use Rattle.std.specs.Int.Signed.{le_z}
use Rattle.std.proofs.lemmas.Int.{ints}
use Rattle.dns_wire.specs.declared.record.Record.{Record}
use Rattle.dns_keeper.specs.declared.row.Row.{Row}
use Rattle.dns_keeper.specs.Keeping.{HasBatch}
use Rattle.dns_keeper.specs.Rows.{last_id, rows_of, appended, is_below_first, is_ascending, AreAscending}

-- the last id of two rows and more is that of all but the first
pub last_id-next : (first second : Row) (rest : List Row) → last_id (first ∷ second ∷ rest) ≡ last_id (second ∷ rest)
last_id-next first second rest =
    let long : suc (suc (length rest)) - 1 ≡ suc (length rest) = omega arith in
    let short : suc (length rest) - 1 ≡ length rest = omega arith in
    rw (long, short) refl

-- a batch that begins behind an id begins above it
is_below_first-rows_of : (id : ℤ) (client serial : ℕ) (stamp : List ℕ) (records : List Record) → is_below_first id (rows_of (id +ℤ pos 1) client serial stamp records) ≡ true
is_below_first-rows_of id client serial stamp [] = refl
is_below_first-rows_of id client serial stamp (r ∷ rs) =
    let above : le_z (id +ℤ pos 1) id ≡ false = grind (arith, ints) in
    rw above refl

-- the ids of a batch ascend
is_ascending-rows_of : (id : ℤ) (client serial : ℕ) (stamp : List ℕ) (records : List Record) → is_ascending (rows_of id client serial stamp records) ≡ true
is_ascending-rows_of id client serial stamp [] = refl
is_ascending-rows_of id client serial stamp (r ∷ rs) =
    rw (is_below_first-rows_of id client serial stamp rs) (is_ascending-rows_of (id +ℤ pos 1) client serial stamp rs)

-- ascending rows with ascending rows above them ascend
is_ascending-append : (rows more : List Row) → is_ascending rows ≡ true → is_ascending more ≡ true → is_below_first (last_id rows) more ≡ true → is_ascending (rows ++ more) ≡ true
is_ascending-append [] more front back above = back
is_ascending-append (r ∷ []) more front back above = rw above back
is_ascending-append (r ∷ s ∷ rest) more front back above =
    let step : le_z s.id r.id ≡ false = grind arith in
    let tail : is_ascending (s ∷ rest) ≡ true = grind arith in
    rw step (is_ascending-append (s ∷ rest) more tail back (rw (last_id-next r s rest) at above))

-- rows with a batch after them ascend
pub ascending_appended : (rows : List Row) (client serial : ℕ) (stamp : List ℕ) (records : List Record) → AreAscending rows → AreAscending (appended rows client serial stamp records)
ascending_appended rows client serial stamp records front =
    is_ascending-append rows (rows_of (last_id rows +ℤ pos 1) client serial stamp records) front
    (is_ascending-rows_of (last_id rows +ℤ pos 1) client serial stamp records)
    (is_below_first-rows_of (last_id rows) client serial stamp records)

-- so do the rows that a batch came to
pub ascending_grown : (rows batch new : List Row) (client serial moment : ℕ) (records : List Record) → AreAscending rows → HasBatch rows client serial moment records (rows ++ batch)
    → new ≡ rows ++ batch → AreAscending new
ascending_grown rows batch new client serial moment records front grown is = rw (is ∙ grown.is) (ascending_appended rows client serial grown.stamp records front)
