-- Rows that batches cover are covered after an append too.
use Rattle.std.proofs.Common.{◌≡◌, ◌<◌, ◌+◌, ◌+ℤ◌, ◌++◌, ℕ, ℤ, pos, List, [], ◌∷◌, length, length-append, append-nil, true, false, refl, sym, ap, subst, ◌∙◌, arith}
use Rattle.std.specs.List.{list_all}
use Rattle.std.specs.Ordering.{int_eq}
use Rattle.std.specs.Int.Signed.{le_z}
use Rattle.std.proofs.lemmas.Int.{ints}
use Rattle.std.proofs.lemmas.Bool.Decides.{nat_tests}
use Rattle.dns_wire.specs.declared.record.Record.{Record}
use Rattle.dns_wire.specs.WireFormat.{record_bytes}
use Rattle.dns_keeper.specs.declared.row.Row.{Row}
use Rattle.dns_keeper.specs.declared.batch_row.BatchRow.{BatchRow}
use Rattle.dns_keeper.specs.Rows.{last_id, rows_of, appended}
use Rattle.dns_keeper.specs.Batches.{batches_with, are_alike, IsRun, Covers}
use Rattle.dns_keeper.proofs.Putting.{AllBelow, put_behind}
use Rattle.dns_keeper.proofs.Adding.{length-rows_of}
use Rattle.dns_keeper.proofs.Runs.{next_id, covers_more}

-- ---- batches that cover rows begin below the id that comes next

some_run : (run : List Row) → IsRun run → 0 < length run
some_run [] is = absurd is
some_run (r ∷ run) is = omega arith

before_end : (e : ℤ) (m n : ℕ) → 0 < m → le_z (e +ℤ pos (m + n)) e ≡ false
before_end e m n some = grind (arith, ints, nat_tests)

all_below : (e : ℤ) (rows : List Row) (batches : List BatchRow) → Covers e rows batches → AllBelow (e +ℤ pos (length rows)) batches
all_below e rows [] c = tt
all_below e rows (b ∷ batches) c =
    let size : length c.0 + length c.1 ≡ length rows = sym (length-append c.0 c.1) ∙ ap length (sym c.2) in
    let first : le_z (e +ℤ pos (length rows)) e ≡ false = subst (λ n. le_z (e +ℤ pos n) e ≡ false) size (before_end e (length c.0) (length c.1) (some_run c.0 c.3)) in
    let later = subst (λ k. AllBelow k batches) (next_id e (length c.0) (length c.1) ∙ ap (λ n. e +ℤ pos n) size) (all_below (e +ℤ pos (length c.0)) c.1 batches c.5) in
    (subst (λ (x : BatchRow). le_z (e +ℤ pos (length rows)) x.first ≡ false) (sym c.4) first, later)

-- ---- the rows of records are a run

same_number : (n : ℤ) → int_eq n n ≡ true
same_number n = grind arith

alike_rows : (first : Row) (id : ℤ) (client serial : ℕ) (stamp : List ℕ) (records : List Record) → first.client ≡ pos client → first.serial ≡ pos serial → list_all (are_alike first) (rows_of id client serial stamp records) ≡ true
alike_rows first id client serial stamp [] c s = refl
alike_rows first id client serial stamp (r ∷ rs) c s = rw (c, s, same_number (pos client), same_number (pos serial)) (alike_rows first (id +ℤ pos 1) client serial stamp rs c s)

is_run : (id : ℤ) (client serial : ℕ) (stamp : List ℕ) (r : Record) (rs : List Record) → IsRun (rows_of id client serial stamp (r ∷ rs))
is_run id client serial stamp r rs = alike_rows (record { id = id; client = pos client; serial = pos serial; stamp = stamp; bytes = record_bytes r }) (id +ℤ pos 1) client serial stamp rs refl refl

-- ---- an append

batch_is : (a b m n : ℤ) → a ≡ b → m ≡ n → ◌≡◌ {A = BatchRow} (record { first = a; count = m }) (record { first = b; count = n })
batch_is a b m n p q = rw (p, q) refl

pub covers_appended : (rows : List Row) (batches : List BatchRow) (client serial : ℕ) (stamp : List ℕ) (records : List Record) → last_id rows ≡ pos (length rows) → Covers (pos 1) rows batches
    → Covers (pos 1) (appended rows client serial stamp records) (batches_with (last_id rows +ℤ pos 1) records batches)
covers_appended rows batches client serial stamp [] last c = subst (λ xs. Covers (pos 1) xs batches) (sym (append-nil rows)) c
covers_appended rows batches client serial stamp (r ∷ rs) last c =
    let id = last_id rows +ℤ pos 1 in
    let new = rows_of id client serial stamp (r ∷ rs) in
    let at : pos 1 +ℤ pos (length rows) ≡ id = ap (λ n. pos 1 +ℤ n) (sym last) ∙ omega (arith, ints) in
    let same = batch_is (pos 1 +ℤ pos (length rows)) id (pos (length new)) (pos (length (r ∷ rs))) at (ap pos (length-rows_of id client serial stamp (r ∷ rs))) in
    let more = covers_more (pos 1) rows new batches c (is_run id client serial stamp r rs) in
    let below = subst (λ k. AllBelow k batches) at (all_below (pos 1) rows batches c) in
    subst (Covers (pos 1) (rows ++ new)) (ap (λ b. batches ++ b ∷ []) same ∙ sym (put_behind (record { first = id; count = pos (length (r ∷ rs)) }) batches below)) more

-- the batch of records that come behind rows which batches cover comes behind these
pub batches_behind : (rows : List Row) (batches : List BatchRow) (r : Record) (rs : List Record) → last_id rows ≡ pos (length rows) → Covers (pos 1) rows batches
    → batches_with (last_id rows +ℤ pos 1) (r ∷ rs) batches ≡ batches ++ record { first = last_id rows +ℤ pos 1; count = pos (length (r ∷ rs)) } ∷ []
batches_behind rows batches r rs last c =
    let id = last_id rows +ℤ pos 1 in
    let at : pos 1 +ℤ pos (length rows) ≡ id = ap (λ n. pos 1 +ℤ n) (sym last) ∙ omega (arith, ints) in
    put_behind (record { first = id; count = pos (length (r ∷ rs)) }) batches (subst (λ k. AllBelow k batches) at (all_below (pos 1) rows batches c))
