-- A batch of rows that are put comes behind the rows that are there.
use Rattle.std.proofs.Common.{◌≡◌, ◌||◌, ◌<ℤ◌, ◌+ℤ◌, ℕ, ℤ, pos, List, [], ◌∷◌, ◌++◌, append-nil, append_assoc, Bool, true, false, fold, refl, sym, ap, ◌∙◌, arith, Less, Equal, Greater, Ordering, is_eq, IsTrue}
use Rattle.std.specs.List.{AllByRecursion}
use Rattle.std.proofs.lemmas.Int.{ints}
use Rattle.std.proofs.lemmas.Bool.Decides.{nat_tests}
use Rattle.std.specs.Ordering.{int_cmp, match_ordering}
use Rattle.sqlite.specs.declared.types.Value.TheVariants.{Int}
use Rattle.sqlite.specs.Order.{Row, value_cmp}
use Rattle.sqlite.specs.Tree.{rowid, put_row, IsTable}
use Rattle.sqlite.specs.Edit.{id_in, next_rowid, is_taken}
use Rattle.sqlite_trees.specs.View.{is_int}
use Rattle.sqlite_trees.proofs.TreeLemmas.{IsTable-put_row, all-put_row}
use Rattle.sqlite_value.proofs.OrderLemmas.{value_cmp-Int}
use Rattle.sqlite_rules.proofs.TableLemmas.{int_is, next_after}
use Rattle.dns_sqlite.specs.Batch.{next_row, ArePut, batch}

-- rows by ascending id, each id an integer
pub record AreKeyed (rows : List Row) : Type 0 where
  pub table : IsTable rows
  pub ints : AllByRecursion (λ r. IsTrue (is_int (rowid r))) rows

-- ---- forward

put_above : (new : Row) (rows : List Row) → AllByRecursion (λ r. value_cmp (rowid r) (rowid new) ≡ Less) rows → put_row new rows ≡ rows ++ new ∷ []
put_above new [] all = refl
put_above new (r ∷ rows) all = rw (all.0, put_above new rows all.1)

lower_than : (a b c : ℤ) → int_cmp a b ≡ Less → b <ℤ c → a <ℤ c
lower_than a b c p q = grind (arith, ints, nat_tests)

less_is : (a b : ℤ) → a <ℤ b → value_cmp (Int a) (Int b) ≡ Less
less_is a b h = value_cmp-Int a b ∙ grind (arith, ints, nat_tests)

abbrev step_rowid : ℤ → Row → ℤ
step_rowid n r = id_in (rowid r) +ℤ pos 1

below_next : (x : Row) (rows : List Row) → IsTable (x ∷ rows) → AllByRecursion (λ r. IsTrue (is_int (rowid r))) (x ∷ rows)
    → AllByRecursion (λ r. id_in (rowid r) <ℤ fold step_rowid (step_rowid (pos 1) x) rows) (x ∷ rows)
below_next x [] up keyed = (omega (arith, ints), tt)
below_next x (y ∷ rows) up keyed =
    let later = below_next y rows up.1 keyed.1 in
    let lower = rw (int_is (rowid x) keyed.0, int_is (rowid y) keyed.1.0, value_cmp-Int (id_in (rowid x)) (id_in (rowid y))) at up.0.0 in
    let first = later.0 in
    (lower_than (id_in (rowid x)) (id_in (rowid y)) _ lower first, later)

all_less : (next : ℤ) (rows : List Row) → AllByRecursion (λ r. IsTrue (is_int (rowid r))) rows → AllByRecursion (λ r. id_in (rowid r) <ℤ next) rows
    → AllByRecursion (λ r. value_cmp (rowid r) (Int next) ≡ Less) rows
all_less next [] keyed low = tt
all_less next (r ∷ rows) keyed low = (rw (int_is (rowid r) keyed.0) (less_is (id_in (rowid r)) next low.0), all_less next rows keyed.1 low.1)

all_below : (rows : List Row) → AreKeyed rows → AllByRecursion (λ r. value_cmp (rowid r) (Int (next_rowid rows)) ≡ Less) rows
all_below [] keyed = tt
all_below (x ∷ rows) keyed = all_less (next_rowid (x ∷ rows)) (x ∷ rows) keyed.ints (below_next x rows keyed.table keyed.ints)

module _ (client serial : ℕ) (stamp : List ℕ) where
  put_next : (rows : List Row) (bytes : List ℕ) → AreKeyed rows → put_row (next_row client serial stamp rows bytes) rows ≡ rows ++ next_row client serial stamp rows bytes ∷ []
  put_next rows bytes keyed = put_above (next_row client serial stamp rows bytes) rows (all_below rows keyed)

  keyed_put : (rows : List Row) (bytes : List ℕ) → AreKeyed rows → AreKeyed (put_row (next_row client serial stamp rows bytes) rows)
  keyed_put rows bytes keyed = record { table = IsTable-put_row _ rows keyed.table; ints = all-put_row _ (next_row client serial stamp rows bytes) rows refl keyed.ints }

  pub put_appends : (records : List (List ℕ)) (was is : List Row) → AreKeyed was → ArePut client serial stamp records was is
      → (is ≡ was ++ batch client serial stamp (next_rowid was) records) × AreKeyed is
  put_appends [] was is keyed h = rw h (sym (append-nil was), keyed)
  put_appends (b ∷ bs) was is keyed h =
      let new = next_row client serial stamp was b in
      let put : put_row new was ≡ was ++ new ∷ [] = put_next was b keyed in
      let more = put_appends bs (put_row new was) is (keyed_put was b keyed) h.1 in
      let next : next_rowid (put_row new was) ≡ next_rowid was +ℤ pos 1 = ap next_rowid put ∙ next_after was new in
      (more.0 ∙ ap (λ id. put_row new was ++ batch client serial stamp id bs) next ∙ ap (λ rows. rows ++ batch client serial stamp (next_rowid was +ℤ pos 1) bs) put ∙ append_assoc was (new ∷ []) _, more.1)

  -- one more
  pub put_more : (records : List (List ℕ)) (was mid : List Row) (bytes : List ℕ) → ArePut client serial stamp records was mid → is_taken mid (next_row client serial stamp mid bytes) ≡ false
      → ArePut client serial stamp (records ++ bytes ∷ []) was (put_row (next_row client serial stamp mid bytes) mid)
  put_more [] was mid bytes h free = rw (← h) (free, refl)
  put_more (b ∷ bs) was mid bytes h free = (h.0, put_more bs _ mid bytes h.1 free)

-- ---- backward

or_false : (a b : Bool) → (a || b) ≡ false → (a ≡ false) × (b ≡ false)
or_false true b e = absurd (cc)
or_false false b e = (refl, e)

all_put_back : (P : Row → Type 0) (new : Row) (rows : List Row) → is_taken rows new ≡ false → AllByRecursion P (put_row new rows) → AllByRecursion P rows
all_put_back P new [] free = λ _. tt
all_put_back P new (r ∷ rows) free = go (all_put_back P new rows (or_false _ _ free).1) (value_cmp (rowid r) (rowid new)) refl
  where
    go : (AllByRecursion P (put_row new rows) → AllByRecursion P rows) → (o : Ordering) → value_cmp (rowid r) (rowid new) ≡ o → AllByRecursion P (match_ordering o (r ∷ put_row new rows) (new ∷ rows) (new ∷ r ∷ rows)) → AllByRecursion P (r ∷ rows)
    go more Less e all = (all.0, more all.1)
    go more Equal e all = absurd (let taken : is_eq (value_cmp (rowid r) (rowid new)) ≡ false = (or_false (is_eq (value_cmp (rowid r) (rowid new))) (is_taken rows new) free).0 in let it : true ≡ false = sym (ap is_eq e) ∙ taken in cc)
    go more Greater e all = all.1

table_put_back : (new : Row) (rows : List Row) → is_taken rows new ≡ false → IsTable (put_row new rows) → IsTable rows
table_put_back new [] free = λ _. tt
table_put_back new (r ∷ rows) free = go (all_put_back _ new rows (or_false _ _ free).1) (table_put_back new rows (or_false _ _ free).1) (value_cmp (rowid r) (rowid new)) refl
  where
    go : (AllByRecursion (λ b. value_cmp (rowid r) (rowid b) ≡ Less) (put_row new rows) → AllByRecursion (λ b. value_cmp (rowid r) (rowid b) ≡ Less) rows) → (IsTable (put_row new rows) → IsTable rows) → (o : Ordering) → value_cmp (rowid r) (rowid new) ≡ o → IsTable (match_ordering o (r ∷ put_row new rows) (new ∷ rows) (new ∷ r ∷ rows)) → IsTable (r ∷ rows)
    go below more Less e up = (below up.0, more up.1)
    go below more Equal e up = absurd (let taken : is_eq (value_cmp (rowid r) (rowid new)) ≡ false = (or_false (is_eq (value_cmp (rowid r) (rowid new))) (is_taken rows new) free).0 in let it : true ≡ false = sym (ap is_eq e) ∙ taken in cc)
    go below more Greater e up = up.1

-- rows that ascend after a batch ascended before it
pub keyed_before : (client serial : ℕ) (stamp : List ℕ) (records : List (List ℕ)) (was is : List Row) → ArePut client serial stamp records was is → AreKeyed is → AreKeyed was
keyed_before client serial stamp [] was is h keyed = rw (← h) keyed
keyed_before client serial stamp (b ∷ bs) was is h keyed =
    let mid = keyed_before client serial stamp bs _ is h.1 keyed in
    record { table = table_put_back _ was h.0 mid.table; ints = all_put_back _ _ was h.0 mid.ints }
