-- The order of a table, and that of the rows which it reads as.
use Rattle.std.proofs.Common.{◌≡◌, ◌+ℤ◌, ◌-◌, ℤ, pos, List, [], ◌∷◌, length, fold, true, false, Option, Some, None, IsTrue, inl, inr, suc, refl, sym, ap, subst, ◌∙◌, arith, Less, Equal, Greater, Ordering}
use Rattle.std.specs.List.{AllByRecursion}
use Rattle.std.specs.Int.Signed.{le_z, ◌<ℤ◌}
use Rattle.std.specs.Ordering.{int_cmp, MatchOrdering}
use Rattle.std.specs.Cmp.{int_ranks}
use Rattle.std.proofs.lemmas.Int.{ints}
use Rattle.std.proofs.lemmas.Bool.{cases_Bool}
use Rattle.sqlite_value.proofs.OrderLemmas.{value_cmp-Int}
use Rattle.sqlite.specs.declared.types.Value.{Value}
use Rattle.sqlite.specs.declared.types.Value.TheVariants.{Null, Int, Text, Blob}
use Rattle.sqlite.specs.Order.{Row as Stored, value_cmp}
use Rattle.sqlite.specs.Tree.{rowid, IsTable}
use Rattle.sqlite.specs.Edit.{id_in}
use Rattle.sqlite_trees.specs.View.{is_int}
use Rattle.dns_sqlite.proofs.Rows.{AreKeyed}
use Rattle.dns_keeper.specs.declared.row.Row.{Row}
use Rattle.dns_keeper.specs.Rows.{last_id, is_below_first, is_ascending}
use Rattle.dns_journal.specs.Told.{is_signed, row_of, joined, rows_of, if_ascending, told}

-- ---- one row

-- a row that reads has its id for its rowid
pub row_id : (s : Stored) (r : Row) → row_of s ≡ Some r → rowid s ≡ Int r.id
row_id (Int id ∷ Null ∷ Int client ∷ Int serial ∷ Text stamp ∷ Blob bytes ∷ []) r e = elim (cases_Bool (is_signed id)) [
  | inl within ↦ let it : Some (record { id = id; client = client; serial = serial; stamp = stamp; bytes = bytes }) ≡ Some r = rw within at e in ap (λ (o : Option Row). id_or o) it
  | inr outside ↦ absurd (let it : None ≡ Some r = rw outside at e in cc)
]
  where
    id_or : Option Row → Value
    id_or None = Null
    id_or (Some r) = Int r.id
row_id _ r e = absurd (cc)

-- and it has 64 bits
pub row_signed : (s : Stored) (r : Row) → row_of s ≡ Some r → is_signed r.id ≡ true
row_signed (Int id ∷ Null ∷ Int client ∷ Int serial ∷ Text stamp ∷ Blob bytes ∷ []) r e = elim (cases_Bool (is_signed id)) [
  | inl within ↦
      let it : Some (record { id = id; client = client; serial = serial; stamp = stamp; bytes = bytes }) ≡ Some r = rw within at e in
      let same : id ≡ r.id = ap (λ (o : Option Row). id_or id o) it in
      rw (← same) within
  | inr outside ↦ absurd (let it : None ≡ Some r = rw outside at e in cc)
]
  where
    id_or : ℤ → Option Row → ℤ
    id_or id None = id
    id_or id (Some r) = r.id
row_signed _ r e = absurd (cc)

-- ---- a table and its rows

module _ (s : Stored) (ss : List Stored) where
  pub record Split (rows : List Row) : Type 0 where
    pub first : Row
    pub rest : List Row
    pub reads : row_of s ≡ Some first
    pub more : rows_of ss ≡ Some rest
    pub is : rows ≡ first ∷ rest

  pub split : (rows : List Row) → rows_of (s ∷ ss) ≡ Some rows → Split rows
  split rows = go (row_of s) refl (rows_of ss) refl
    where
      go : (a : Option Row) → row_of s ≡ a → (b : Option (List Row)) → rows_of ss ≡ b → joined a b ≡ Some rows → Split rows
      go None p b q e = absurd (cc)
      go (Some r) p None q e = absurd (cc)
      go (Some r) p (Some more) q e = record { first = r; rest = more; reads = p; more = q; is = cc }

ints_of : (stored : List Stored) (rows : List Row) → rows_of stored ≡ Some rows → AllByRecursion (λ s. IsTrue (is_int (rowid s))) stored
ints_of [] rows e = tt
ints_of (s ∷ ss) rows e = let it = split s ss rows e in (rw (row_id s it.first it.reads) refl, ints_of ss it.rest it.more)

-- ---- the order

less_is : (a b : ℤ) → le_z b a ≡ false → int_cmp a b ≡ Less
less_is a b e = go (int_cmp a b) (int_ranks a b)
  where
    go : (r : Ordering) → MatchOrdering r (a <ℤ b) (a ≡ b) (b <ℤ a) → r ≡ Less
    go Less m = refl
    go Equal m = absurd (let it : le_z b a ≡ true = grind (arith, ints) in cc)
    go Greater m = absurd (let it : le_z b a ≡ true = grind (arith, ints) in cc)

is_less : (a b : ℤ) → int_cmp a b ≡ Less → le_z b a ≡ false
is_less a b e =
    let below : MatchOrdering Less (a <ℤ b) (a ≡ b) (b <ℤ a) = subst (λ r. MatchOrdering r (a <ℤ b) (a ≡ b) (b <ℤ a)) e (int_ranks a b) in
    grind (arith, ints)

above_next : (id : ℤ) (r : Row) (rows : List Row) → le_z r.id id ≡ false → is_below_first r.id rows ≡ true → is_below_first id rows ≡ true
above_next id r [] e f = refl
above_next id r (t ∷ rows) e f =
    let step : le_z t.id r.id ≡ false = grind arith in
    let far : le_z t.id id ≡ false = grind (arith, ints) in
    rw far refl

all_above : (id : ℤ) (stored : List Stored) (rows : List Row) → rows_of stored ≡ Some rows → is_ascending rows ≡ true → is_below_first id rows ≡ true
    → AllByRecursion (λ s. value_cmp (Int id) (rowid s) ≡ Less) stored
all_above id [] rows e up above = tt
all_above id (s ∷ ss) rows e up above =
    let it = split s ss rows e in
    let first : is_below_first id (it.first ∷ it.rest) ≡ true = subst (λ rs. is_below_first id rs ≡ true) it.is above in
    let order : is_ascending (it.first ∷ it.rest) ≡ true = subst (λ rs. is_ascending rs ≡ true) it.is up in
    let step : le_z it.first.id id ≡ false = grind arith in
    let next : is_below_first it.first.id it.rest ≡ true = grind arith in
    let tail : is_ascending it.rest ≡ true = grind arith in
    (rw (row_id s it.first it.reads) (value_cmp-Int id it.first.id ∙ less_is id it.first.id step), all_above id ss it.rest it.more tail (above_next id it.first it.rest step next))

table_of : (stored : List Stored) (rows : List Row) → rows_of stored ≡ Some rows → is_ascending rows ≡ true → IsTable stored
table_of [] rows e up = tt
table_of (s ∷ ss) rows e up =
    let it = split s ss rows e in
    let order : is_ascending (it.first ∷ it.rest) ≡ true = subst (λ rs. is_ascending rs ≡ true) it.is up in
    let next : is_below_first it.first.id it.rest ≡ true = grind arith in
    let tail : is_ascending it.rest ≡ true = grind arith in
    (rw (row_id s it.first it.reads) (all_above it.first.id ss it.rest it.more tail next), table_of ss it.rest it.more tail)

first_above : (id : ℤ) (stored : List Stored) (rows : List Row) → rows_of stored ≡ Some rows → AllByRecursion (λ s. value_cmp (Int id) (rowid s) ≡ Less) stored → is_below_first id rows ≡ true
first_above id [] rows e all = let none : rows ≡ [] = cc in rw none refl
first_above id (s ∷ ss) rows e all =
    let it = split s ss rows e in
    let less : int_cmp id it.first.id ≡ Less = sym (value_cmp-Int id it.first.id) ∙ subst (λ v. value_cmp (Int id) v ≡ Less) (row_id s it.first it.reads) all.0 in
    rw (it.is, is_less id it.first.id less) refl

ascending_of : (stored : List Stored) (rows : List Row) → rows_of stored ≡ Some rows → IsTable stored → is_ascending rows ≡ true
ascending_of [] rows e up = let none : rows ≡ [] = cc in rw none refl
ascending_of (s ∷ ss) rows e up =
    let it = split s ss rows e in
    let all = subst (λ v. AllByRecursion (λ s. value_cmp v (rowid s) ≡ Less) ss) (row_id s it.first it.reads) up.0 in
    rw (it.is, first_above it.first.id ss it.rest it.more all) (ascending_of ss it.rest it.more up.1)

-- ---- what is told

pub record IsTold (stored : List Stored) (rows : List Row) : Type 0 where
  pub keyed : AreKeyed stored
  pub reads : rows_of stored ≡ Some rows
  pub ascending : is_ascending rows ≡ true

pub told_is : (stored : List Stored) (rows : List Row) → told stored ≡ Some rows → IsTold stored rows
told_is stored rows = go (rows_of stored) refl
  where
    go : (o : Option (List Row)) → rows_of stored ≡ o → if_ascending o ≡ Some rows → IsTold stored rows
    go None q e = absurd (cc)
    go (Some all) q e = elim (cases_Bool (is_ascending all)) [
      | inl up ↦
          let both : Some all ≡ Some rows = rw up at e in
          let same : all ≡ rows = cc in
          let reads : rows_of stored ≡ Some rows = q ∙ both in
          let order : is_ascending rows ≡ true = subst (λ rs. is_ascending rs ≡ true) same up in
          record { keyed = record { table = table_of stored rows reads order; ints = ints_of stored rows reads }; reads = reads; ascending = order }
      | inr down ↦ absurd (let it : None ≡ Some rows = rw down at e in cc)
    ]

pub is_told : (stored : List Stored) (rows : List Row) → AreKeyed stored → rows_of stored ≡ Some rows → told stored ≡ Some rows
is_told stored rows keyed reads = rw (reads, ascending_of stored rows reads keyed.table) refl

-- ---- the last id

last_id-next : (first second : Row) (rest : List Row) → last_id (first ∷ second ∷ rest) ≡ last_id (second ∷ rest)
last_id-next first second rest =
    let long : suc (suc (length rest)) - 1 ≡ suc (length rest) = omega arith in
    let short : suc (length rest) - 1 ≡ length rest = omega arith in
    rw (long, short) refl

next_after : (s : Stored) (ss : List Stored) (r : Row) (rows : List Row) → rowid s ≡ Int r.id → rows_of ss ≡ Some rows
    → fold (λ (_ : ℤ) (s : Stored). id_in (rowid s) +ℤ pos 1) (r.id +ℤ pos 1) ss ≡ last_id (r ∷ rows) +ℤ pos 1
next_after s [] r rows id e = let none : rows ≡ [] = cc in rw none refl
next_after s (t ∷ ss) r rows id e =
    let it = split t ss rows e in
    rw (it.is, row_id t it.first it.reads, last_id-next r it.first it.rest) (next_after t ss it.first it.rest (row_id t it.first it.reads) it.more)

-- the rowid that comes next follows the last id
pub next_is : (stored : List Stored) (rows : List Row) → rows_of stored ≡ Some rows → fold (λ (_ : ℤ) (s : Stored). id_in (rowid s) +ℤ pos 1) (pos 0 +ℤ pos 1) stored ≡ last_id rows +ℤ pos 1
next_is [] rows e = let none : rows ≡ [] = cc in rw none refl
next_is (s ∷ ss) rows e =
    let it = split s ss rows e in
    rw (it.is, row_id s it.first it.reads) (next_after s ss it.first it.rest (row_id s it.first it.reads) it.more)
