-- Batches by ascending first stand in their table in that order.
use Rattle.std.proofs.Common.{◌≡◌, ◌||◌, is_eq, Equal, Greater, Ordering, ◌<ℤ◌, ◌≤ℤ◌, ℤ, List, [], ◌∷◌, ◌++◌, map, append_assoc, append-nil, Bool, true, false, Less, refl, sym, ap, subst, ◌∙◌, arith}
use Rattle.std.specs.List.{AllByRecursion}
use Rattle.std.specs.Ordering.{match_ordering}
use Rattle.std.specs.Int.Signed.{le_z}
use Rattle.std.proofs.lemmas.Int.{ints}
use Rattle.std.proofs.lemmas.Bool.Decides.{nat_tests}
use Rattle.sqlite.specs.declared.types.Value.TheVariants.{Int}
use Rattle.sqlite.specs.Order.{Row, value_cmp}
use Rattle.sqlite.specs.Tree.{put_row, rowid}
use Rattle.sqlite.specs.Edit.{is_taken}
use Rattle.sqlite_value.proofs.OrderLemmas.{value_cmp-Int}
use Rattle.dns_keeper.specs.declared.batch_row.BatchRow.{BatchRow}
use Rattle.dns_keeper.specs.Batches.{put_batch, AreByFirst}
use Rattle.dns_keeper.proofs.Ascends.{AscendAbove, ascends, above_by_first}
use Rattle.dns_sqlite.specs.Tables.{stored_batch}
use Rattle.dns_sqlite.specs.Migration.{AreBatchesPut}

less_is : (a b : ℤ) → a <ℤ b → value_cmp (Int a) (Int b) ≡ Less
less_is a b h = value_cmp-Int a b ∙ grind (arith, ints, nat_tests)

-- ---- forward

abbrev UpTo : ℤ → List BatchRow → Type 0
UpTo low batches = AllByRecursion (λ (b : BatchRow). b.first ≤ℤ low) batches

put_last : (low : ℤ) (batches : List BatchRow) (b : BatchRow) → UpTo low batches → low <ℤ b.first → put_row (stored_batch b) (map stored_batch batches) ≡ map stored_batch (batches ++ b ∷ [])
put_last low [] b all above = refl
put_last low (c ∷ batches) b all above =
    let lower : c.first <ℤ b.first = omega (arith, ints, all.0, above) in
    rw (less_is c.first b.first lower, put_last low batches b all.1 above) refl

up_more : (low high : ℤ) (batches : List BatchRow) (b : BatchRow) → UpTo low batches → low ≤ℤ high → b.first ≤ℤ high → UpTo high (batches ++ b ∷ [])
up_more low high [] b all le last = (last, tt)
up_more low high (c ∷ batches) b all le last = (omega (arith, ints, all.0, le), up_more low high batches b all.1 le last)

put_behind : (low : ℤ) (batches before : List BatchRow) (is : List Row) → UpTo low before → AscendAbove low batches → AreBatchesPut batches (map stored_batch before) is → is ≡ map stored_batch (before ++ batches)
put_behind low [] before is all up put = put ∙ ap (map stored_batch) (sym (append-nil before))
put_behind low (b ∷ batches) before is all up put =
    let one = put_last low before b all up.0 in
    let more = put_behind b.first batches (before ++ b ∷ []) is (up_more low b.first before b all (omega (arith, ints, up.0)) (omega (arith, ints))) up.1 (subst (λ was. AreBatchesPut batches was is) one put.1) in
    more ∙ ap (map stored_batch) (append_assoc before (b ∷ []) batches)

-- batches that are put into an empty table
pub put_in_order : (batches : List BatchRow) (is : List Row) → AreByFirst batches → AreBatchesPut batches [] is → is ≡ map stored_batch batches
put_in_order batches is up put = let low = ascends batches up in put_behind low.0 batches [] is tt low.1 put

-- ---- backward: where a batch was put into a table and the batches stand in order now, they did before

pub record Before (low : ℤ) (b : BatchRow) (was : List Row) (after : List BatchRow) : Type 0 where
  pub batches : List BatchRow
  pub is : was ≡ map stored_batch batches
  pub up : AscendAbove low batches
  pub put : after ≡ put_batch b batches

or_false : (a b : Bool) → (a || b) ≡ false → (a ≡ false) × (b ≡ false)
or_false true b e = absurd (cc)
or_false false b e = (refl, e)

below_first : (low high : ℤ) (batches : List BatchRow) → low <ℤ high → AscendAbove high batches → AscendAbove low batches
below_first low high [] lt up = tt
below_first low high (b ∷ batches) lt up = (omega (arith, ints, lt, up.0), up.1)

-- the batch of a stored one
same_batch : (b c : BatchRow) → stored_batch b ≡ stored_batch c → b ≡ c
same_batch b c e =
    let first : b.first ≡ c.first = cc in
    let count : b.count ≡ c.count = cc in
    let it : ◌≡◌ {A = BatchRow} (record { first = b.first; count = b.count }) (record { first = c.first; count = c.count }) = rw (first, count) refl in
    it

in_front : (b c : BatchRow) (batches : List BatchRow) → b.first <ℤ c.first → put_batch b (c ∷ batches) ≡ b ∷ c ∷ batches
in_front b c batches lt = let at : le_z b.first c.first ≡ true = grind (arith, ints, nat_tests) in rw at refl

behind : (b c : BatchRow) (batches : List BatchRow) → c.first <ℤ b.first → put_batch b (c ∷ batches) ≡ c ∷ put_batch b batches
behind b c batches lt = let at : le_z b.first c.first ≡ false = grind (arith, ints, nat_tests) in rw at refl

first_put : (b : BatchRow) (batches : List BatchRow) → AscendAbove b.first batches → put_batch b batches ≡ b ∷ batches
first_put b [] up = refl
first_put b (c ∷ batches) up = in_front b c batches up.0

-- where the batches now begin with one that the new one comes behind
lower_of : (a b : ℤ) → value_cmp (Int a) (Int b) ≡ Less → a <ℤ b
lower_of a b e = let it = sym (value_cmp-Int a b) ∙ e in grind (arith, ints, nat_tests)

pub batches_before : (low : ℤ) (b : BatchRow) (was : List Row) (after : List BatchRow) → is_taken was (stored_batch b) ≡ false → put_row (stored_batch b) was ≡ map stored_batch after → AscendAbove low after → Before low b was after
batches_before low b [] [] free put up = absurd (cc)
batches_before low b [] (c ∷ after) free put up =
    let one : stored_batch b ≡ stored_batch c = cc in
    let none : [] ≡ map stored_batch after = cc in
    record { batches = []; is = refl; up = tt; put = empty after none (same_batch b c one) }
  where
    empty : (after : List BatchRow) → [] ≡ map stored_batch after → b ≡ c → c ∷ after ≡ b ∷ []
    empty [] e is = ap (λ x. x ∷ []) (sym is)
    empty (d ∷ after) e is = absurd (cc)
batches_before low b (r ∷ rows) after free put up = go (λ l a p u. batches_before l b rows a (or_false _ _ free).1 p u) (value_cmp (rowid r) (Int b.first)) refl after put up
  where
    go : ((l : ℤ) (a : List BatchRow) → put_row (stored_batch b) rows ≡ map stored_batch a → AscendAbove l a → Before l b rows a) → (o : Ordering) → value_cmp (rowid r) (Int b.first) ≡ o → (after : List BatchRow) → match_ordering o (r ∷ put_row (stored_batch b) rows) (stored_batch b ∷ rows) (stored_batch b ∷ r ∷ rows) ≡ map stored_batch after → AscendAbove low after → Before low b (r ∷ rows) after
    go more Less e [] put up = absurd (cc)
    go more Less e (c ∷ after) put up =
        let first : r ≡ stored_batch c = cc in
        let rest : put_row (stored_batch b) rows ≡ map stored_batch after = cc in
        let it = more c.first after rest up.1 in
        let lt = lower_of c.first b.first (subst (λ x. value_cmp (rowid x) (Int b.first) ≡ Less) first e) in
        record { batches = c ∷ it.batches; is = ap (λ x. x ∷ rows) first ∙ ap (λ xs. stored_batch c ∷ xs) it.is; up = (up.0, it.up); put = ap (λ xs. c ∷ xs) it.put ∙ sym (behind b c it.batches lt) }
    go more Equal e after put up = absurd (let taken : is_eq (value_cmp (rowid r) (Int b.first)) ≡ false = (or_false (is_eq (value_cmp (rowid r) (Int b.first))) (is_taken rows (stored_batch b)) free).0 in let it : true ≡ false = sym (ap is_eq e) ∙ taken in cc)
    go more Greater e [] put up = absurd (cc)
    go more Greater e (c ∷ after) put up =
        let rest : r ∷ rows ≡ map stored_batch after = cc in
        let one : b ≡ c = same_batch b c (let it : stored_batch b ≡ stored_batch c = cc in it) in
        record { batches = after; is = rest; up = below_first low c.first after up.0 up.1; put = ap (λ x. x ∷ after) (sym one) ∙ sym (first_put b after (subst (λ x. AscendAbove x.first after) (sym one) up.1)) }

pub record WasInOrder (b : BatchRow) (was : List Row) (after : List BatchRow) : Type 0 where
  pub batches : List BatchRow
  pub is : was ≡ map stored_batch batches
  pub by_first : AreByFirst batches
  pub put : after ≡ put_batch b batches

pub was_in_order : (b : BatchRow) (was is : List Row) (after : List BatchRow) → AreBatchesPut (b ∷ []) was is → is ≡ map stored_batch after → AreByFirst after → WasInOrder b was after
was_in_order b was is after put same up =
    let low = ascends after up in
    let it = batches_before low.0 b was after put.0 (sym put.1 ∙ same) low.1 in
    record { batches = it.batches; is = it.is; by_first = (above_by_first low.0 it.batches it.up).1; put = it.put }
