-- The runs of rows by ascending id stand by ascending first.
use Rattle.std.proofs.Common.{◌≡◌, inl, inr, ℤ, List, [], ◌∷◌, true, false, refl, arith}
use Rattle.std.specs.Int.Signed.{le_z}
use Rattle.std.proofs.lemmas.Int.{ints}
use Rattle.std.proofs.lemmas.Bool.{cases_Bool}
use Rattle.std.proofs.lemmas.Bool.Decides.{nat_tests}
use Rattle.dns_keeper.specs.declared.row.Row.{Row}
use Rattle.dns_keeper.specs.declared.batch_row.BatchRow.{BatchRow}
use Rattle.dns_keeper.specs.Rows.{is_below_first, AreAscending}
use Rattle.dns_keeper.specs.Batches.{is_below_batches, AreByFirst, are_alike, begun_with, runs_of}
use Rattle.dns_keeper.proofs.Putting.{parts_of, begins_above}

-- the first of the runs begins with the first row
below_begun : (id : ℤ) (r : Row) (rows : List Row) (batches : List BatchRow) → le_z r.id id ≡ false → is_below_batches id (begun_with r rows batches) ≡ true
below_begun id r [] [] low = rw low refl
below_begun id r (s ∷ rows) [] low = rw low refl
below_begun id r [] (b ∷ batches) low = rw low refl
below_begun id r (s ∷ rows) (b ∷ batches) low = elim (cases_Bool (are_alike r s)) [
  | inl like ↦ rw (like, low) refl
  | inr other ↦ rw (other, low) refl
]

above_of : (id : ℤ) (r : Row) (rows : List Row) → is_below_first id (r ∷ rows) ≡ true → le_z r.id id ≡ false
above_of id r rows e = elim (cases_Bool (le_z r.id id)) [
  | inl is_so ↦ absurd (let it = rw is_so at e in cc)
  | inr is_not ↦ is_not
]

below_runs : (id : ℤ) (rows : List Row) → is_below_first id rows ≡ true → is_below_batches id (runs_of rows) ≡ true
below_runs id [] e = refl
below_runs id (r ∷ rows) e = below_begun id r rows (runs_of rows) (above_of id r rows e)

higher : (a b c : ℤ) → le_z b a ≡ false → le_z c b ≡ false → le_z c a ≡ false
higher a b c p q = grind (arith, ints, nat_tests)

-- what is below the first of them is below the second
behind_first : (id : ℤ) (b : BatchRow) (batches : List BatchRow) → is_below_batches id (b ∷ batches) ≡ true → is_below_batches b.first batches ≡ true → is_below_batches id batches ≡ true
behind_first id b [] low next = refl
behind_first id b (c ∷ batches) low next = rw (higher id b.first c.first (begins_above id b (c ∷ batches) low) (begins_above b.first c batches next)) refl

begun_by_first : (r : Row) (rows : List Row) (batches : List BatchRow) → is_below_batches r.id batches ≡ true → AreByFirst batches → AreByFirst (begun_with r rows batches)
begun_by_first r [] [] low up = refl
begun_by_first r (s ∷ rows) [] low up = refl
begun_by_first r [] (b ∷ batches) low up = refl
begun_by_first r (s ∷ rows) (b ∷ batches) low up =
    let parts = parts_of b batches up in
    elim (cases_Bool (are_alike r s)) [
      | inl like ↦ rw (like, behind_first r.id b batches low parts.0) parts.1
      | inr other ↦ rw (other, begins_above r.id b batches low) up
    ]

rows_of : (r : Row) (rows : List Row) → AreAscending (r ∷ rows) → (is_below_first r.id rows ≡ true) × AreAscending rows
rows_of r rows up = elim (cases_Bool (is_below_first r.id rows)) [
  | inl is_so ↦ (is_so, rw is_so at up)
  | inr is_not ↦ absurd (let it = rw is_not at up in cc)
]

pub runs_by_first : (rows : List Row) → AreAscending rows → AreByFirst (runs_of rows)
runs_by_first [] up = refl
runs_by_first (r ∷ rows) up =
    let parts = rows_of r rows up in
    begun_by_first r rows (runs_of rows) (below_runs r.id rows parts.0) (runs_by_first rows parts.1)
