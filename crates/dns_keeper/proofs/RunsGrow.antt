-- The runs of rows and one row more, as a loop over the rows makes them.
use Rattle.std.proofs.Common.{◌≡◌, inl, inr, ◌++◌, ◌+ℤ◌, pos, List, [], ◌∷◌, Bool, true, false, refl, sym, ap, ◌∙◌}
use Rattle.std.proofs.lemmas.Bool.{cases_Bool}
use Rattle.dns_keeper.specs.declared.row.Row.{Row}
use Rattle.dns_keeper.specs.declared.batch_row.BatchRow.{BatchRow}
use Rattle.dns_keeper.specs.Batches.{are_alike, begun_with, runs_of, goes_on, counted_up, grown}

-- a row in front changes nothing at the end
front_grown : (joins : Bool) (s t r : Row) (rows : List Row) (b : BatchRow) (batches : List BatchRow)
    → begun_with s (t ∷ rows ++ r ∷ []) (grown joins r.id (b ∷ batches)) ≡ grown joins r.id (begun_with s (t ∷ rows) (b ∷ batches))
front_grown true s t r rows b [] = elim (cases_Bool (are_alike s t)) [ inl like ↦ rw like refl | inr other ↦ rw other refl ]
front_grown true s t r rows b (c ∷ batches) = elim (cases_Bool (are_alike s t)) [ inl like ↦ rw like refl | inr other ↦ rw other refl ]
front_grown false s t r rows b batches = elim (cases_Bool (are_alike s t)) [ inl like ↦ rw like refl | inr other ↦ rw other refl ]

begun_some : (t : Row) (rows : List Row) (batches : List BatchRow) → (b : BatchRow) × (more : List BatchRow) × (begun_with t rows batches ≡ b ∷ more)
begun_some t [] [] = (record { first = t.id; count = pos 1 }, [], refl)
begun_some t (s ∷ rows) [] = (record { first = t.id; count = pos 1 }, [], refl)
begun_some t [] (b ∷ batches) = (record { first = t.id; count = pos 1 }, [], refl)
begun_some t (s ∷ rows) (b ∷ batches) = elim (cases_Bool (are_alike t s)) [
  | inl like ↦ (record { first = t.id; count = b.count +ℤ pos 1 }, batches, rw like refl)
  | inr other ↦ (record { first = t.id; count = pos 1 }, b ∷ batches, rw other refl)
]

pub runs_grow : (rows : List Row) (r : Row) → runs_of (rows ++ r ∷ []) ≡ grown (goes_on rows r) r.id (runs_of rows)
runs_grow [] r = refl
runs_grow (s ∷ []) r = elim (cases_Bool (are_alike s r)) [ inl like ↦ rw like refl | inr other ↦ rw other refl ]
runs_grow (s ∷ t ∷ rows) r =
    let later = runs_grow (t ∷ rows) r in
    let some = begun_some t rows (runs_of rows) in
    let all : runs_of (t ∷ rows) ≡ some.0 ∷ some.1 = some.2 in
    let joins = goes_on (t ∷ rows) r in
    ap (begun_with s (t ∷ rows ++ r ∷ [])) later ∙ ap (λ bs. begun_with s (t ∷ rows ++ r ∷ []) (grown joins r.id bs)) all ∙ front_grown joins s t r rows some.0 some.1 ∙ ap (λ bs. grown joins r.id (begun_with s (t ∷ rows) bs)) (sym all)

-- a row that comes behind others is the last of them
pub goes_on-more : (rows : List Row) (r s : Row) → goes_on (rows ++ r ∷ []) s ≡ are_alike r s
goes_on-more [] r s = refl
goes_on-more (x ∷ []) r s = refl
goes_on-more (x ∷ y ∷ rows) r s = goes_on-more (y ∷ rows) r s

pub counted_last : (batches : List BatchRow) (b : BatchRow) → counted_up (batches ++ b ∷ []) ≡ batches ++ record { first = b.first; count = b.count +ℤ pos 1 } ∷ []
counted_last [] b = refl
counted_last (c ∷ []) b = refl
counted_last (c ∷ d ∷ batches) b = ap (λ bs. c ∷ bs) (counted_last (d ∷ batches) b)
