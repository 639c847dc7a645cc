-- Rows that are read one by one, to be fed.
use Rattle.std.proofs.Common.{◌≡◌, ◌≤◌, ◌<◌, ◌+◌, ◌-◌, ◌+ℤ◌, ℕ, ℤ, pos, nat_le, List, [], ◌∷◌, ◌++◌, length, Bool, true, false, Option, Some, None, refl, sym, ap, ◌∙◌, subst, arith, append_assoc, length-append}
use Rattle.std.specs.Prelude.{IfSome, if◌then◌else◌}
use Rattle.std.specs.Option.{option_or}
use Rattle.std.specs.Ordering.{int_eq}
use Rattle.std.proofs.lemmas.Int.{ints}
use Rattle.std.proofs.lemmas.List.{append-nil, drop-append-le, drop_all}
use Rattle.std.proofs.lemmas.Option.{same_Some}
use Rattle.std.proofs.lemmas.Bool.Decides.{nat_tests}
use Rattle.dns_io.specs.Told.{Keeps}
use Rattle.dns_keeper.specs.declared.row.Row.{Row}
use Rattle.dns_keeper.specs.declared.batch_row.BatchRow.{BatchRow}
use Rattle.dns_keeper.specs.Rows.{first_of, first_from, AreAscending}
use Rattle.dns_keeper.specs.Batches.{AreNumbered, Covers, uncovered}
use Rattle.dns_keeper.specs.RunsSoFar.{RunsSoFar, AreRunsOf}
use Rattle.dns_keeper.specs.Keeping.{KeeperTold}
use Rattle.dns_keeper.proofs.Covering.{covering}
use Rattle.dns_store.specs.Recovering.{IsFirstFrom}
use Rattle.dns_store.proofs.ReadRows.{first_behind}
use Rattle.dns_follow.specs.Feeding.{misnumbered, unfit_in, unfit, out_of_place, rows_from}
use Rattle.dns_follow.specs.Scanning.{IsScanned, GoesOn, IsScannedUpTo}

-- ---- rows with one more

-- ids go on
pub numbered_more : (e : ℤ) (rows : List Row) (row : Row) → AreNumbered e rows → row.id ≡ e +ℤ pos (length rows) → AreNumbered e (rows ++ row ∷ [])
numbered_more e [] row h is = (is ∙ omega (arith, ints), tt)
numbered_more e (r ∷ rows) row h is =
    let next : row.id ≡ (e +ℤ pos 1) +ℤ pos (length rows) = omega (arith, ints) in
    (h.0, numbered_more (e +ℤ pos 1) rows row h.1 next)

-- the first row whose id does not is misnumbered, whatever comes behind
pub misnumbered_at : (e : ℤ) (front : List Row) (row : Row) (rest : List Row) (place : ℤ) → AreNumbered e front → place ≡ e +ℤ pos (length front) → int_eq row.id place ≡ false
    → misnumbered e (front ++ row ∷ rest) ≡ Some place
misnumbered_at e [] row rest place h is wrong =
    let here : place ≡ e = omega (arith, ints) in
    let test : int_eq row.id e ≡ false = ap (int_eq row.id) (sym here) ∙ wrong in
    rw test (ap (λ (z : ℤ). Some z) (sym here))
misnumbered_at e (r ∷ front) row rest place h is wrong =
    let test : int_eq r.id e ≡ true = same_id r.id e h.0 in
    let next : place ≡ (e +ℤ pos 1) +ℤ pos (length front) = omega (arith, ints) in
    rw test (misnumbered_at (e +ℤ pos 1) front row rest place h.1 next wrong)
  where
    same_id : (a b : ℤ) → a ≡ b → int_eq a b ≡ true
    same_id a b is = grind arith

-- none is where they all do
pub numbered_all : (e : ℤ) (rows : List Row) → AreNumbered e rows → misnumbered e rows ≡ None
numbered_all e [] h = refl
numbered_all e (r ∷ rows) h =
    let test : int_eq r.id e ≡ true = same_id r.id e h.0 in
    rw test (numbered_all (e +ℤ pos 1) rows h.1)
  where
    same_id : (a b : ℤ) → a ≡ b → int_eq a b ≡ true
    same_id a b is = grind arith

option_or-assoc : (a b c : Option ℤ) → option_or (option_or a b) c ≡ option_or a (option_or b c)
option_or-assoc None b c = refl
option_or-assoc (Some x) b c = refl

option_or-none : (a : Option ℤ) → option_or a None ≡ a
option_or-none None = refl
option_or-none (Some x) = refl

-- the first unfit row is that of the front, or the next one
pub unfit_more : (rows : List Row) (row : Row) → unfit (rows ++ row ∷ []) ≡ option_or (unfit rows) (unfit_in row)
unfit_more [] row = option_or-none (unfit_in row)
unfit_more (r ∷ rows) row = ap (option_or (unfit_in r)) (unfit_more rows row) ∙ sym (option_or-assoc (unfit_in r) (unfit rows) (unfit_in row))

-- the rows from an id on
pub from_more : (from place : ℕ) (rows : List Row) (row : Row) (is_asked : Bool) → 1 ≤ from → length rows + 1 ≡ place → is_asked ≡ nat_le from place
    → (if is_asked then rows_from from rows ++ row ∷ [] else rows_from from rows) ≡ rows_from from (rows ++ row ∷ [])
from_more from place rows row true some size asked =
    let low : from ≤ place = grind (arith, nat_tests) in
    let within : from - 1 ≤ length rows = omega arith in
    sym (drop-append-le (from - 1) rows (row ∷ []) within)
from_more from place rows row false some size asked =
    let high : place < from = grind (arith, nat_tests) in
    let long : length (rows ++ row ∷ []) ≤ from - 1 = omega (arith, length-append rows (row ∷ [])) in
    let short : length rows ≤ from - 1 = omega arith in
    drop_all (from - 1) rows short ∙ sym (drop_all (from - 1) (rows ++ row ∷ []) long)

-- ---- how far rows were read

goes_more : (front : List Row) (row : Row) (found : Option Row) (rows rest : List Row) → rows ≡ front ++ rest → Some row ≡ first_of rest → IsFirstFrom (row.id +ℤ pos 1) found rows
    → GoesOn (front ++ row ∷ []) found rows
goes_more front row found rows [] parts next first = absurd (let none = next in cc)
goes_more front row found rows (r ∷ rest) parts next first =
    let same : row ≡ r = same_Some _ _ next in
    let all : rows ≡ front ++ row ∷ rest = parts ∙ ap (λ (one : Row). front ++ one ∷ rest) (sym same) in
    record {
      rest = rest;
      parts = all ∙ sym (append_assoc front (row ∷ []) rest);
      follows = first.is ∙ ap (first_from (row.id +ℤ pos 1)) all ∙ first_behind front row rest (subst AreAscending all first.ascending);
      ascending = first.ascending;
    }

goes_by : (front : List Row) (row : Row) (found : Option Row) (before now : Option (List Row)) → Keeps before now → IfSome before (GoesOn front (Some row))
    → IfSome now (IsFirstFrom (row.id +ℤ pos 1) found) → IfSome now (GoesOn (front ++ row ∷ []) found)
goes_by front row found before None kept goes first = tt
goes_by front row found None (Some rows) kept goes first = absurd kept
goes_by front row found (Some old) (Some rows) kept goes first = goes_more front row found rows goes.rest (kept ∙ goes.parts) goes.follows first

pub scan_goes_on : (from : ℕ) (runs more : RunsSoFar) (kept longer : List Row) (wrong later : Option ℤ) (place : ℕ) (is_asked : Bool) (row : Row) (found : Option Row) (before now : Option (List Row))
    → 1 ≤ from → IsScannedUpTo from runs kept wrong place (Some row) before → Keeps before now → row.id ≡ pos place → ((taken : List Row) → AreRunsOf taken runs → AreRunsOf (taken ++ row ∷ []) more)
    → later ≡ option_or wrong (unfit_in row) → is_asked ≡ nat_le from place → longer ≡ (if is_asked then kept ++ row ∷ [] else kept) → IfSome now (IsFirstFrom (row.id +ℤ pos 1) found)
    → IsScannedUpTo from more longer later (place + 1) found now
scan_goes_on from runs more kept longer wrong later place is_asked row found before now some read keeps id counts wrong_is asked longer_is first =
    let front = read.front in
    let seen = read.seen in
    let number : length front + 1 ≡ place = read.number in
    let at : row.id ≡ pos 1 +ℤ pos (length front) = id ∙ ap pos (omega arith) in
    record {
      front = front ++ row ∷ [];
      seen = record {
        numbered = numbered_more (pos 1) front row seen.numbered at;
        counted = counts front seen.counted;
        from_on = longer_is ∙ ap (λ (l : List Row). if is_asked then l ++ row ∷ [] else l) seen.from_on ∙ from_more from place front row is_asked some number asked;
        unfit_is = wrong_is ∙ ap (λ (o : Option ℤ). option_or o (unfit_in row)) seen.unfit_is ∙ sym (unfit_more front row);
      };
      number = ap (λ (n : ℕ). n + 1) (length-append front (row ∷ []) ∙ number);
      goes = goes_by front row found before now keeps read.goes first;
    }

ends_at : (rows front rest : List Row) → rows ≡ front ++ rest → None ≡ first_of rest → rows ≡ front
ends_at rows front [] parts next = parts ∙ append-nil front
ends_at rows front (r ∷ rest) parts next = absurd (let none = next in cc)

ends_by : (front : List Row) (told : Option (List Row)) → IfSome told (GoesOn front None) → IfSome told (λ l. l ≡ front)
ends_by front None goes = tt
ends_by front (Some rows) goes = ends_at rows front goes.rest goes.parts goes.follows

pub scan_ends : (from : ℕ) (runs : RunsSoFar) (kept : List Row) (wrong : Option ℤ) (place : ℕ) (last : ℤ) (told : Option (List Row)) → IsScannedUpTo from runs kept wrong place None told
    → last +ℤ pos 1 ≡ pos place → IsScanned from runs kept last wrong told
scan_ends from runs kept wrong place last told read is =
    let number : length read.front + 1 ≡ place = read.number in
    record { rows = read.front; seen = read.seen; number = omega (arith, ints); are = ends_by read.front told read.goes }

-- ---- where a journal is out of place

-- the row of another id
stray_at : (rows front rest : List Row) (row : Row) (place : ℕ) → rows ≡ front ++ rest → Some row ≡ first_of rest → AreNumbered (pos 1) front → length front + 1 ≡ place → int_eq row.id (pos place) ≡ false
    → misnumbered (pos 1) rows ≡ Some (pos place)
stray_at rows front [] row place parts next numbered size wrong = absurd (let none = next in cc)
stray_at rows front (r ∷ rest) row place parts next numbered size wrong =
    let same : row ≡ r = same_Some _ _ next in
    let all : rows ≡ front ++ row ∷ rest = parts ∙ ap (λ (one : Row). front ++ one ∷ rest) (sym same) in
    let at : pos place ≡ pos 1 +ℤ pos (length front) = ap pos (omega arith) in
    ap (misnumbered (pos 1)) all ∙ misnumbered_at (pos 1) front row rest (pos place) numbered at wrong

pub scan_strays : (from : ℕ) (runs : RunsSoFar) (kept : List Row) (wrong : Option ℤ) (place : ℕ) (row : Row) (told : KeeperTold) → IsScannedUpTo from runs kept wrong place (Some row) told.rows
    → int_eq row.id (pos place) ≡ false → IfSome told.rows (λ rows. out_of_place rows told.batches ≡ Some (pos place))
scan_strays from runs kept wrong place row told read other = by told.rows read.goes
  where
    by : (told_rows : Option (List Row)) → IfSome told_rows (GoesOn read.front (Some row)) → IfSome told_rows (λ rows. out_of_place rows told.batches ≡ Some (pos place))
    by None goes = tt
    by (Some rows) goes =
        ap (λ (o : Option ℤ). option_or o (option_or (uncovered (pos 1) rows told.batches) (unfit rows)))
        (stray_at rows read.front goes.rest row place goes.parts goes.follows read.seen.numbered read.number other)

-- rows that are numbered are out of place where batches cease to cover them
pub uncovered_there : (rows : List Row) (batches : List BatchRow) (place : ℤ) → AreNumbered (pos 1) rows → uncovered (pos 1) rows batches ≡ Some place → out_of_place rows batches ≡ Some place
uncovered_there rows batches place numbered is = rw (numbered_all (pos 1) rows numbered, is) refl

-- and else where one is unfit
pub unfit_there : (rows : List Row) (batches : List BatchRow) (wrong : Option ℤ) → AreNumbered (pos 1) rows → Covers (pos 1) rows batches → wrong ≡ unfit rows → out_of_place rows batches ≡ wrong
unfit_there rows batches wrong numbered covers is = rw (numbered_all (pos 1) rows numbered, covering (pos 1) batches rows covers) (sym is)
