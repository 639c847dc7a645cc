-- What the query for batches shows.
use Rattle.std.proofs.Common.{◌≡◌, inl, inr, ◌<ℤ◌, ◌≤ℤ◌, ◌<◌, ◌≤◌, ℕ, suc, ℤ, List, [], ◌∷◌, ◌++◌, append_assoc, append-nil, length, map, filter, flat_map, take, drop, Bool, true, false, if◌then◌else◌, Less, refl, sym, ap, subst, ◌∙◌, arith}
use Rattle.std.proofs.lemmas.List.{take-append-drop, take-map}
use Rattle.std.proofs.lemmas.List.Kept.{IsSortedBy-filter}
use Rattle.std.proofs.lemmas.Bool.{cases_Bool}
use Rattle.std.proofs.lemmas.Int.{ints}
use Rattle.std.proofs.lemmas.Bool.Decides.{nat_tests}
use Rattle.std.specs.List.{list_all, AllByRecursion}
use Rattle.std.specs.List.Sorted.{IsPermutation, IsSorted, IsSortedBy}
use Rattle.sqlite_trees.proofs.ListLemmas.{filter_all, IsPermutation-filter}
use Rattle.std.specs.Ordering.{is_lt}
use Rattle.std.specs.Int.Signed.{le_z}
use Rattle.std.proofs.lemmas.List.Sorted.{length_permutation}
use Rattle.sqlite.specs.declared.types.Value.TheVariants.{Null, Int}
use Rattle.sqlite.specs.Order.{Row, value_cmp, column}
use Rattle.sqlite.specs.Tree.{rowid}
use Rattle.sqlite.specs.Term.{Env, holds}
use Rattle.sqlite.specs.Query.{IsAnswer, output, Output}
use Rattle.sqlite.specs.Program.{overlay}
use Rattle.sqlite.specs.State.{State, Shown}
use Rattle.sqlite.proofs.Callers.{reads_as}
use Rattle.sqlite_value.proofs.OrderLemmas.{value_cmp-Int}
use Rattle.dns_keeper.specs.declared.batch_row.BatchRow.{BatchRow}
use Rattle.dns_keeper.specs.Batches.{AreByFirst}
use Rattle.dns_keeper.proofs.Ascends.{AscendAbove, ascends}
use Rattle.dns_sqlite.specs.Tables.{batch_schema, batch_text, batch_seen, stored_batch, not_below, by_key, HasBatchesFrom, shown_batch}
use Rattle.dns_sqlite.specs.Reads.{batches_from, AreFrontOf}
use Rattle.dns_sqlite.proofs.BatchTexts.{batches_query, batches_from_is, batches_from_plain}
use Rattle.dns_sqlite.proofs.Finds.{lt, weak, is_lt_then, head_is, not_below_is}

abbrev keeps : ℤ → Row → List Env
keeps id r = if list_all (holds ((Int id ∷ []) ∷ r ∷ [])) batches_query.filter then ((Int id ∷ []) ∷ r ∷ []) ∷ [] else []

staged_is : (id : ℤ) (rows : List Row) → map (output batches_query) (flat_map (keeps id) rows) ≡ map batch_seen (filter (not_below id) rows)
staged_is id [] = refl
staged_is id (r ∷ rows) = elim (cases_Bool (not_below id r)) [
  | inl there ↦ rw there (ap (λ (xs : List Output). batch_seen r ∷ xs) (staged_is id rows))
  | inr away ↦ rw away (staged_is id rows)
]

pub finds_batches : (old new : State) (id : ℤ) (rows : List Row) → old.now.schema ≡ batch_schema → Shown batch_text (Int id ∷ []) old new rows → HasBatchesFrom id (old.now.trees 2) rows
finds_batches old new id rows has h =
    let got = reads_as batch_text (Int id ∷ []) old new batch_schema has _ batches_from_is.0 batches_from_plain batches_from_is.1 rows h in
    let a : IsAnswer batches_query (overlay old.now.trees []) (Int id ∷ []) rows = got.answer Null in
    let kept : a.kept ≡ map batch_seen (filter (not_below id) (old.now.trees 2)) = a.distinct ∙ ap (map (output batches_query)) a.grouped ∙ staged_is id (old.now.trees 2) in
    (a.ordered, subst (λ k. IsPermutation k a.ordered) kept a.same, a.sorted, a.shown)

-- ---- of batches with ascending firsts it is those that are not below, in that order

lt_seen : (r s : Row) → lt (batch_seen r) (batch_seen s) ≡ is_lt (value_cmp (rowid r) (rowid s))
lt_seen r s = is_lt_then (value_cmp (rowid r) (rowid s))

below_all : (b : BatchRow) (low : ℤ) (batches : List BatchRow) (id : ℤ) → AllByRecursion (λ (c : BatchRow). value_cmp (Int b.first) (Int c.first) ≡ Less) batches
    → AllByRecursion (λ x. lt (batch_seen (stored_batch b)) x ≡ true) (map batch_seen (map stored_batch batches))
below_all b low [] id all = tt
below_all b low (c ∷ batches) id all = (lt_seen (stored_batch b) (stored_batch c) ∙ ap is_lt all.0, below_all b low batches id all.1)

-- all that come behind are above
all_above : (low high : ℤ) (batches : List BatchRow) → low ≤ℤ high → AscendAbove high batches → AllByRecursion (λ (c : BatchRow). value_cmp (Int low) (Int c.first) ≡ Less) batches
all_above low high [] le up = tt
all_above low high (c ∷ batches) le up =
    let lower : low <ℤ c.first = omega (arith, ints, le, up.0) in
    (value_cmp-Int low c.first ∙ grind (arith, ints, nat_tests), all_above low c.first batches (omega (arith, ints, lower)) up.1)

-- from the first that is not below on, none is below
none_below : (id high : ℤ) (batches : List BatchRow) → id ≤ℤ high → AscendAbove high batches → filter (not_below id) (map stored_batch batches) ≡ map stored_batch batches
none_below id high [] le up = refl
none_below id high (c ∷ batches) le up =
    let at : not_below id (stored_batch c) ≡ true = not_below_is id c.first (stored_batch c) refl ∙ grind (arith, ints, nat_tests, le, up.0) in
    rw (at, none_below id c.first batches (omega (arith, ints, le, up.0)) up.1) refl

-- those that the query finds
found_from : (id low : ℤ) (batches : List BatchRow) → AscendAbove low batches → filter (not_below id) (map stored_batch batches) ≡ map stored_batch (batches_from id batches)
found_from id low [] up = refl
found_from id low (b ∷ batches) up = elim (cases_Bool (le_z id b.first)) [
  | inl there ↦
      let le : id ≤ℤ b.first = grind (arith, ints, nat_tests) in
      let at : not_below id (stored_batch b) ≡ true = not_below_is id b.first (stored_batch b) refl ∙ grind (arith, ints, nat_tests, le) in
      rw (there, at) (ap (λ xs. stored_batch b ∷ xs) (none_below id b.first batches le up.1))
  | inr away ↦
      let at : not_below id (stored_batch b) ≡ false = not_below_is id b.first (stored_batch b) refl ∙ grind (arith, ints, nat_tests) in
      rw (away, at) (found_from id b.first batches up.1)
]

from_ascends : (id low : ℤ) (batches : List BatchRow) → AscendAbove low batches → (above : ℤ) × AscendAbove above (batches_from id batches)
from_ascends id low [] up = (low, tt)
from_ascends id low (b ∷ batches) up = elim (cases_Bool (le_z id b.first)) [
  | inl there ↦ rw there (low, up)
  | inr away ↦ rw away (from_ascends id b.first batches up.1)
]

-- ---- what ascends is what its elements come to in order

-- each is less than all behind it
abbrev AscendWholly : List (Row × Row) → Type 0
AscendWholly [] = Unit {0}
AscendWholly (f ∷ fs) = AllByRecursion (λ x. lt f x ≡ true) fs × AscendWholly fs

wholly : (low : ℤ) (batches : List BatchRow) → AscendAbove low batches → AscendWholly (map batch_seen (map stored_batch batches))
wholly low [] up = tt
wholly low (b ∷ batches) up = (below_all b low batches low (all_above b.first b.first batches (omega (arith, ints)) up.1), wholly b.first batches up.1)

not_itself : (x : Row × Row) → lt x x ≡ false
not_itself x = elim (cases_Bool (lt x x)) [ inl its ↦ weak.one_way x x its | inr other ↦ other ]

fewer : {X : Type 0} (p : X → Bool) (xs : List X) → length (filter p xs) ≤ length xs
fewer p [] = omega arith
fewer p (x ∷ xs) = elim (cases_Bool (p x)) [ inl passes ↦ rw passes (omega (arith, fewer p xs)) | inr fails ↦ rw fails (omega (arith, fewer p xs)) ]

keeps_all : {X : Type 0} (p : X → Bool) (xs : List X) → length (filter p xs) ≡ length xs → filter p xs ≡ xs
keeps_all p [] e = refl
keeps_all p (x ∷ xs) e = elim (cases_Bool (p x)) [
  | inl passes ↦
      let it : suc (length (filter p xs)) ≡ suc (length xs) = rw passes at e in
      let more : length (filter p xs) ≡ length xs = cc in
      rw passes (ap (λ ys. x ∷ ys) (keeps_all p xs more))
  | inr fails ↦ absurd (let it : length (filter p xs) ≡ suc (length xs) = rw fails at e in omega (arith, it, fewer p xs))
]

in_order : (fs ordered : List (Row × Row)) → AscendWholly fs → IsPermutation fs ordered → IsSorted by_key ordered → ordered ≡ fs
in_order [] [] up same sorted = refl
in_order [] (o ∷ os) up same sorted = absurd (omega (arith, length_permutation {X = Row × Row} [] (o ∷ os) same))
in_order (f ∷ fs) [] up same sorted = absurd (omega (arith, length_permutation (f ∷ fs) [] same))
in_order (f ∷ fs) (o ∷ os) up same sorted =
    let head : o ∷ [] ≡ f ∷ [] = head_is f fs (o ∷ os) up.0 same sorted in
    let is : o ≡ f = cc in
    let front : filter (lt f) (f ∷ fs) ≡ fs = rw (not_itself f) (filter_all (lt f) fs up.0) in
    let behind : filter (lt f) (o ∷ os) ≡ filter (lt f) os = rw (is, not_itself f) refl in
    let moved : IsPermutation fs (filter (lt f) os) = subst (λ xs. IsPermutation xs (filter (lt f) os)) front (subst (IsPermutation (filter (lt f) (f ∷ fs))) behind (IsPermutation-filter (lt f) (f ∷ fs) (o ∷ os) same)) in
    let whole : filter (lt f) os ≡ os = keeps_all (lt f) os (omega (arith, length_permutation fs (filter (lt f) os) moved, length_permutation (f ∷ fs) (o ∷ os) same)) in
    let more = in_order fs os up.1 (subst (IsPermutation fs) whole moved) (subst (IsSortedBy lt) (behind ∙ whole) (IsSortedBy-filter lt weak (lt f) (o ∷ os) sorted)) in
    ap (λ x. x ∷ os) is ∙ ap (λ xs. f ∷ xs) more

-- ---- what the query shows

shown_are : (batches : List BatchRow) → map (λ (o : Row × Row). o.1) (map batch_seen (map stored_batch batches)) ≡ map shown_batch batches
shown_are [] = refl
shown_are (b ∷ batches) = ap (λ xs. shown_batch b ∷ xs) (shown_are batches)

pub batches_are : (id : ℤ) (batches : List BatchRow) (found : List Row) → AreByFirst batches → HasBatchesFrom id (map stored_batch batches) found → found ≡ map shown_batch (take 128 (batches_from id batches))
batches_are id batches found up h =
    let low = ascends batches up in
    let all = batches_from id batches in
    let is = found_from id low.0 batches low.1 in
    let above = from_ascends id low.0 batches low.1 in
    let same : IsPermutation (map batch_seen (map stored_batch all)) h.0 = subst (λ rows. IsPermutation (map batch_seen rows) h.0) is h.1 in
    let ordered : h.0 ≡ map batch_seen (map stored_batch all) = in_order _ h.0 (wholly above.0 all above.1) same h.2 in
    h.3 ∙ ap (λ (os : List (Row × Row)). take 128 (map (λ (o : Row × Row). o.1) os)) ordered ∙ ap (take 128) (shown_are all) ∙ take-map shown_batch 128 all

-- the front of some of the first is the front of all
pub front_of_all : (front all : List BatchRow) → AreFrontOf front (take 128 all) → AreFrontOf front all
front_of_all [] [] is = refl
front_of_all [] (b ∷ all) is = absurd (cc)
front_of_all (b ∷ front) all is = (is.0 ++ drop 128 all, sym (take-append-drop 128 all) ∙ ap (λ xs. xs ++ drop 128 all) is.1 ∙ append_assoc (b ∷ front) is.0 (drop 128 all))

-- ---- one row of it

pub same_batch : (shown : Row) (b c : BatchRow) → shown ≡ shown_batch c → (column shown 0 ≡ Int b.first) × (column shown 1 ≡ Int b.count) → b ≡ c
same_batch shown b c is reads =
    let one : Int c.first ≡ Int b.first = ap (λ r. column r 0) (sym is) ∙ reads.0 in
    let two : Int c.count ≡ Int b.count = ap (λ r. column r 1) (sym is) ∙ reads.1 in
    let first : b.first ≡ c.first = cc in
    let count : b.count ≡ c.count = cc in
    let it : ◌≡◌ {A = BatchRow} (record { first = b.first; count = b.count }) (record { first = c.first; count = c.count }) = rw (first, count) refl in
    it

-- the batches that were taken of some rows are a front of those that the rows show
pub front_at : (taken found : List BatchRow) (count : ℕ) → taken ≡ take count found → 0 < length taken → AreFrontOf taken found
front_at [] found count is some = absurd (omega (arith, some))
front_at (b ∷ taken) found count is some = (drop count found, sym (take-append-drop count found) ∙ ap (λ xs. xs ++ drop count found) (sym is))

pub front_whole : (found : List BatchRow) → AreFrontOf found found
front_whole [] = refl
front_whole (b ∷ found) = ([], sym (append-nil (b ∷ found)))
