-- What the query shows.
use Rattle.std.proofs.Common.{codes, ◌≡◌, ◌++◌, inl, inr, ℕ, ℤ, List, [], ◌∷◌, map, filter, flat_map, take, Bool, true, false, if◌then◌else◌, Option, Some, None, refl, sym, ap, subst, ◌∙◌}
use Rattle.std.proofs.lemmas.Bool.{cases_Bool}
use Rattle.std.specs.List.{list_all}
use Rattle.std.specs.List.Sorted.{IsPermutation, IsSorted}
use Rattle.sqlite.specs.declared.types.Value.TheVariants.{Null, Int}
use Rattle.sqlite.specs.Order.{Row}
use Rattle.sqlite.specs.Term.{Env, holds}
use Rattle.sqlite.specs.Query.{IsAnswer, output, Output}
use Rattle.sqlite.specs.Program.{overlay}
use Rattle.sqlite.specs.State.{State, Shown, ShowsRows, Begins, IsUnchanged}
use Rattle.sqlite.specs.Listing.{understood, reads_listing}
use Rattle.sqlite.specs.Schema.{Schema}
use Rattle.sqlite.specs.Command.TheVariants.{Select}
use Rattle.sqlite.specs.Clock.{timed}
use Rattle.sqlite_schema.specs.declared.command.Returning.{Returning}
use Rattle.sqlite.proofs.Callers.{IsPlain, EndsIn, command_of, reads_as, begins_shown}
use Rattle.sqlite.proofs.StateLemmas.{unchanged}
use Rattle.dns_sqlite.specs.Tables.{row_schema, batch_schema, seen, not_below, by_key, HasRow, HasRows}
use Rattle.std.proofs.Common.{length, get_or, ◌<◌, zero, suc, arith, Less, Equal, Greater, Ordering}
use Rattle.std.specs.List.{AllByRecursion, Contains}
use Rattle.std.specs.Ordering.{is_lt, is_ge, ordering_then, int_cmp}
use Rattle.std.specs.Cmp.{IsStrictWeakOrder}
use Rattle.std.proofs.lemmas.List.Sorted.{ranks_by, sorted_far, length_permutation, Contains-permutation, IsPermutation-sym}
use Rattle.sqlite.specs.Collation.TheVariants.{Binary}
use Rattle.sqlite.specs.Order.{value_cmp}
use Rattle.sqlite.specs.Ops.{binary, is_true, from_truth}
use Rattle.sqlite.specs.Tree.{rowid, IsTable}
use Rattle.sqlite_trees.specs.declared.store.Shape.TheVariants as shape
use Rattle.sqlite_trees.proofs.TreeLemmas.{IsShaped-filter}
use Rattle.sqlite_value.proofs.OrderLemmas.{value_cmp-Int}
use Rattle.sqlite_sql.proofs.QueryLemmas.{key_cmp_total}
use Rattle.dns_sqlite.proofs.Rows.{AreKeyed}
use Rattle.dns_sqlite.specs.Statements.{HasRecords}
use Rattle.dns_sqlite.proofs.Texts.{from_text, query, from_is, from_plain}
use Rattle.dns_sqlite.proofs.BatchTexts.{from_is2, from_plain2}

abbrev row_names : List (List ℕ)
row_names = codes "id" ∷ codes "client_id" ∷ codes "soa_serial" ∷ codes "timestamp" ∷ codes "record" ∷ []

abbrev keeps : ℤ → Row → List Env
keeps id r = if list_all (holds ((Int id ∷ []) ∷ r ∷ [])) query.filter then ((Int id ∷ []) ∷ r ∷ []) ∷ [] else []

staged_is : (id : ℤ) (rows : List Row) → map (output query) (flat_map (keeps id) rows) ≡ map seen (filter (not_below id) rows)
staged_is id [] = refl
staged_is id (r ∷ rows) = elim (cases_Bool (not_below id r)) [
  | inl there ↦ rw there (ap (λ (xs : List Output). seen r ∷ xs) (staged_is id rows))
  | inr away ↦ rw away (staged_is id rows)
]

module _ (schema : Schema) (is : command_of (understood schema from_text) ≡ Select (record { lets = []; body = query }) row_names) (unlisted : reads_listing schema from_text ≡ false) (plain : IsPlain (understood schema from_text))
    (old new : State) (id : ℤ) (rows : List Row) (has : old.now.schema ≡ schema) where
  finds_in : Shown from_text (Int id ∷ []) old new rows → HasRows 128 id (old.now.trees 1) rows
  finds_in h =
      let got = reads_as from_text (Int id ∷ []) old new schema has _ is plain unlisted rows h in
      let a : IsAnswer query (overlay old.now.trees []) (Int id ∷ []) rows = got.answer Null in
      let kept : a.kept ≡ map seen (filter (not_below id) (old.now.trees 1)) = a.distinct ∙ ap (map (output query)) a.grouped ∙ staged_is id (old.now.trees 1) in
      (a.ordered, subst (λ k. IsPermutation k a.ordered) kept a.same, a.sorted, a.shown)

  begins_in : old.is_open ≡ true → Begins from_text (Int id ∷ []) old rows → (tail : List Row) × Shown from_text (Int id ∷ []) old old (rows ++ tail)
  begins_in live h =
      begins_shown from_text (Int id ∷ []) old old rows h (unchanged old live) (λ c db it source.
      let known = ap (λ k. understood k from_text) (sym has) ∙ it.is in
      let selects = sym (ap command_of known) ∙ is in
      subst (λ k. EndsIn k db (timed (Int id ∷ []) c.formats it.now)) (sym selects) tt)

  same_in : Shown from_text (Int id ∷ []) old new rows → IsUnchanged old new
  unfolding Shown
  same_in h =
      let known = sym h.1.is ∙ ap (λ s. understood s from_text) has in
      let bare = subst IsPlain (sym known) plain in
      let P : Option Returning → Type 0 = ShowsRows old new from_text h.0 (timed (Int id ∷ []) h.0.formats h.1.now) rows in
      let it : P None = subst P bare.0 h.2 in
      it.3

pub finds : (old new : State) (id : ℤ) (rows : List Row) → HasRecords old.now → Shown from_text (Int id ∷ []) old new rows → HasRows 128 id (old.now.trees 1) rows
finds old new id rows (inl one) h = finds_in row_schema from_is.0 from_is.1 from_plain old new id rows one h
finds old new id rows (inr two) h = finds_in batch_schema from_is2.0 from_is2.1 from_plain2 old new id rows two h

-- the rows that the query has given so far begin those that it finds
pub begins : (s : State) (id : ℤ) (rows : List Row) → HasRecords s.now → s.is_open ≡ true → Begins from_text (Int id ∷ []) s rows → (tail : List Row) × HasRows 128 id (s.now.trees 1) (rows ++ tail)
begins s id rows (inl one) live h = let more = begins_in row_schema from_is.0 from_is.1 from_plain s s id rows one live h in (more.0, finds s s id (rows ++ more.0) (inl one) more.1)
begins s id rows (inr two) live h = let more = begins_in batch_schema from_is2.0 from_is2.1 from_plain2 s s id rows two live h in (more.0, finds s s id (rows ++ more.0) (inr two) more.1)

-- and it changes nothing
pub same : (old new : State) (id : ℤ) (rows : List Row) → HasRecords old.now → Shown from_text (Int id ∷ []) old new rows → IsUnchanged old new
same old new id rows (inl one) h = same_in row_schema from_is.0 from_is.1 from_plain old new id rows one h
same old new id rows (inr two) h = same_in batch_schema from_is2.0 from_is2.1 from_plain2 old new id rows two h

-- ---- the first of rows by ascending id

abbrev pub lt : Row × Row → Row × Row → Bool
lt x y = is_lt (by_key x y)

pub weak : IsStrictWeakOrder lt
weak = ranks_by (key_cmp_total ((record { collation = Binary; descending = false }) ∷ []) 0) (λ (o : Row × Row). o.0)

pub is_lt_then : (o : Ordering) → is_lt (ordering_then o Equal) ≡ is_lt o
is_lt_then Less = refl
is_lt_then Equal = refl
is_lt_then Greater = refl

lt_seen : (r s : Row) → lt (seen r) (seen s) ≡ is_lt (value_cmp (rowid r) (rowid s))
lt_seen r s = is_lt_then (value_cmp (rowid r) (rowid s))

not_less : (o : Row × Row) (os : List (Row × Row)) → IsSorted by_key (o ∷ os) → (x : Row × Row) → Contains (o ∷ os) x → lt x o ≡ false
not_less o os up x c = subst (λ y. lt y o ≡ false) c.2 (sorted_far lt weak (o ∷ os) up 0 c.0 x (omega arith) c.1)

all_at : {X : Type 0} (P : X → Type 0) (xs : List X) → AllByRecursion P xs → (k : ℕ) → k < length xs → (d : X) → P (get_or xs k d)
all_at P [] all k low d = absurd (omega arith)
all_at P (x ∷ xs) all zero low d = all.0
all_at P (x ∷ xs) all (suc k) low d = all_at P xs all.1 k (omega arith) d

one_of : (f : Row × Row) (fs : List (Row × Row)) (o : Row × Row) → AllByRecursion (λ x. lt f x ≡ true) fs → lt f o ≡ false → (k : ℕ) → k < length (f ∷ fs) → get_or (f ∷ fs) k o ≡ o → o ≡ f
one_of f fs o low none zero within e = sym e
one_of f fs o low none (suc k) within e = absurd (let yes : lt f o ≡ true = subst (λ y. lt f y ≡ true) e (all_at (λ x. lt f x ≡ true) fs low k (omega arith) o) in let it : true ≡ false = sym yes ∙ none in cc)

pub head_is : (f : Row × Row) (fs ordered : List (Row × Row)) → AllByRecursion (λ x. lt f x ≡ true) fs → IsPermutation (f ∷ fs) ordered → IsSorted by_key ordered → take 1 ordered ≡ f ∷ []
head_is f fs [] low same up = absurd (omega (arith, length_permutation (f ∷ fs) [] same))
head_is f fs (o ∷ os) low same up =
    let f_in = Contains-permutation (f ∷ fs) (o ∷ os) f same (0, omega arith, refl) in
    let o_in = Contains-permutation (o ∷ os) (f ∷ fs) o (IsPermutation-sym (f ∷ fs) (o ∷ os) same) (0, omega arith, refl) in
    ap (λ x. x ∷ []) (one_of f fs o low (not_less o os up f f_in) o_in.0 o_in.1 o_in.2)

below_all : (r : Row) (rs : List Row) → AllByRecursion (λ s. value_cmp (rowid r) (rowid s) ≡ Less) rs → AllByRecursion (λ x. lt (seen r) x ≡ true) (map seen rs)
below_all r [] all = tt
below_all r (s ∷ rs) all = (lt_seen r s ∙ ap is_lt all.0, below_all r rs all.1)

pub take_one : (ordered : List (Row × Row)) → take 1 (map (λ (o : Row × Row). o.1) ordered) ≡ map (λ (o : Row × Row). o.1) (take 1 ordered)
take_one [] = refl
take_one (o ∷ os) = refl

first_of : (rows : List Row) (ordered : List (Row × Row)) → IsTable rows → IsPermutation (map seen rows) ordered → IsSorted by_key ordered
    → take 1 (map (λ (o : Row × Row). o.1) ordered) ≡ map (λ r. (seen r).1) (take 1 rows)
first_of [] [] up same sorted = refl
first_of [] (o ∷ os) up same sorted = absurd (omega (arith, length_permutation {X = Row × Row} [] (o ∷ os) same))
first_of (r ∷ rs) ordered up same sorted = take_one ordered ∙ ap (map (λ (o : Row × Row). o.1)) (head_is (seen r) (map seen rs) ordered (below_all r rs up.0) same sorted)

-- the row that is found is the first that is not below, as a query shows it
pub first_is : (id : ℤ) (rows found : List Row) → AreKeyed rows → HasRow id rows found → found ≡ map (λ r. (seen r).1) (take 1 (filter (not_below id) rows))
first_is id rows found keyed h =
    h.3 ∙ first_of (filter (not_below id) rows) h.0 (IsShaped-filter shape.Table (not_below id) rows (keyed.table, keyed.ints)).0 h.1 h.2

pub is_true_of : (b : Bool) → is_true (from_truth (Some b)) ≡ b
is_true_of true = refl
is_true_of false = refl

pub not_below_is : (id x : ℤ) (r : Row) → rowid r ≡ Int x → not_below id r ≡ is_ge (int_cmp x id)
unfolding binary
not_below_is id x r e = rw e (is_true_of (is_ge (value_cmp (Int x) (Int id))) ∙ ap is_ge (value_cmp-Int x id))
