-- What the query of the version shows.
use Rattle.std.proofs.Common.{◌≡◌, ◌⊎◌, to_z, of_z, w64, inl, inr, ℤ, List, [], ◌∷◌, length, map, flat_map, codes, pos, Bool, true, false, if◌then◌else◌, ◌&&◌, is_some, Option, Some, None, refl, sym, ap, subst, ◌∙◌, arith}
use Rattle.std.specs.List.Sorted.{IsPermutation}
use Rattle.std.proofs.lemmas.List.Sorted.{length_permutation}
use Rattle.sqlite.specs.declared.types.Value.TheVariants.{Null, Int, Real, Text, Blob}
use Rattle.sqlite.specs.declared.types.Value.{Value}
use Rattle.std.specs.Ordering.{int_eq}
use Rattle.std.specs.Int.Signed.{le_z}
use Rattle.std.proofs.lemmas.Int.{ints}
use Rattle.std.proofs.lemmas.Bool.Decides.{nat_tests}
use Rattle.std.proofs.lemmas.Bool.{and_parts, cases_Bool}
use Rattle.sqlite.specs.Order.{Row, column}
use Rattle.sqlite.specs.Schema.{Schema}
use Rattle.sqlite.specs.Term.{Env}
use Rattle.sqlite.specs.Query.{IsAnswer, output, Output}
use Rattle.sqlite.specs.Program.{overlay}
use Rattle.sqlite.specs.Command.TheVariants.{Select}
use Rattle.sqlite.specs.State.{State, Shown, ShowsRows, IsUnchanged}
use Rattle.sqlite.specs.Listing.{understood, reads_listing}
use Rattle.sqlite.specs.Clock.{timed}
use Rattle.sqlite_schema.specs.declared.command.Returning.{Returning}
use Rattle.sqlite_schema.specs.Names.{same_name}
use Rattle.sqlite.proofs.Callers.{IsPlain, command_of, reads_as, one_permutation}
use Rattle.dns_sqlite.specs.Tables.{version_schema, row_schema, batch_schema}
use Rattle.dns_sqlite.specs.Versions.{HasVersions, has_versions, ShowsAll, IsVersion, is_version, number_of, known, version_of, version_text}
use Rattle.dns_sqlite.proofs.Texts.{version_query, half_version_is, half_version_plain, whole_version_is, whole_version_plain}
use Rattle.dns_sqlite.proofs.BatchTexts.{version_is2, version_plain2}

abbrev each : Row → List Env
each r = ([] ∷ r ∷ []) ∷ []

staged_is : (rows : List Row) → map (output version_query) (flat_map each rows) ≡ map (λ (r : Row). ([], column r 0 ∷ column r 1 ∷ [])) rows
staged_is [] = refl
staged_is (r ∷ rows) = ap (λ (xs : List Output). ([], column r 0 ∷ column r 1 ∷ []) ∷ xs) (staged_is rows)

module _ (schema : Schema) (plain : IsPlain (understood schema version_text)) (is : command_of (understood schema version_text) ≡ Select (record { lets = []; body = version_query }) (codes "rowid" ∷ codes "version" ∷ []))
    (unlisted : reads_listing schema version_text ≡ false) (old new : State) (rows : List Row) (has : old.now.schema ≡ schema) where
  finds_in : Shown version_text [] old new rows → ShowsAll (old.now.trees 0) rows
  finds_in h =
      let got = reads_as version_text [] old new schema has _ is plain unlisted rows h in
      let a : IsAnswer version_query (overlay old.now.trees []) [] rows = got.answer Null in
      let kept : a.kept ≡ map (λ (r : Row). ([], column r 0 ∷ column r 1 ∷ [])) (old.now.trees 0) = a.distinct ∙ ap (map (output version_query)) a.grouped ∙ staged_is (old.now.trees 0) in
      (a.ordered, subst (λ k. IsPermutation k a.ordered) kept a.same, a.shown)

  same_in : Shown version_text [] old new rows → IsUnchanged old new
  unfolding Shown
  same_in h =
      let known = sym h.1.is ∙ ap (λ s. understood s version_text) has in
      let bare = subst IsPlain (sym known) plain in
      let P : Option Returning → Type 0 = ShowsRows old new version_text h.0 (timed [] h.0.formats h.1.now) rows in
      let it : P None = subst P bare.0 h.2 in
      it.3

pub shows : (old new : State) (rows : List Row) → HasVersions old.now.schema → Shown version_text [] old new rows → ShowsAll (old.now.trees 0) rows × IsUnchanged old new
shows old new rows (inl half) h = (finds_in version_schema half_version_plain half_version_is.0 half_version_is.1 old new rows half h, same_in version_schema half_version_plain half_version_is.0 half_version_is.1 old new rows half h)
shows old new rows (inr (inl whole)) h =
    (finds_in row_schema whole_version_plain whole_version_is.0 whole_version_is.1 old new rows whole h, same_in row_schema whole_version_plain whole_version_is.0 whole_version_is.1 old new rows whole h)
shows old new rows (inr (inr three)) h =
    (finds_in batch_schema version_plain2 version_is2.0 version_is2.1 old new rows three h, same_in batch_schema version_plain2 version_is2.0 version_is2.1 old new rows three h)

-- a table of the version is there where the tables are those of a journal
there : (has_versions version_schema ≡ true) × (has_versions row_schema ≡ true) × (has_versions batch_schema ≡ true)
unfolding same_name
there = (refl, refl, refl)

pub not_there : (schema : Schema) → has_versions schema ≡ false → ¬ HasVersions schema
not_there schema none (inl half) = absurd (let it : true ≡ false = sym there.0 ∙ ap has_versions (sym half) ∙ none in cc)
not_there schema none (inr (inl whole)) = absurd (let it : true ≡ false = sym there.1 ∙ ap has_versions (sym whole) ∙ none in cc)
not_there schema none (inr (inr three)) = absurd (let it : true ≡ false = sym there.2 ∙ ap has_versions (sym three) ∙ none in cc)

-- ---- one row

abbrev pub is_number : ℤ → Option ℤ → Bool
is_number n None = false
is_number n (Some m) = int_eq m n

-- one row was shown, with a number for its rowid and this version
abbrev pub shows_version : ℤ → List Row → Bool
shows_version n [] = false
shows_version n (r ∷ []) = is_some (number_of (column r 0)) && is_number n (number_of (column r 1))
shows_version n (r ∷ s ∷ more) = false

alone : {X : Type 0} (xs : List X) → length xs ≡ 1 → (x : X) × (xs ≡ x ∷ [])
alone [] e = absurd (omega arith)
alone (x ∷ []) e = (x, refl)
alone (x ∷ y ∷ more) e = absurd (omega arith)

length-map1 : {X Y : Type 0} (f : X → Y) (xs : List X) → length (map f xs) ≡ length xs
length-map1 f [] = refl
length-map1 f (x ∷ xs) = omega (arith, length-map1 f xs)

number_is : (v : Value) (n : ℤ) → number_of v ≡ Some n → v ≡ Int n
number_is Null n e = absurd (cc)
number_is (Int m) n e = cc
number_is (Real x) n e = absurd (cc)
number_is (Text t) n e = absurd (cc)
number_is (Blob b) n e = absurd (cc)

some_is : (o : Option ℤ) → is_some o ≡ true → (n : ℤ) × (o ≡ Some n)
some_is None e = absurd (cc)
some_is (Some n) e = (n, refl)

same_number : (n : ℤ) (o : Option ℤ) → is_number n o ≡ true → o ≡ Some n
same_number n None e = absurd (cc)
same_number n (Some m) e = let same : m ≡ n = grind arith in cc

abbrev shown_of : Row → Output
shown_of r = ([], column r 0 ∷ column r 1 ∷ [])

-- where one row with one number is shown, the table has it
pub version_is : (tree rows : List Row) (n : ℤ) → ShowsAll tree rows → shows_version n rows ≡ true → IsVersion n tree
version_is tree [] n h e = absurd (cc)
version_is tree (r ∷ s ∷ more) n h e = absurd (cc)
version_is tree (row ∷ []) n h e =
    let both = and_parts (is_some (number_of (column row 0))) (is_number n (number_of (column row 1))) e in
    let id = some_is (number_of (column row 0)) both.0 in
    let first = number_is (column row 0) id.0 id.1 in
    let second = number_is (column row 1) n (same_number n (number_of (column row 1)) both.1) in
    let many : length (map {B = Output} shown_of tree) ≡ 1 = omega (arith, length_permutation (map {B = Output} shown_of tree) h.0 h.1, ap length h.2, length-map1 (λ (o : Output). o.1) h.0) in
    let one = alone tree (sym (length-map1 {Y = Output} shown_of tree) ∙ many) in
    let ordered = one_permutation {X = Output} (shown_of one.0) h.0 (subst (λ (t : List Row). IsPermutation (map {B = Output} shown_of t) h.0) one.1 h.1) in
    let row_is : row ∷ [] ≡ (column one.0 0 ∷ column one.0 1 ∷ []) ∷ [] = h.2 ∙ ap (map (λ (o : Output). o.1)) ordered in
    let same : row ≡ column one.0 0 ∷ column one.0 1 ∷ [] = cc in
    (id.0, one.0, one.1, sym (ap (λ r. column r 0) same) ∙ first, sym (ap (λ r. column r 1) same) ∙ second)

int_same : (n : ℤ) → int_eq n n ≡ true
int_same n = grind arith

-- and where the table has it, it is shown
pub version_shown : (tree rows : List Row) (n : ℤ) → ShowsAll tree rows → IsVersion n tree → shows_version n rows ≡ true
version_shown tree rows n h v =
    let ordered = one_permutation {X = Output} (shown_of v.1) h.0 (subst (λ (t : List Row). IsPermutation (map {B = Output} shown_of t) h.0) v.2 h.1) in
    let rows_is : rows ≡ (column v.1 0 ∷ column v.1 1 ∷ []) ∷ [] = h.2 ∙ ap (map (λ (o : Output). o.1)) ordered in
    rw (rows_is, v.3, v.4) (int_same n)

-- ---- the version that rows show

known_is : (o : Option ℤ) (n : ℤ) → known o ≡ Some n → (o ≡ Some n) × (is_version n ≡ true)
known_is None n e = absurd (cc)
known_is (Some m) n e = elim (cases_Bool (is_version m)) [
  | inl is_so ↦
      let same : Some m ≡ Some n = rw is_so at e in
      let is : m ≡ n = cc in
      (same, subst (λ k. is_version k ≡ true) is is_so)
  | inr is_not ↦ absurd (let it : None ≡ Some n = rw is_not at e in cc)
]

pub version_shows : (rows : List Row) (n : ℤ) → version_of rows ≡ Some n → shows_version n rows ≡ true
version_shows [] n e = absurd (cc)
version_shows (r ∷ s ∷ more) n e = absurd (cc)
version_shows (r ∷ []) n e = go (number_of (column r 0)) (number_of (column r 1)) e
  where
    go : (id version : Option ℤ) → (if is_some id then known version else None) ≡ Some n → (is_some id && is_number n version) ≡ true
    go None version e = absurd (cc)
    go (Some id) version e = subst (λ o. is_number n o ≡ true) (sym (known_is version n e).0) (int_same n)

other_number : (m n : ℤ) → is_version m ≡ false → is_version n ≡ true → int_eq m n ≡ false
other_number m n p q = elim (cases_Bool (int_eq m n)) [
  | inl same ↦ absurd (let is : m ≡ n = grind (arith, same) in let it : true ≡ false = sym q ∙ ap is_version (sym is) ∙ p in cc)
  | inr other ↦ other
]

pub version_hides : (rows : List Row) (n : ℤ) → version_of rows ≡ None → is_version n ≡ true → shows_version n rows ≡ false
version_hides [] n e fits = refl
version_hides (r ∷ s ∷ more) n e fits = refl
version_hides (r ∷ []) n e fits = go (number_of (column r 0)) (number_of (column r 1)) e
  where
    go : (id version : Option ℤ) → (if is_some id then known version else None) ≡ None → (is_some id && is_number n version) ≡ false
    go None version e = refl
    go (Some id) None e = refl
    go (Some id) (Some m) e = elim (cases_Bool (is_version m)) [
      | inl known ↦ absurd (let it : Some m ≡ None = rw known at e in cc)
      | inr none ↦ other_number m n none fits
    ]

-- where rows that are shown have no version, the table has none
pub lacks : (tree rows : List Row) (n : ℤ) → ShowsAll tree rows → shows_version n rows ≡ false → ¬ IsVersion n tree
lacks tree rows n all hidden v = absurd (let e : true ≡ false = sym (version_shown tree rows n all v) ∙ hidden in cc)

-- ---- a version is the same number in 64 bits

-- by its number, which is small
small : (n : ℤ) → is_version n ≡ true → (n ≡ pos 0) ⊎ ((n ≡ pos 1) ⊎ (n ≡ pos 2))
small n e = elim (cases_Bool (le_z (pos 0) n)) [
  | inl low ↦
      let high : le_z n (pos 2) ≡ true = rw low at e in
      elim (cases_Bool (int_eq n (pos 0))) [
        | inl none ↦ inl (grind (arith, none))
        | inr some ↦ elim (cases_Bool (int_eq n (pos 1))) [
          | inl one ↦ inr (inl (grind (arith, one)))
          | inr more ↦ inr (inr (grind (arith, ints, nat_tests, low, high, some, more)))
        ]
      ]
  | inr under ↦ absurd (let it : false ≡ true = rw under at e in cc)
]

of_small : (n : ℤ) → (n ≡ pos 0) ⊎ ((n ≡ pos 1) ⊎ (n ≡ pos 2)) → to_z w64 (of_z w64 n) ≡ n
of_small n (inl is) = rw is refl
of_small n (inr (inl is)) = rw is refl
of_small n (inr (inr is)) = rw is refl

pub in_bits : (n : ℤ) → is_version n ≡ true → to_z w64 (of_z w64 n) ≡ n
in_bits n e = of_small n (small n e)

pub version_one : (rows : List Row) (n : ℤ) → version_of rows ≡ Some n → is_version n ≡ true
version_one [] n e = absurd (cc)
version_one (r ∷ s ∷ more) n e = absurd (cc)
version_one (r ∷ []) n e = go (number_of (column r 0)) (number_of (column r 1)) e
  where
    go : (id version : Option ℤ) → (if is_some id then known version else None) ≡ Some n → is_version n ≡ true
    go None version e = absurd (cc)
    go (Some id) version e = (known_is version n e).1

-- the version that rows show is that of the table, where they are all that it has
pub fits_table : (tree rows : List Row) (n : ℤ) → ShowsAll tree rows → version_of rows ≡ Some n → IsVersion (to_z w64 (of_z w64 n)) tree
fits_table tree rows n all e = rw (in_bits n (version_one rows n e)) (version_is tree rows n all (version_shows rows n e))
