-- What the steps of the schema do.
use Rattle.std.proofs.Common.{◌≡◌, ℕ, ℤ, pos, List, [], ◌∷◌, map, true, false, None, Ok, Err, Result, OnOk, refl, sym, ap, subst, ◌∙◌, arith, Equal}
use Rattle.std.specs.List.Sorted.{IsPermutation}
use Rattle.sqlite.specs.declared.types.Value.TheVariants.{Null, Int}
use Rattle.sqlite.specs.Order.{column, value_cmp}
use Rattle.sqlite.specs.Table.{Table}
use Rattle.sqlite.specs.Schema.{Schema}
use Rattle.sqlite.specs.Query.{IsAnswer, output, page, Output}
use Rattle.sqlite.specs.Program.{overlay}
use Rattle.sqlite.specs.Source.TheVariants.{Values}
use Rattle.sqlite.specs.Command.TheVariants.{Insert, Update, CreateTable}
use Rattle.sqlite.specs.Edit.{edit_of, edited}
use Rattle.sqlite.specs.Change.{created, next_tree}
use Rattle.sqlite.specs.Does.{Tally, Does, lacks_sequence}
use Rattle.sqlite.specs.Rows.{Written}
use Rattle.sqlite.specs.Rowids.TheVariants.{Chosen, Given}
use Rattle.sqlite.specs.Tree.{Trees}
use Rattle.sqlite.specs.declared.error.Error.{Error}
use Rattle.sqlite.specs.Listing.{understood}
use Rattle.sqlite.specs.Effect.{Database, IsDatabase}
use Rattle.sqlite.specs.Compile.{table_defined_by}
use Rattle.std.specs.List.{AllByRecursion}
use Rattle.sqlite_rules.specs.Calls.{ids_of}
use Rattle.std.proofs.lemmas.Cmp.{tied_itself}
use Rattle.sqlite_value.proofs.OrderLemmas.{value_cmp_total}
use Rattle.sqlite.proofs.Callers.{IsPlain}
use Rattle.sqlite.specs.State.{State, mode_of, Writes, ExecutesInside}
use Rattle.sqlite.proofs.Callers.{command_of, statement_of, runs_as, one_step, one_permutation}
use Rattle.dns_sqlite.specs.Tables.{versions, records, empty_schema, version_schema, row_schema}
use Rattle.dns_sqlite.specs.Versions.{HasMade, IsVersionless, IsVersionAlone, HasRowTable, HasNoRows}
use Rattle.dns_sqlite.proofs.Texts.{create_version_table, create_record_table, versions_is, versions_plain, records_is, records_plain, fill_text, fill_terms, fill_is, fill_plain, raise_text, raise_query, raise_is, raise_plain}
use Rattle.dns_sqlite.proofs.Adds.{went, same_value, cast_null, cast_int}

-- ---- CREATE TABLE

module _ (text : List ℕ) (was : Schema) (table : Table) (command : command_of (understood was text) ≡ CreateTable) (statement : statement_of text (understood was text) ≡ text)
    (plain : IsPlain (understood was text)) (defined : table_defined_by text ≡ Ok table) (uncounted : lacks_sequence (created was table) ≡ false) where
  pub record Created (old new : State) : Type 0 where
    pub schema : new.now.schema ≡ created was table
    pub empty : new.now.trees (next_tree was) ≡ []
    pub others : AllByRecursion (λ t. new.now.trees t.tree ≡ old.now.trees t.tree) was.tables
    pub sound : IsDatabase new.now
    pub mode : new.in_transaction ≡ true

  pub creates : (old new : State) (count : ℕ) → old.now.schema ≡ was → ExecutesInside 0 text [] old new (Ok count) → Created old new
  creates old new count has h =
      let w = subst (λ t. Writes old new None CreateTable t [] count) statement (runs_as text [] old new was has CreateTable command plain count h.0) in
      let all = went w.changed in
      let first = went all.1 in
      let made = first.1 in
      let both : Ok made.table ≡ Ok table = sym made.defined ∙ defined in
      let same : made.table ≡ table = cc in
      let schema : first.0.schema ≡ created was table = made.is ∙ ap (λ s. created s made.table) has ∙ ap (created was) same in
      let none : lacks_sequence first.0.schema ≡ false = ap lacks_sequence schema ∙ uncounted in
      let now : new.now ≡ first.0 = ap (λ (p : Tally × Database). p.1) (same_value all.2) ∙ same_value (rw none at first.2) in
      record {
        schema = ap (λ (d : Database). d.schema) now ∙ schema;
        empty = ap (λ (d : Database). d.trees (next_tree was)) now ∙ subst (λ s. first.0.trees (next_tree s) ≡ []) has made.empty;
        others = subst (λ (d : Database). AllByRecursion (λ t. d.trees t.tree ≡ old.now.trees t.tree) was.tables) (sym now) (subst (λ (s : Schema). AllByRecursion (λ t. first.0.trees t.tree ≡ old.now.trees t.tree) s.tables) has made.others);
        sound = w.sound;
        mode = h.1.mode;
      }

pub makes_versions : (old new : State) (count : ℕ) → old.now.schema ≡ empty_schema → ExecutesInside 0 create_version_table [] old new (Ok count) → HasMade IsVersionless new
makes_versions old new count has h =
    let it = creates create_version_table empty_schema (record versions { tree = 0 }) versions_is.0 versions_is.1 versions_plain versions_is.2 refl old new count has h in
    record { made = (it.schema, it.empty); sound = it.sound; mode = it.mode }

pub makes_records : (old new : State) (count : ℕ) → IsVersionAlone old.now → ExecutesInside 0 create_record_table [] old new (Ok count) → HasMade HasRowTable new
makes_records old new count half h =
    let it = creates create_record_table version_schema (record records { tree = 0 }) records_is.0 records_is.1 records_plain records_is.2 refl old new count half.0 h in
    record { made = (it.schema, (half.1.0, half.1.1, it.others.0 ∙ half.1.2, half.1.3, half.1.4), it.empty); sound = it.sound; mode = it.mode }

-- ---- the first version

pub fills : (old new : State) (count : ℕ) → IsVersionless old.now → ExecutesInside 0 fill_text [] old new (Ok count) → HasMade IsVersionAlone new
fills old new count bare h =
    let db = old.now.trees in
    let command = Insert 0 (Values fill_terms 2) in
    let text = statement_of fill_text (understood version_schema fill_text) in
    let w = runs_as fill_text [] old new version_schema bare.0 command fill_is fill_plain count h.0 in
    let done = went (subst (λ s. Does old.step_limit (mode_of old) [] (record old.now { schema = s }) text None command (Ok (w.tally, new.now))) bare.0 w.changed) in
    let now = ap (λ (p : Tally × Database). p.1) (same_value (went (went done.2).2).2) in
    let given = went done.1 in
    let written = went (went given.2).2 in
    let counted = went written.2 in
    let trees : done.0.trees ≡ written.0 = ap (λ (it : Written). it.trees) (same_value counted.2) ∙ same_value counted.1 in
    let rows = (one_step version_schema _ db written.0 (edit_of db versions [] Chosen 0 given.0) refl written.1).rows in
    let edit : edited db (edit_of db versions [] Chosen 0 given.0) ≡ (Int (pos 1) ∷ Int (pos 0) ∷ []) ∷ [] =
    ap (λ all. edited db (edit_of db versions [] Chosen 0 all)) given.1.1 ∙ rw (bare.1, cast_null, cast_int (pos 0)) in
    record {
      made = (ap (λ (d : Database). d.schema) now, (pos 1, Int (pos 1) ∷ Int (pos 0) ∷ [], ap (λ (d : Database). d.trees 0) now ∙ ap (λ (t : Trees). t 0) trees ∙ rows ∙ edit, refl, refl));
      sound = w.sound;
      mode = h.1.mode;
    }

-- ---- the version raised

own_rowid : (id : ℤ) → value_cmp (Int id) (Int id) ≡ Equal
own_rowid id = tied_itself value_cmp_total (Int id)

pub raises : (old new : State) (count : ℕ) → HasRowTable old.now → ExecutesInside 0 raise_text [] old new (Ok count) → HasMade HasNoRows new
raises old new count whole h =
    let db = old.now.trees in
    let id = whole.1.0 in
    let r = whole.1.1 in
    let one = whole.1.2 in
    let first = whole.1.3 in
    let command = Update 0 (record { lets = []; body = raise_query }) in
    let text = statement_of raise_text (understood row_schema raise_text) in
    let w = runs_as raise_text [] old new row_schema whole.0 command raise_is raise_plain count h.0 in
    let done = went (subst (λ s. Does old.step_limit (mode_of old) [] (record old.now { schema = s }) text None command (Ok (w.tally, new.now))) whole.0 w.changed) in
    let now = ap (λ (p : Tally × Database). p.1) (same_value (went (went done.2).2).2) in
    let asked = went done.1 in
    let written = went asked.2 in
    let trees : done.0.trees ≡ written.0 = ap (λ (it : Written). it.trees) (same_value written.2) in
    let a : IsAnswer raise_query (overlay db []) [] asked.0 = asked.1.answer Null in
    let staged : a.staged ≡ ([] ∷ r ∷ []) ∷ [] = a.grouped ∙ rw one in
    let o : Output = ([], column r 0 ∷ column r 0 ∷ Int (pos 1) ∷ []) in
    let kept : a.kept ≡ o ∷ [] = a.distinct ∙ ap (map (output raise_query)) staged in
    let ordered = one_permutation o a.ordered (subst (λ k. IsPermutation k a.ordered) kept a.same) in
    let found : asked.0 ≡ (column r 0 ∷ column r 0 ∷ Int (pos 1) ∷ []) ∷ [] = a.shown ∙ ap (λ xs. page raise_query [] (map (λ (p : Output). p.1) xs)) ordered in
    let step = one_step row_schema _ db written.0 (edit_of db versions (ids_of asked.0) Given 1 asked.0) refl written.1 in
    let edit : edited db (edit_of db versions (ids_of asked.0) Given 1 asked.0) ≡ (Int id ∷ Int (pos 1) ∷ []) ∷ [] =
    ap (λ all. edited db (edit_of db versions (ids_of all) Given 1 all)) found ∙ rw (one, first, own_rowid id, cast_int id, cast_int (pos 1)) in
    record {
      made = (
        ap (λ (d : Database). d.schema) now,
        (id, Int id ∷ Int (pos 1) ∷ [], ap (λ (d : Database). d.trees 0) now ∙ ap (λ (t : Trees). t 0) trees ∙ step.rows ∙ edit, refl, refl),
        ap (λ (d : Database). d.trees 1) now ∙ ap (λ (t : Trees). t 1) trees ∙ step.others 1 (λ e. omega (arith, e)) tt ∙ whole.2,
      );
      sound = w.sound;
      mode = h.1.mode;
    }

pub if_ok : (r : Result ℕ Error) (P : Type 0) → ((count : ℕ) → r ≡ Ok count → P) → OnOk r P
if_ok (Ok count) P h = h count refl
if_ok (Err e) P h = tt
