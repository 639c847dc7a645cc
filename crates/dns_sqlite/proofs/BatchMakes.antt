-- What the statements of version 2 do.
use Rattle.std.proofs.Common.{◌≡◌, ◌&&◌, not, ℕ, ℤ, pos, List, [], ◌∷◌, ◌++◌, map, Bool, true, false, None, Result, Ok, IsTrue, refl, sym, ap, subst, ◌∙◌, Equal, arith}
use Rattle.std.specs.List.Sorted.{IsPermutation}
use Rattle.sqlite.specs.declared.types.Value.TheVariants.{Null, Int}
use Rattle.sqlite.specs.Order.{Row, column, value_cmp}
use Rattle.sqlite.specs.Query.{IsAnswer, output, page, Output}
use Rattle.sqlite.specs.Program.{overlay}
use Rattle.sqlite.specs.Source.TheVariants.{Values}
use Rattle.sqlite.specs.Command.TheVariants.{Insert, Update}
use Rattle.sqlite.specs.Edit.{edit_of, edited, is_taken, are_fresh, left_by}
use Rattle.sqlite.specs.Does.{Tally, Does}
use Rattle.sqlite.specs.Rows.{Written}
use Rattle.sqlite.specs.Rowids.TheVariants.{Chosen, Given}
use Rattle.sqlite.specs.Tree.{Trees, put_row}
use Rattle.sqlite.specs.Listing.{understood}
use Rattle.sqlite.specs.Effect.{Database}
use Rattle.sqlite_rules.specs.Calls.{ids_of}
use Rattle.std.proofs.lemmas.Cmp.{tied_itself}
use Rattle.sqlite_value.proofs.OrderLemmas.{value_cmp_total}
use Rattle.sqlite.specs.State.{State, mode_of, ExecutesInside}
use Rattle.sqlite.proofs.Callers.{statement_of, runs_as, one_step, one_permutation}
use Rattle.dns_keeper.specs.declared.batch_row.BatchRow.{BatchRow}
use Rattle.dns_sqlite.specs.Tables.{versions, batches, row_schema, batch_schema, stored_batch}
use Rattle.dns_sqlite.specs.Versions.{version_rows, current_version, HasMade, IsVersion, IsVersionRows}
use Rattle.sqlite.specs.declared.error.Error.{Error}
use Rattle.sqlite.specs.Store.{Ghosts}
use Rattle.sqlite.specs.Held.{Held, state}
use Rattle.sqlite.specs.State.{HasCleanDisk}
use Rattle.sqlite.proofs.StateLemmas.{survives_then}
use Rattle.sqlite.proofs.InsideLemmas.{keeps_then}
use Rattle.dns_sqlite.specs.Statements.{HasTables, Statement, Statements}
use Rattle.dns_sqlite.proofs.Statements.{ok_then}
use Rattle.dns_sqlite.specs.Migration.{AreBatchesPut, PutsBatch, PutsBatches, HasBatches, HasBatchTable, IsUnraised, RaisesVersionRow}
use Rattle.dns_sqlite.proofs.BatchTexts.{create_batch_table, batches_is, batches_plain, put_text, put_terms, put_is, put_plain, two_text, two_query, two_is, two_plain}
use Rattle.dns_sqlite.proofs.Adds.{went, same_value, cast_null, cast_int}
use Rattle.dns_sqlite.proofs.Makes.{creates}

pub makes_batches : (old new : State) (count : ℕ) → IsVersionRows old.now → ExecutesInside 0 create_batch_table [] old new (Ok count) → HasMade (HasBatches version_rows (old.now.trees 1) []) new
makes_batches old new count one h =
    let it = creates create_batch_table row_schema (record batches { tree = 0 }) batches_is.0 batches_is.1 batches_plain batches_is.2 refl old new count one.0 h in
    let v = one.1 in
    record {
      made = record { schema = it.schema; version = (v.0, v.1, it.others.0 ∙ v.2, v.3, v.4); rows = it.others.1.0; put = it.empty };
      sound = it.sound;
      mode = it.mode;
    }

abbrev pub given_batch : BatchRow → Row
given_batch b = Int b.first ∷ Int b.count ∷ []

not_and : (b : Bool) → (not b && true) ≡ true → b ≡ false
not_and true e = absurd (cc)
not_and false e = refl

pub puts_batch : (b : BatchRow) (old new : State) (count : ℕ) → old.now.schema ≡ batch_schema → ExecutesInside 0 put_text (given_batch b) old new (Ok count) → PutsBatch b old new
puts_batch b old new count has h =
    let db = old.now.trees in
    let command = Insert 2 (Values put_terms 3) in
    let text = statement_of put_text (understood batch_schema put_text) in
    let w = runs_as put_text (given_batch b) old new batch_schema has command put_is put_plain count h.0 in
    let done = went (subst (λ s. Does old.step_limit (mode_of old) (given_batch b) (record old.now { schema = s }) text None command (Ok (w.tally, new.now))) has w.changed) in
    let now = ap (λ (p : Tally × Database). p.1) (same_value (went (went done.2).2).2) in
    let given = went done.1 in
    let written = went (went given.2).2 in
    let counted = went written.2 in
    let trees : done.0.trees ≡ written.0 = ap (λ (it : Written). it.trees) (same_value counted.2) ∙ same_value counted.1 in
    let step = one_step batch_schema _ db written.0 (edit_of db batches [] Chosen 0 given.0) refl written.1 in
    let edit : edited db (edit_of db batches [] Chosen 0 given.0) ≡ put_row (stored_batch b) (db 2) =
    ap (λ all. edited db (edit_of db batches [] Chosen 0 all)) given.1.1 ∙ rw (cast_null, cast_int b.first, cast_int b.count) refl in
    let news : are_fresh (left_by db (edit_of db batches [] Chosen 0 given.0)) (edit_of db batches [] Chosen 0 given.0).news ≡ are_fresh (db 2) (stored_batch b ∷ []) =
    ap (λ all. are_fresh (left_by db (edit_of db batches [] Chosen 0 all)) (edit_of db batches [] Chosen 0 all).news) given.1.1 ∙ rw (cast_null, cast_int b.first) refl in
    record {
      schema = ap (λ (d : Database). d.schema) now;
      put = ap (λ (d : Database). d.trees 2) now ∙ ap (λ (t : Trees). t 2) trees ∙ step.rows ∙ edit;
      free = not_and _ (sym news ∙ step.fresh);
      others = λ t other. ap (λ (d : Database). d.trees t) now ∙ ap (λ (s : Trees). s t) trees ∙ step.others t other tt;
      sound = w.sound;
      mode = h.1.mode;
    }

own_rowid : (id : ℤ) → value_cmp (Int id) (Int id) ≡ Equal
own_rowid id = tied_itself value_cmp_total (Int id)

pub raises_to_two : (old new : State) (count : ℕ) → IsUnraised old.now → ExecutesInside 0 two_text [] old new (Ok count) → RaisesVersionRow old new
raises_to_two old new count was h =
    let has = was.0 in
    let v = was.1 in
    let db = old.now.trees in
    let id = v.0 in
    let r = v.1 in
    let one = v.2 in
    let first = v.3 in
    let command = Update 0 (record { lets = []; body = two_query }) in
    let text = statement_of two_text (understood batch_schema two_text) in
    let w = runs_as two_text [] old new batch_schema has command two_is two_plain count h.0 in
    let done = went (subst (λ s. Does old.step_limit (mode_of old) [] (record old.now { schema = s }) text None command (Ok (w.tally, new.now))) has w.changed) in
    let now = ap (λ (p : Tally × Database). p.1) (same_value (went (went done.2).2).2) in
    let asked = went done.1 in
    let written = went asked.2 in
    let trees : done.0.trees ≡ written.0 = ap (λ (it : Written). it.trees) (same_value written.2) in
    let a : IsAnswer two_query (overlay db []) [] asked.0 = asked.1.answer Null in
    let staged : a.staged ≡ ([] ∷ r ∷ []) ∷ [] = a.grouped ∙ rw one in
    let o : Output = ([], column r 0 ∷ column r 0 ∷ Int (pos 2) ∷ []) in
    let kept : a.kept ≡ o ∷ [] = a.distinct ∙ ap (map (output two_query)) staged in
    let ordered = one_permutation o a.ordered (subst (λ k. IsPermutation k a.ordered) kept a.same) in
    let found : asked.0 ≡ (column r 0 ∷ column r 0 ∷ Int (pos 2) ∷ []) ∷ [] = a.shown ∙ ap (λ xs. page two_query [] (map (λ (p : Output). p.1) xs)) ordered in
    let step = one_step batch_schema _ db written.0 (edit_of db versions (ids_of asked.0) Given 1 asked.0) refl written.1 in
    let edit : edited db (edit_of db versions (ids_of asked.0) Given 1 asked.0) ≡ (Int id ∷ Int (pos 2) ∷ []) ∷ [] =
    ap (λ all. edited db (edit_of db versions (ids_of all) Given 1 all)) found ∙ rw (one, first, own_rowid id, cast_int id, cast_int (pos 2)) in
    record {
      schema = ap (λ (d : Database). d.schema) now;
      version = (id, Int id ∷ Int (pos 2) ∷ [], ap (λ (d : Database). d.trees 0) now ∙ ap (λ (t : Trees). t 0) trees ∙ step.rows ∙ edit, refl, refl);
      others = λ t other. ap (λ (d : Database). d.trees t) now ∙ ap (λ (s : Trees). s t) trees ∙ step.others t other tt;
      sound = w.sound;
      mode = h.1.mode;
    }

-- ---- batches in a loop

put_more : (bs : List BatchRow) (b : BatchRow) (was mid is : List Row) → AreBatchesPut bs was mid → is_taken mid (stored_batch b) ≡ false → is ≡ put_row (stored_batch b) mid
    → AreBatchesPut (bs ++ b ∷ []) was is
put_more [] b was mid is h free put = rw (← h) (free, put)
put_more (c ∷ bs) b was mid is h free put = (h.0, put_more bs b _ mid is h.1 free put)

pub no_batches : (s : State) → IsTrue s.in_transaction → s.now.schema ≡ batch_schema → PutsBatches [] s s
no_batches s inside has = record { schema = has; put = refl; others = λ t _. refl; sound = λ h. h; mode = inside }

pub more_batches : (bs : List BatchRow) (b : BatchRow) (old mid new : State) → PutsBatches bs old mid → PutsBatch b mid new → PutsBatches (bs ++ b ∷ []) old new
more_batches bs b old mid new done one = record {
  schema = one.schema;
  put = put_more bs b (old.now.trees 2) (mid.now.trees 2) (new.now.trees 2) done.put one.free one.put;
  others = λ t other. one.others t other ∙ done.others t other;
  sound = λ _. one.sound;
  mode = one.mode;
}

-- ---- the table filled, and the version raised

module _ {S T U : Type 0} (g : Ghosts S) (batches : List BatchRow) (old mid new : Held S) (x : T) (r : Result U Error) where
  unraised : HasBatchTable (state g old).now → PutsBatches batches (state g old) (state g mid) → IsUnraised (state g mid).now
  unraised was put = (put.schema, let v = was.version in (v.0, v.1, put.others 0 (λ e. omega (arith, e)) ∙ v.2, v.3, v.4))

  filled : HasBatchTable (state g old).now → PutsBatches batches (state g old) (state g mid) → RaisesVersionRow (state g mid) (state g new) → HasMade (HasBatches current_version ((state g old).now.trees 1) batches) (state g new)
  filled was put raised = record {
    made = record {
      schema = raised.schema;
      version = raised.version;
      rows = raised.others 1 (λ e. omega (arith, e)) ∙ put.others 1 (λ e. omega (arith, e));
      put = subst (AreBatchesPut batches []) (sym (raised.others 2 (λ e. omega (arith, e)))) (subst (λ was. AreBatchesPut batches was ((state g mid).now.trees 2)) was.put put.put);
    };
    sound = raised.sound;
    mode = raised.mode;
  }

  pub fills_batches : Statements g HasTables (PutsBatches batches) old mid (Ok x) → Statement g IsUnraised RaisesVersionRow mid new r → Statement g HasBatchTable (λ s. HasMade (HasBatches current_version (s.now.trees 1) batches)) old new r
  fills_batches one two =
      let early = λ (clean : HasCleanDisk (state g new)). let it : HasCleanDisk (state g mid) = omega (arith, two.done.survives.clean, clean) in it in
      record {
        done = record {
          made = λ clean inside was.
              let put = one.made (early clean) inside was.schema in
              ok_then r _ _ (two.done.made clean (one.inside (early clean) inside) (unraised was put)) (filled was put);
          inside = λ clean inside. two.done.inside clean (one.inside (early clean) inside);
          kept = λ clean inside. keeps_then (state g old) (state g mid) (state g new) (one.kept (early clean) inside) (two.done.kept clean (one.inside (early clean) inside));
          survives = survives_then (state g old) (state g mid) (state g new) _ _ (λ _. ⊥) (λ _ db none. none) (λ _ db none. none) one.survives two.done.survives;
        };
        opened = λ clean inside. two.opened clean (one.inside (early clean) inside);
      }
