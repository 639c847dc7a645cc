-- What an insert does.
use Rattle.std.proofs.Common.{◌≡◌, ◌≢◌, ◌⊎◌, inl, inr, ◌&&◌, not, ℕ, ℤ, pos, List, [], ◌∷◌, Bool, true, false, cond, None, Some, unwrap_or, Ok, Err, Result, OnOk, refl, sym, ap, subst, ◌∙◌}
use Rattle.sqlite.specs.declared.types.Value.{Value}
use Rattle.sqlite.specs.declared.types.Value.TheVariants.{Null, Int, Text, Blob}
use Rattle.sqlite.specs.Order.{Row}
use Rattle.sqlite.specs.Ops.{unary}
use Rattle.sqlite.specs.Kind.TheVariants.{Integer}
use Rattle.sqlite.specs.Source.TheVariants.{Values}
use Rattle.sqlite.specs.Command.TheVariants.{Insert}
use Rattle.sqlite.specs.Edit.{edit_of, edited, is_taken, are_fresh, left_by, next_rowid}
use Rattle.sqlite.specs.Cast.{cast}
use Rattle.sqlite.specs.Rowids.TheVariants.{Chosen}
use Rattle.sqlite.specs.Does.{Tally, Does}
use Rattle.sqlite.specs.Rows.{Written, last_id}
use Rattle.sqlite.specs.Tree.{Trees, put_row}
use Rattle.sqlite.specs.declared.error.Error.{Error}
use Rattle.sqlite.specs.Listing.{understood}
use Rattle.sqlite.specs.Effect.{Database}
use Rattle.sqlite.specs.State.{State, mode_of, ExecutesInside}
use Rattle.sqlite.proofs.Callers.{statement_of, runs_as, one_step}
use Rattle.dns_sqlite.specs.Tables.{records, batch_schema}
use Rattle.dns_sqlite.specs.Batch.{next_row, PutsOne}
use Rattle.dns_sqlite.proofs.Texts.{insert_text, terms, insert_is, insert_plain}

-- what is bound
abbrev pub given_row : ℕ → ℕ → List ℕ → List ℕ → Row
given_row client serial stamp bytes = Int (pos client) ∷ Int (pos serial) ∷ Text stamp ∷ Blob bytes ∷ []

either : (b : Bool) (x : Value) → cond b x x ≡ x
either true x = refl
either false x = refl

pub cast_null : cast Integer Null ≡ Null
unfolding unary
cast_null = either _ Null

pub cast_int : (n : ℤ) → cast Integer (Int n) ≡ Int n
unfolding unary
cast_int n = either _ (Int n)

-- a part that gave a value did not stop on the way
pub went : {B E R : Type 0} {b : B} {Stops : E → Type 0} → ((stop : E) × Stops stop × (Ok b ≡ Err stop)) ⊎ R → R
went (inl stopped) = absurd (let e = stopped.2 in cc)
went (inr on) = on

pub same_value : {B E : Type 0} {a b : B} → ◌≡◌ {A = Result B E} (Ok a) (Ok b) → a ≡ b
same_value e = cc

not_and : (b : Bool) → (not b && true) ≡ true → b ≡ false
not_and true e = absurd (cc)
not_and false e = refl

module _ (client serial : ℕ) (stamp bytes : List ℕ) where
  abbrev params : Row
  params = given_row client serial stamp bytes

  pub record Adds (was : Database) (tally : Tally) (after : Database) : Type 0 where
    pub schema : after.schema ≡ batch_schema
    pub rows : after.trees 1 ≡ put_row (next_row client serial stamp (was.trees 1) bytes) (was.trees 1)
    pub free : is_taken (was.trees 1) (next_row client serial stamp (was.trees 1) bytes) ≡ false
    pub others : (t : ℕ) → t ≢ 1 → after.trees t ≡ was.trees t
    pub last : tally.last ≡ Some (next_rowid (was.trees 1))

  -- what the command makes of the database
  does_adds : (old : State) (text : List ℕ) (tally : Tally) (after : Database) → old.now.schema ≡ batch_schema
      → Does old.step_limit (mode_of old) params old.now text None (Insert 1 (Values terms 6)) (Ok (tally, after))
      → Adds old.now tally after
  does_adds old text tally after has h =
      let was = old.now in
      let db = was.trees in
      let command = Insert 1 (Values terms 6) in
      let done = went (subst (λ s. Does old.step_limit (mode_of old) params (record was { schema = s }) text None command (Ok (tally, after))) has h) in
      let now = ap (λ (p : Tally × Database). p.1) (same_value (went (went done.2).2).2) in
      let given = went done.1 in
      let written = went (went given.2).2 in
      let counted = went written.2 in
      let trees : done.0.trees ≡ written.0 = ap (λ (it : Written). it.trees) (same_value counted.2) ∙ same_value counted.1 in
      let step = one_step batch_schema _ db written.0 (edit_of db records [] Chosen 0 given.0) refl written.1 in
      let edit : edited db (edit_of db records [] Chosen 0 given.0) ≡ put_row (next_row client serial stamp (db 1) bytes) (db 1) =
      ap (λ all. edited db (edit_of db records [] Chosen 0 all)) given.1.1 ∙ rw (cast_null, cast_int (pos client), cast_int (pos serial)) in
      let news : are_fresh (left_by db (edit_of db records [] Chosen 0 given.0)) (edit_of db records [] Chosen 0 given.0).news ≡ are_fresh (db 1) (next_row client serial stamp (db 1) bytes ∷ []) =
      ap (λ all. are_fresh (left_by db (edit_of db records [] Chosen 0 all)) (edit_of db records [] Chosen 0 all).news) given.1.1 ∙ rw (cast_null) in
      record {
        schema = ap (λ (d : Database). d.schema) now;
        rows = ap (λ (d : Database). d.trees 1) now ∙ ap (λ (t : Trees). t 1) trees ∙ step.rows ∙ edit;
        free = not_and _ (sym news ∙ step.fresh);
        others = λ t other. ap (λ (d : Database). d.trees t) now ∙ ap (λ (s : Trees). s t) trees ∙ step.others t other tt;
        last = ap (λ (p : Tally × Database). p.0.last) (same_value (went (went done.2).2).2) ∙ ap (λ (it : Written). it.last) (same_value counted.2) ∙ ap (λ all. last_id (edit_of db records [] Chosen 0 all).news) given.1.1 ∙ rw (cast_null) refl;
      }

  pub puts : (old new : State) (count : ℕ) → old.now.schema ≡ batch_schema → ExecutesInside 0 insert_text params old new (Ok count) → PutsOne client serial stamp bytes old new
  puts old new count has h =
      let command = Insert 1 (Values terms 6) in
      let w = runs_as insert_text params old new batch_schema has command insert_is insert_plain count h.0 in
      let it = does_adds old (statement_of insert_text (understood batch_schema insert_text)) w.tally new.now has w.changed in
      record { schema = it.schema; rows = it.rows; free = it.free; others = it.others; sound = w.sound; mode = h.1.mode; last = w.last_rowid ∙ ap (λ o. unwrap_or o old.last_rowid) it.last }

pub put_if_ok : (client serial : ℕ) (stamp bytes : List ℕ) (old new : State) (r : Result ℕ Error) → old.now.schema ≡ batch_schema → ExecutesInside 0 insert_text (given_row client serial stamp bytes) old new r
    → OnOk r (PutsOne client serial stamp bytes old new)
put_if_ok client serial stamp bytes old new (Err e) has h = tt
put_if_ok client serial stamp bytes old new (Ok count) has h = puts client serial stamp bytes old new count has h
