-- How the rows of a batch follow one another, and how the batch follows them.
use Rattle.std.proofs.Common.{◌≡◌, ◌∷◌, ℕ, ℤ, pos, List, length, Result, Ok, refl, subst, ◌∙◌, arith}
use Rattle.sqlite.specs.declared.error.Error.{Error}
use Rattle.sqlite.specs.Edit.{next_rowid}
use Rattle.sqlite.specs.State.{State, HasCleanDisk}
use Rattle.sqlite.specs.Store.{Ghosts}
use Rattle.sqlite.specs.Held.{Held, state}
use Rattle.sqlite.proofs.StateLemmas.{survives_then}
use Rattle.sqlite.proofs.InsideLemmas.{keeps_then}
use Rattle.dns_keeper.specs.declared.batch_row.BatchRow.{BatchRow}
use Rattle.dns_sqlite.specs.Statements.{HasTables, Statement, Statements}
use Rattle.dns_sqlite.specs.Migration.{PutsBatch}
use Rattle.dns_sqlite.specs.Batch.{PutsOne, PutsAll, PutsWhole, NamesFirst}
use Rattle.dns_sqlite.proofs.Batches.{puts_first, puts_whole}
use Rattle.dns_sqlite.proofs.Statements.{ok_then}

module _ {S : Type 0} (g : Ghosts S) (client serial : ℕ) (stamp : List ℕ) where
  -- a first row, and those behind it
  pub follow_first : {T U : Type 0} (bytes : List ℕ) (more : List (List ℕ)) (old mid new : Held S) (x : T) (r : Result U Error) → Statement g HasTables (PutsOne client serial stamp bytes) old mid (Ok x)
      → Statements g HasTables (PutsAll client serial stamp more) mid new r → Statements g HasTables (PutsAll client serial stamp (bytes ∷ more)) old new r
  follow_first bytes more old mid new x r one two =
      let early = λ (clean : HasCleanDisk (state g new)). let it : HasCleanDisk (state g mid) = omega (arith, two.survives.clean, clean) in it in
      record {
        made = λ clean inside has.
            let first = one.done.made (early clean) inside has in
            let kept = one.done.kept (early clean) inside in
            ok_then r _ _ (two.made clean first.mode first.schema) (λ rest. puts_first client serial stamp bytes more (state g old) (state g mid) (state g new) first kept rest);
        inside = λ clean inside. two.inside clean (one.done.inside (early clean) inside);
        kept = λ clean inside. keeps_then (state g old) (state g mid) (state g new) (one.done.kept (early clean) inside) (two.kept clean (one.done.inside (early clean) inside));
        survives = survives_then (state g old) (state g mid) (state g new) _ _ (λ _. ⊥) (λ _ db none. none) (λ _ db none. none) one.done.survives two.survives;
      }

  batch_is : (a b m n : ℤ) → a ≡ b → m ≡ n → ◌≡◌ {A = BatchRow} (record { first = a; count = m }) (record { first = b; count = n })
  batch_is a b m n p q = rw (p, q) refl

  -- rows, and their batch, which begins with the first of them
  pub follow_batch : {U : Type 0} (records : List (List ℕ)) (old mid new : Held S) (id first count : ℤ) (r : Result U Error) → Statements g HasTables (PutsAll client serial stamp records) old mid (Ok id) → NamesFirst g old mid (Ok id)
      → first ≡ id → count ≡ pos (length records) → Statement g HasTables (PutsBatch (record { first = first; count = count })) mid new r → Statement g HasTables (PutsWhole client serial stamp records) old new r
  follow_batch records old mid new id first count r one named first_is count_is two =
      let early = λ (clean : HasCleanDisk (state g new)). let it : HasCleanDisk (state g mid) = omega (arith, two.done.survives.clean, clean) in it in
      record {
        done = record {
          made = λ clean inside has.
              let rows = one.made (early clean) inside has in
              let same = batch_is first (next_rowid ((state g old).now.trees 1)) count (pos (length records)) (first_is ∙ named (early clean) inside has) count_is in
              ok_then r _ _ (two.done.made clean rows.mode rows.grown.schema) (λ put. puts_whole client serial stamp records (state g old) (state g mid) (state g new) rows (subst (λ b. PutsBatch b (state g mid) (state g new)) same put));
          inside = λ clean inside. two.done.inside clean (one.inside (early clean) inside);
          kept = λ clean inside. keeps_then (state g old) (state g mid) (state g new) (one.kept (early clean) inside) (two.done.kept clean (one.inside (early clean) inside));
          survives = survives_then (state g old) (state g mid) (state g new) _ _ (λ _. ⊥) (λ _ db none. none) (λ _ db none. none) one.survives two.done.survives;
        };
        opened = λ clean inside. two.opened clean (one.inside (early clean) inside);
      }
