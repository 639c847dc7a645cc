-- The steps of a batch.
use Rattle.std.proofs.lemmas.List.{take_all}
use Rattle.std.proofs.Common.{◌≡◌, ◌<◌, ◌-◌, length, get_or, take, drop, ◌++◌, ℕ, List, [], ◌∷◌, true, false, Ok, Err, Result, OnOk, OnErr, IsTrue, refl, sym, subst, ◌∙◌, arith, inl, inr}
use Rattle.sqlite.specs.declared.error.Error.{Error}
use Rattle.sqlite.specs.Steps.{FailsToCommit}
use Rattle.sqlite.specs.Order.{Row}
use Rattle.sqlite.specs.State.{State, Survives, KeepsCommit, IsRolledBack, ExecutesInside}
use Rattle.sqlite.proofs.InsideLemmas.{keeps_then}
use Rattle.sqlite.specs.Edit.{is_taken}
use Rattle.sqlite.specs.Tree.{put_row}
use Rattle.dns_sqlite.specs.Tables.{stored_batch}
use Rattle.dns_sqlite.specs.Statements.{HasTables}
use Rattle.dns_sqlite.specs.Migration.{PutsBatch}
use Rattle.dns_sqlite.specs.Batch.{next_batch, ArePut, PutsOne, PutsAll, PutsWhole}
use Rattle.dns_sqlite.proofs.Rows.{put_more}

pub survives_none : (s : State) → Survives s s (λ _. ⊥)
survives_none s = record { clean = omega arith; shield = λ h. h; counts = omega arith; limit = refl; closes = λ _ h. inl h; crash = λ _ db h. inl h }

module _ (client serial : ℕ) (stamp : List ℕ) where
  pub puts_none : (s : State) → IsTrue s.in_transaction → HasTables s.now → PutsAll client serial stamp [] s s
  puts_none s inside has = record {
    grown = record { schema = has; rows = refl; others = λ t _. refl; sound = λ h. h };
    commit = record { was_open = λ h. h; committed = λ _. refl };
    mode = inside;
  }

  pub puts_more : (records : List (List ℕ)) (bytes : List ℕ) (old mid new : State) → PutsAll client serial stamp records old mid → PutsOne client serial stamp bytes mid new → KeepsCommit mid new
      → PutsAll client serial stamp (records ++ bytes ∷ []) old new
  puts_more records bytes old mid new done one kept = record {
    grown = record {
      schema = one.schema;
      rows = subst (ArePut client serial stamp (records ++ bytes ∷ []) (old.now.trees 1)) (sym one.rows) (put_more client serial stamp records (old.now.trees 1) (mid.now.trees 1) bytes done.grown.rows one.free);
      others = λ t other. one.others t other ∙ done.grown.others t other;
      sound = λ _. one.sound;
    };
    commit = keeps_then old mid new done.commit kept;
    mode = one.mode;
  }

  -- a first row, and those behind it
  pub puts_first : (bytes : List ℕ) (more : List (List ℕ)) (old mid new : State) → PutsOne client serial stamp bytes old mid → KeepsCommit old mid → PutsAll client serial stamp more mid new → PutsAll client serial stamp (bytes ∷ more) old new
  puts_first bytes more old mid new one kept rest = record {
    grown = record {
      schema = rest.grown.schema;
      rows = (one.free, subst (λ rows. ArePut client serial stamp more rows (new.now.trees 1)) one.rows rest.grown.rows);
      others = λ t other. rest.grown.others t other ∙ one.others t other;
      sound = λ _. rest.grown.sound one.sound;
    };
    commit = keeps_then old mid new kept rest.commit;
    mode = rest.mode;
  }

  -- rows, and their batch
  pub puts_whole : (records : List (List ℕ)) (old mid new : State) → PutsAll client serial stamp records old mid → PutsBatch (next_batch (old.now.trees 1) records) mid new → PutsWhole client serial stamp records old new
  puts_whole records old mid new rows one = record {
    grown = record {
      schema = one.schema;
      rows = subst (ArePut client serial stamp records (old.now.trees 1)) (sym (one.others 1 (λ e. omega (arith, e)))) rows.grown.rows;
      batch = (
        subst (λ was. is_taken was (stored_batch (next_batch (old.now.trees 1) records)) ≡ false) (rows.grown.others 2 (λ e. omega (arith, e))) one.free,
        subst (λ was. new.now.trees 2 ≡ put_row (stored_batch (next_batch (old.now.trees 1) records)) was) (rows.grown.others 2 (λ e. omega (arith, e))) one.put,
      );
      others = λ t rest other. one.others t other ∙ rows.grown.others t rest;
      sound = one.sound;
    };
    mode = one.mode;
  }

-- what was committed before the transaction is there again after a rollback
module _ (old begun mid end : State) (settled : IsTrue old.is_open → old.now ≡ old.committed) (same : begun.committed ≡ old.committed) (opened : IsTrue begun.is_open → IsTrue old.is_open) (kept : KeepsCommit begun mid) where
  pub restored : IsRolledBack mid end → IsTrue end.is_open → (end.now ≡ old.now) × (end.committed ≡ old.committed)
  restored rolled live =
      let mid_live = rolled.was_open live in
      let undone = rolled.undone live in
      let back : mid.committed ≡ old.committed = kept.committed mid_live ∙ same in
      (undone.0 ∙ back ∙ sym (settled (opened (kept.was_open mid_live))), undone.1 ∙ back)

  pub uncommitted : (e : Error) → mid.in_transaction ≡ true → FailsToCommit mid end e → IsTrue end.is_open → (end.now ≡ old.now) × (end.committed ≡ old.committed)
  uncommitted e inside (inl fails) live = restored fails.3 live
  uncommitted e inside (inr ended) live = absurd (let it : true ≡ false = sym inside ∙ ended.1 in cc)

pub on_err : {T E : Type 0} (r : Result T E) (P : Type 0) → P → OnErr r P
on_err (Ok x) P h = tt
on_err (Err e) P h = h

pub stays_inside : (sql : List ℕ) (params : Row) (old new : State) (r : Result ℕ Error) → ExecutesInside 0 sql params old new r → OnOk r (new.in_transaction ≡ true)
stays_inside sql params old new (Ok count) h = h.1.mode
stays_inside sql params old new (Err e) h = tt

pub stays_open : (sql : List ℕ) (params : Row) (old new : State) (r : Result ℕ Error) → ExecutesInside 0 sql params old new r → OnOk r (IsTrue new.is_open)
stays_open sql params old new (Ok count) h = h.1.is_open
stays_open sql params old new (Err e) h = tt

-- a list with an element is its first and what stands behind it, as a slice pattern takes it apart
pub taken_apart : {X : Type 0} (xs : List X) (x : X) → 0 < length xs → x ≡ get_or xs 0 x → x ∷ take (length xs - 1) (drop 1 xs) ≡ xs
taken_apart [] x some e = absurd (omega (arith, some))
taken_apart (y ∷ ys) x some e = let n : length (y ∷ ys) - 1 ≡ length ys = omega arith in let all : take (length ys) ys ≡ ys = take_all (length ys) ys (omega arith) in rw (e, n, all) refl
