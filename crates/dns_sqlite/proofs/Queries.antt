-- What a query leaves, whatever its text means.
use Rattle.std.proofs.Common.{◌≡◌, ◌⊎◌, inl, inr, ℕ, List, Option, Some, None, Result, Ok, Err, IfOk, IfErr, OnOk, OnErr, IsTrue, sym, ◌∙◌}
use Rattle.sqlite.specs.Order.{Row}
use Rattle.sqlite.specs.declared.error.Error.{Error}
use Rattle.sqlite_schema.specs.declared.command.Returning.{Returning}
use Rattle.sqlite_resolve.specs.declared.compiled.Compiled.{Compiled}
use Rattle.sqlite.specs.State.{State, Shown, ShowsRows, IsNotRun, FailsToQuery, FailsToShow, IsUnchanged, IsRolledBack}

module _ (old new : State) where
  shows_open : (sql : List ℕ) (c : Compiled) (params : Row) (rows : List Row) (o : Option Returning) → ShowsRows old new sql c params rows o → IsTrue old.is_open
  shows_open sql c params rows None h = h.3.0.was_open
  shows_open sql c params rows (Some what) h = h.1.shown.was_open

  pub shown_open : (sql : List ℕ) (params : Row) (rows : List Row) → Shown sql params old new rows → IsTrue old.is_open
  unfolding Shown
  shown_open sql params rows h = shows_open sql h.0 _ rows h.0.returning h.2

  fails_to_show : (sql : List ℕ) (c : Compiled) (params : Row) (e : Error) (o : Option Returning) → FailsToShow old new sql c params e o → IsUnchanged old new ⊎ IsRolledBack old new
  fails_to_show sql c params e None h = inl h.3
  fails_to_show sql c params e (Some what) (inl refused) = inl refused.1
  fails_to_show sql c params e (Some what) (inr failed) = inr failed.3

  pub fails_query : (sql : List ℕ) (params : Row) (e : Error) → FailsToQuery sql params old new e → IsUnchanged old new ⊎ IsRolledBack old new
  unfolding FailsToQuery IsNotRun
  fails_query sql params e (inl (inl refused)) = inl refused.1
  fails_query sql params e (inl (inr failed)) = inr failed.3
  fails_query sql params e (inr h) = fails_to_show sql h.0 _ e h.0.returning h.2

  pub stays : (IsTrue old.is_open → old.now ≡ old.committed) → IsUnchanged old new ⊎ IsRolledBack old new → IsTrue new.is_open → IsTrue old.is_open × (new.now ≡ old.now)
  stays settled (inl same) live = (same.0.was_open, same.0.now_is)
  stays settled (inr undone) live = let was = undone.was_open live in (was, (undone.undone live).0 ∙ sym (settled was))

pub either : {T E X : Type 0} (r : Result T E) (P : T → Type 0) (Q : E → Type 0) → IfOk r P → IfErr r Q → ((x : T) → P x → X) → ((e : E) → Q e → X) → X
either (Ok x) P Q h k f g = f x h
either (Err e) P Q h k f g = g e k

-- ---- what holds where something does

pub ok_where : {T E A B : Type 0} (r : Result T E) (P : T → Type 0) (Q : Type 0) → (A → IfOk r P) → (A → B → (x : T) → P x → Q) → OnOk r (A → B → Q)
ok_where (Ok x) P Q h f = λ a b. f a b x (h a)
ok_where (Err e) P Q h f = tt

pub err_where : {T E A B : Type 0} (r : Result T E) (P : E → Type 0) (Q : Type 0) → (A → IfErr r P) → (A → B → (e : E) → P e → Q) → OnErr r (A → B → Q)
err_where (Ok x) P Q h f = tt
err_where (Err e) P Q h f = λ a b. f a b e (h a)

pub each_ok : {T E A : Type 0} (r : Result T E) (P Q : T → Type 0) → (A → IfOk r P) → ((x : T) → P x → Q x) → IfOk r (λ x. A → Q x)
each_ok (Ok x) P Q h f = λ a. f x (h a)
each_ok (Err e) P Q h f = tt

pub each_err : {T E A : Type 0} (r : Result T E) (P : E → Type 0) → (A → IfErr r P) → IfErr r (λ e. A → P e)
each_err (Ok x) P h = tt
each_err (Err e) P h = h

pub ok_open : {T E : Type 0} (r : Result T E) (P : T → Type 0) (Q : Type 0) → IfOk r P → ((x : T) → P x → Q) → OnOk r Q
ok_open (Ok x) P Q h f = f x h
ok_open (Err e) P Q h f = tt

-- what is found under three premises
pub found_where : {T E A B C : Type 0} {U : C → Type 0} {V : C → Type 0} (r : Result T E) (P : T → C → Type 0) → (A → B → (c : C) → U c → V c → IfOk r (λ x. P x c)) → IfOk r (λ x. A → B → (c : C) → U c → V c → P x c)
found_where (Ok x) P h = h
found_where (Err e) P h = tt
