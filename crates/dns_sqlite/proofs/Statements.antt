-- How statements follow one another inside a transaction.
use Rattle.std.proofs.Common.{Result, Ok, Err, OnOk, IsErr, arith}
use Rattle.sqlite.specs.declared.error.Error.{Error}
use Rattle.sqlite.specs.Effect.{Database}
use Rattle.sqlite.specs.State.{State, HasCleanDisk}
use Rattle.sqlite.specs.Store.{Ghosts}
use Rattle.sqlite.specs.Held.{Held, state}
use Rattle.sqlite.proofs.StateLemmas.{survives_then}
use Rattle.sqlite.proofs.InsideLemmas.{keeps_then}
use Rattle.dns_sqlite.specs.Statements.{Statement, Statements}

pub ok_then : {T E : Type 0} (r : Result T E) (P Q : Type 0) → OnOk r P → (P → Q) → OnOk r Q
ok_then (Ok x) P Q one more = more one
ok_then (Err e) P Q one more = tt

-- where it was refused, nothing is said of what it does where it is done
pub not_done : {T E : Type 0} (r : Result T E) (P : Type 0) → IsErr r → OnOk r P
not_done (Ok x) P bad = absurd (cc)
not_done (Err e) P bad = tt

module _ {S : Type 0} (g : Ghosts S) where
  -- what was refused made nothing
  pub refused_on : {T U : Type 0} (From To : Database → Type 0) (Makes Made : State → State → Type 0) (old new : Held S) (e : Error) (r : Result U Error) → IsErr r → Statements {T = T} g From Makes old new (Err e) → Statements g To Made old new r
  refused_on From To Makes Made old new e r bad one = record { made = λ _ _ _. not_done r _ bad; inside = λ _ _. not_done r _ bad; kept = one.kept; survives = one.survives }

  pub refused : {T U : Type 0} (From To : Database → Type 0) (Makes Made : State → State → Type 0) (old new : Held S) (e : Error) (r : Result U Error) → IsErr r → Statement {T = T} g From Makes old new (Err e) → Statement g To Made old new r
  refused From To Makes Made old new e r bad one = record {
    done = refused_on From To Makes Made old new e r bad one.done;
    opened = λ _ _. not_done r _ bad;
  }

  -- so where the first of two was refused, that is not known to have left the connection open
  pub refused_first : {T U : Type 0} (From To : Database → Type 0) (Makes Made : State → State → Type 0) (old new : Held S) (e : Error) (r : Result U Error) → IsErr r → Statements {T = T} g From Makes old new (Err e) → Statement g To Made old new r
  refused_first From To Makes Made old new e r bad one = record {
    done = refused_on From To Makes Made old new e r bad one;
    opened = λ _ _. not_done r _ bad;
  }

  -- what is answered where they are done does not matter
  pub answers : {T U : Type 0} (From : Database → Type 0) (Makes : State → State → Type 0) (old new : Held S) (x : T) (y : U) → Statements g From Makes old new (Ok x) → Statements g From Makes old new (Ok y)
  answers From Makes old new x y one = record { made = one.made; inside = one.inside; kept = one.kept; survives = one.survives }

  -- it leads from fewer databases too
  pub from_fewer : {T : Type 0} (From To : Database → Type 0) (Makes : State → State → Type 0) (old new : Held S) (r : Result T Error) → ((d : Database) → To d → From d) → Statement g From Makes old new r → Statement g To Makes old new r
  from_fewer From To Makes old new r fewer one = record {
    done = record { made = λ clean inside from. one.done.made clean inside (fewer (state g old).now from); inside = one.done.inside; kept = one.done.kept; survives = one.done.survives };
    opened = one.opened;
  }

  -- statements, and others from what they made
  pub follows_on : {T U : Type 0} (From Mid : Database → Type 0) (Makes Made After : State → State → Type 0) (old mid new : Held S) (x : T) (r : Result U Error) → (Makes (state g old) (state g mid) → Mid (state g mid).now)
      → (Makes (state g old) (state g mid) → Made (state g mid) (state g new) → After (state g old) (state g new)) → Statements g From Makes old mid (Ok x) → Statements g Mid Made mid new r → Statements g From After old new r
  follows_on From Mid Makes Made After old mid new x r between both one two =
      let early = λ (clean : HasCleanDisk (state g new)). let it : HasCleanDisk (state g mid) = omega (arith, two.survives.clean, clean) in it in
      record {
        made = λ clean inside from.
            let first = one.made (early clean) inside from in
            ok_then r _ _ (two.made clean (one.inside (early clean) inside) (between first)) (both first);
        inside = λ clean inside. two.inside clean (one.inside (early clean) inside);
        kept = λ clean inside. keeps_then (state g old) (state g mid) (state g new) (one.kept (early clean) inside) (two.kept clean (one.inside (early clean) inside));
        survives = survives_then (state g old) (state g mid) (state g new) _ _ (λ _. ⊥) (λ _ db none. none) (λ _ db none. none) one.survives two.survives;
      }

  -- and one statement behind them
  pub follows_all : {T U : Type 0} (From Mid : Database → Type 0) (Makes Made After : State → State → Type 0) (old mid new : Held S) (x : T) (r : Result U Error) → (Makes (state g old) (state g mid) → Mid (state g mid).now)
      → (Makes (state g old) (state g mid) → Made (state g mid) (state g new) → After (state g old) (state g new)) → Statements g From Makes old mid (Ok x) → Statement g Mid Made mid new r → Statement g From After old new r
  follows_all From Mid Makes Made After old mid new x r between both one two =
      let early = λ (clean : HasCleanDisk (state g new)). let it : HasCleanDisk (state g mid) = omega (arith, two.done.survives.clean, clean) in it in
      record {
        done = follows_on From Mid Makes Made After old mid new x r between both one two.done;
        opened = λ clean inside. two.opened clean (one.inside (early clean) inside);
      }

  pub follows : {T U : Type 0} (From Mid : Database → Type 0) (Makes Made After : State → State → Type 0) (old mid new : Held S) (x : T) (r : Result U Error) → (Makes (state g old) (state g mid) → Mid (state g mid).now)
      → (Makes (state g old) (state g mid) → Made (state g mid) (state g new) → After (state g old) (state g new)) → Statement g From Makes old mid (Ok x) → Statement g Mid Made mid new r → Statement g From After old new r
  follows From Mid Makes Made After old mid new x r between both one two = follows_all From Mid Makes Made After old mid new x r between both one.done two
