-- Rows that a query gives one at a time, and what they read as.
use Rattle.std.proofs.Common.{◌≡◌, ◌==◌, ◌++◌, ◌<◌, ℕ, ℤ, zero, suc, List, [], ◌∷◌, length, take, false, None, Result, Ok, Err, IfOk, OnOk, OnErr, inl, inr, refl, sym, true, ap, subst, ◌∙◌, arith}
use Rattle.sqlite_trees.specs.declared.store.Store.{Ghosts}
use Rattle.sqlite_resolve.specs.declared.compiled.Compiled.{Compiled}
use Rattle.sqlite_resolve.specs.declared.error.CompileError.{CompileError}
use Rattle.sqlite.specs.declared.types.Value.TheVariants.{Int}
use Rattle.sqlite.specs.Order.{Row as Values}
use Rattle.sqlite.specs.Listing.{understood}
use Rattle.sqlite.specs.Given.{Returns, HasGiven, HasBegun}
use Rattle.sqlite.specs.Held.{Held, state}
use Rattle.sqlite.specs.State.{Shown, IsUnchanged}
use Rattle.sqlite.specs.Effect.{Database}
use Rattle.sqlite.proofs.Callers.{given_begin}
use Rattle.dns_keeper.specs.declared.row.Row.{Row}
use Rattle.dns_sqlite.specs.Tables.{from_text, HasRows}
use Rattle.dns_sqlite.specs.Statements.{HasRecords}
use Rattle.dns_sqlite.specs.Reads.{ReadsAs, AreRead, HasPage}
use Rattle.dns_sqlite.proofs.Finds.{finds, begins}
use Rattle.dns_sqlite.proofs.Selects.{from_bare, never_returns}

-- one more row is read
pub read_more : (shown : List Values) (rows : List Row) (s : Values) (r : Row) → AreRead shown rows → ReadsAs s r → AreRead (shown ++ s ∷ []) (rows ++ r ∷ [])
read_more [] [] s r all one = (one, tt)
read_more [] (x ∷ rows) s r all one = absurd all
read_more (f ∷ shown) [] s r all one = absurd all
read_more (f ∷ shown) (x ∷ rows) s r all one = (all.0, read_more shown rows s r all.1 one)

front : {X : Type 0} (n : ℕ) (xs ys all : List X) → xs ++ ys ≡ take n all → xs ≡ take (length xs) all
front n [] ys all e = refl
front zero (x ∷ xs) ys all e = absurd (cc)
front (suc n) (x ∷ xs) ys [] e = absurd (cc)
front (suc n) (x ∷ xs) ys (a ∷ all) e =
    let one : x ≡ a = cc in
    let more : xs ++ ys ≡ take n all = cc in
    ap (λ z. z ∷ xs) one ∙ ap (λ zs. a ∷ zs) (front n xs ys all more)

-- the first of the rows that are found are so many of them
fewer : (count : ℕ) (id : ℤ) (table shown tail : List Values) → HasRows count id table (shown ++ tail) → HasRows (length shown) id table shown
fewer count id table shown tail h = (h.0, h.1, h.2, front count shown tail _ h.3)

module _ {S : Type 0} (g : Ghosts S) (old mid : Held S) (id : ℤ) (given : List Values) (rows : List Row) (has : HasRecords (state g old).now) (same : (state g mid).now ≡ (state g old).now)
    (gives : HasGiven g from_text (Int id ∷ []) mid given) (read : AreRead given rows) where
  schema_is : HasRecords (state g mid).now
  schema_is = subst HasRecords (sym same) has

  moved : HasPage id ((state g mid).now.trees 1) rows → HasPage id ((state g old).now.trees 1) rows
  moved = subst (λ (d : Database). HasPage id (d.trees 1) rows) same

  -- where the query ends, what it has given is a page
  pub whole_page : (new : Held S) → Shown from_text (Int id ∷ []) (state g mid) (state g new) given → HasPage id ((state g old).now.trees 1) rows
  whole_page new shown = moved (127, given, finds (state g mid) (state g new) id given schema_is shown, read)

  part : (given : List Values) (rows : List Row) (tail : List Values) → HasRows 128 id ((state g mid).now.trees 1) (given ++ tail) → AreRead given rows → 0 < length rows → HasPage id ((state g mid).now.trees 1) rows
  part [] [] tail found read some = absurd (omega (arith, some))
  part [] (r ∷ rows) tail found read some = absurd read
  part (f ∷ given) rows tail found read some = (length given, f ∷ given, fewer 128 id ((state g mid).now.trees 1) (f ∷ given) tail found, read)

  -- where it has given a row, so it is before its end
  pub part_page : (state g mid).is_open ≡ true → 0 < length rows → HasPage id ((state g old).now.trees 1) rows
  part_page is_open some =
      let it = begins (state g mid) id given schema_is is_open (given_begin g from_text (Int id ∷ []) mid given gives) in
      moved (part given rows it.0 it.1 read some)

pub not_none : (n : ℕ) → (n == 0) ≡ false → 0 < n
not_none zero e = absurd (cc)
not_none (suc n) e = omega arith

-- ---- where a query begins

returns_none : {X : Type 0} (r : Result Compiled CompileError) → ((c : Compiled) → r ≡ Ok c → c.returning ≡ None) → Returns r → X
returns_none (Ok c) none returns = absurd (let is = none c refl in cc)
returns_none (Err e) none returns = absurd returns

-- The query writes nothing, so it is at its start.
pub begun : {S : Type 0} (g : Ghosts S) (old new : Held S) (params : Values) → HasBegun g from_text params old new → HasGiven g from_text params new [] × IsUnchanged (state g old) (state g new)
begun g old new params (inl h) = h
begun g old new params (inr h) = returns_none (understood old.schema from_text) (never_returns from_text from_bare old.schema) h.0

-- ---- results

pub on_ok : {T E : Type 0} (r : Result T E) (X : Type 0) → X → OnOk r X
on_ok (Ok t) X x = x
on_ok (Err e) X x = tt

pub on_err : {T E : Type 0} (r : Result T E) (X : Type 0) → X → OnErr r X
on_err (Ok t) X x = tt
on_err (Err e) X x = x

pub err_then : {T E : Type 0} (r : Result T E) (X Y : Type 0) → OnErr r X → (X → Y) → OnErr r Y
err_then (Ok t) X Y one more = tt
err_then (Err e) X Y one more = more one

pub ok_both : {T E : Type 0} (r : Result T E) (P R : T → Type 0) (Q : Type 0) → IfOk r P → OnOk r Q → ((t : T) → P t → Q → R t) → IfOk r R
ok_both (Ok t) P R Q one two both = both t one two
ok_both (Err e) P R Q one two both = tt

pub on_either : {T E : Type 0} (r : Result T E) (P Q X : Type 0) → OnOk r P → OnErr r Q → (P → X) → (Q → X) → X
on_either (Ok t) P Q X one two f h = f one
on_either (Err e) P Q X one two f h = h two
