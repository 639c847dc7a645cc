-- A query shows what it finds, and returns nothing that is written, whatever the schema.
use Rattle.std.proofs.Common.{◌≡◌, ◌+◌, ℕ, List, [], Bool, true, false, Option, Some, None, Ok, Err, IsSome, refl, sym, ap, subst, ◌∙◌, inl, inr}
use Rattle.std.proofs.lemmas.Bool.{cases_Bool}
use Rattle.sqlite.specs.Order.{Row}
use Rattle.sqlite.specs.Schema.{Schema}
use Rattle.sqlite.specs.Tree.{Trees}
use Rattle.sqlite_schema.specs.declared.command.Command.{Command}
use Rattle.sqlite_schema.specs.declared.command.Returning.{Returning}
use Rattle.sqlite_resolve.specs.declared.compiled.Compiled.{Compiled}
use Rattle.sqlite_resolve.specs.Lowering.{Checked, and_then}
use Rattle.sqlite_resolve.specs.Compile.{compiled, planned, meaning, returning, command, timed, first, with_command, small}
use Rattle.sqlite_syntax.specs.declared.statement.Parsed.{Parsed}
use Rattle.sqlite_tied.specs.Compute.{everything}
use Rattle.sqlite_ast.specs.declared.Statement.{Statement}
use Rattle.sqlite_ast.specs.declared.Statement.TheVariants as written
use Rattle.sqlite.specs.Clock.{timed as with_time}
use Rattle.sqlite.specs.Listing.{understood, reads_listing, listing_schema, if_select, is_select}
use Rattle.sqlite.specs.State.{State, Shown, ShowsRows, IsUnchanged, CommitsShowing}
use Rattle.dns_sqlite.specs.Versions.{version_text, ShowsVersions}
use Rattle.dns_sqlite.proofs.Texts.{from_text}

inv : {A B : Type 0} (x : Checked A) (f : A → Checked B) (b : B) → and_then x f ≡ Ok b → (a : A) × (x ≡ Ok a) × (f a ≡ Ok b)
inv (Ok a) f b e = (a, refl, e)
inv (Err x) f b e = absurd (cc)

abbrev pub bare_by : Statement → Bool
bare_by (written.Insert how name columns rows clauses shown) = false
bare_by (written.Update name sets test shown) = false
bare_by (written.Delete name test shown) = false
bare_by _ = true

bare_is : (s : Schema) (base : ℕ) (st : Statement) → bare_by st ≡ true → returning s base st ≡ Ok None
unfolding returning
bare_is s base (written.Insert how name columns rows clauses shown) e = absurd (cc)
bare_is s base (written.Update name sets test shown) e = absurd (cc)
bare_is s base (written.Delete name test shown) e = absurd (cc)
bare_is s base _ e = refl

abbrev pub bare_of : Checked Parsed → Bool
bare_of (Ok p) = bare_by p.statement
bare_of (Err e) = true

pub from_bare : bare_of (first from_text) ≡ true
unfolding everything
from_bare = refl

pub version_bare : bare_of (first version_text) ≡ true
unfolding everything
version_bare = refl

chosen : (r : Checked Compiled) (c : Compiled) → if_select r ≡ Ok c → r ≡ Ok c
chosen (Ok k) c e = elim (cases_Bool (is_select k.command)) [
  | inl selects ↦ rw selects at e
  | inr other ↦ absurd (let it = rw other at e in cc)
]
chosen (Err k) c e = absurd (cc)

module _ (text : List ℕ) (is_bare : bare_of (first text) ≡ true) where
  compiled_bare : (s : Schema) (c : Compiled) → compiled s text ≡ Ok c → c.returning ≡ None
  unfolding compiled planned meaning
  compiled_bare s c e =
      let one = inv (first text) (λ p. and_then (planned s p) (λ plan. Ok (with_command p plan))) c e in
      let p = one.0 in
      let bare : bare_by p.statement ≡ true = ap bare_of (sym one.1) ∙ is_bare in
      let two = inv (planned s p) (λ plan. Ok (with_command p plan)) c one.2 in
      let formats = timed s p.formats p.statement in
      let base = small p.names + small formats in
      let three = inv (meaning s p base) (λ found. Ok (formats, found)) two.0 two.1 in
      let four = inv (returning s base p.statement) (λ shown. and_then (command s p.formats base p.statement) (λ k. Ok (k, shown))) three.0 three.1 in
      let none : Ok four.0 ≡ Ok None = sym four.1 ∙ bare_is s base p.statement bare in
      let five = inv (command s p.formats base p.statement) (λ k. Ok (k, four.0)) three.0 four.2 in
      let a : with_command p two.0 ≡ c = cc in
      let b : (formats, three.0) ≡ two.0 = cc in
      let d : (five.0, four.0) ≡ three.0 = cc in
      let f : four.0 ≡ None = cc in
      sym (ap (λ (k : Compiled). k.returning) a) ∙ sym (ap (λ (k : List (List ℕ) × (Command × Option Returning)). k.1.1) b) ∙ sym (ap (λ (k : Command × Option Returning). k.1) d) ∙ f

  pub never_returns : (s : Schema) (c : Compiled) → understood s text ≡ Ok c → c.returning ≡ None
  unfolding understood
  never_returns s c e = elim (cases_Bool (reads_listing s text)) [
    | inl listing ↦ compiled_bare listing_schema c (chosen (compiled listing_schema text) c (rw listing at e))
    | inr plain ↦ compiled_bare s c (rw plain at e)
  ]

  -- so it commits nothing, whatever the schema
  pub shows_nothing : (params : Row) (s : State) (db : Trees) → ¬ CommitsShowing text params s db
  unfolding CommitsShowing
  shows_nothing params s db h = let none : h.0.returning ≡ None = never_returns s.now.schema h.0 h.1.is in let some : IsSome {T = Returning} None = subst (λ (o : Option Returning). IsSome o) none h.2 in cc

  -- and it leaves the database as it was
  pub shown_same : (params : Row) (old new : State) (rows : List Row) → Shown text params old new rows → IsUnchanged old new
  unfolding Shown
  shown_same params old new rows h = go h.0.returning (never_returns old.now.schema h.0 h.1.is) h.2
    where
      go : (o : Option Returning) → o ≡ None → ShowsRows old new text h.0 (with_time params h.0.formats h.1.now) rows o → IsUnchanged old new
      go None e shows = shows.3
      go (Some what) e shows = absurd (cc)

-- what is shown of the version is shown of the database
pub shown_versions : (old new : State) (rows : List Row) → Shown version_text [] old new rows → ShowsVersions old.now rows
unfolding Shown
shown_versions old new rows h = go h.0.returning (never_returns version_text version_bare old.now.schema h.0 h.1.is) h.2
  where
    go : (o : Option Returning) → o ≡ None → ShowsRows old new version_text h.0 (with_time [] h.0.formats h.1.now) rows o → ShowsVersions old.now rows
    go None e shows = (h.0, h.1.is, h.1.now, shows.0, shows.1, shows.2)
    go (Some what) e shows = absurd (cc)
