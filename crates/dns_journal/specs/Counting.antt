-- What the calls of a journal do to its count of faults.
use Rattle.std.specs.Prelude.{◌≡◌, ◌≤◌, ℕ, Result, Ok, Err}
use Rattle.dns_io.specs.Told.{Rose}
use Rattle.dns_journal.specs.declared.error.PersistenceError.{PersistenceError}
use Rattle.dns_journal.specs.declared.error.PersistenceError.TheVariants.{Sqlite}

-- by a refusal: it rose where the connection refused, or the call does not go there, and stood still where not
abbrev pub CountsAs : ℕ → ℕ → PersistenceError → Type 0
CountsAs before now Sqlite = Rose before now
CountsAs before now _ = now ≡ before

-- by an answer
abbrev pub CountsBy : {T : Type 0} → ℕ → ℕ → Result T PersistenceError → Type 0
CountsBy before now (Ok value) = now ≡ before
CountsBy before now (Err e) = CountsAs before now e

-- a count of faults before a call and after it: it never falls, it rises where the call answers Sqlite, and only there
pub record HasCause {T : Type 0} (before now : ℕ) (result : Result T PersistenceError) : Type 0 where
  pub later : before ≤ now
  pub counts : CountsBy before now result
