-- What the program was given, and what stands when it ended.
use Rattle.std.specs.Prelude.{◌≡◌, ℕ, List, Option}
use Rattle.dns_keeper.specs.Keeping.{KeeperTold}
use Rattle.dns_edges.specs.Edges.{Around, SourceTold, SinkTold}
pub use Rattle.dns_words.specs.Writing.{IsAsked}

-- the words of the command line, the zone text, the event text, the journal, the output, what says of a text that the output wanted memory
-- for it, and the clock's reading, where it was asked
pub record World : Type 1 where
  pub words : List (List ℕ)
  pub zone : Around SourceTold
  pub events : Around SourceTold
  pub journal : Around KeeperTold
  pub output : Around SinkTold
  pub wants : List ℕ → Type 0
  pub moment : Option ℕ

-- the count of faults of a source stood still
abbrev pub IsStill : Around SourceTold → Type 0
IsStill source = source.after.faults ≡ source.before.faults

-- and that of the journal
abbrev pub IsStillJournal : Around KeeperTold → Type 0
IsStillJournal journal = journal.after.faults ≡ journal.before.faults
