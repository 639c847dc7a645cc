-- What the program was given, and what stands when it ended.
use Rattle.std.specs.Prelude.{◌≡◌, ℕ, List, Option}
use Rattle.dns_keeper.specs.Keeping.{KeeperTold}
use Rattle.dns_edges.specs.Edges.{Around, SinkTold}

-- the words of the command line, the journal that is read, the one that may be written, the output, and the clock's reading, where it was
-- asked
pub record World : Type 0 where
  pub words : List (List ℕ)
  pub journal : Around KeeperTold
  pub into : Around KeeperTold
  pub output : Around SinkTold
  pub moment : Option ℕ

-- the count of faults of a journal stood still
abbrev pub IsStill : Around KeeperTold → Type 0
IsStill journal = journal.after.faults ≡ journal.before.faults
