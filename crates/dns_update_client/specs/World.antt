-- What the program was given, and what stands when it ended.
use Rattle.std.specs.Prelude.{◌≡◌, ℕ, List}
use Rattle.dns_edges.specs.Edges.{Around, SourceTold, SinkTold}

-- the words of the command line, the script, what the server sends, what is sent to the server, and the output
pub record World : Type 0 where
  pub words : List (List ℕ)
  pub script : Around SourceTold
  pub input : Around SourceTold
  pub output : Around SinkTold
  pub out : Around SinkTold

-- no call of a source failed
abbrev pub IsCalm : Around SourceTold → Type 0
IsCalm source = source.after.faults ≡ source.before.faults

-- no call of a sink failed
abbrev pub IsSinkCalm : Around SinkTold → Type 0
IsSinkCalm sink = sink.after.faults ≡ sink.before.faults
