-- An update script, read line by line: what is kept of the lines before.
use Rattle.std.specs.Prelude.{ℕ, ◌+◌, List, [], ◌∷◌, ◌++◌, Option, Some, None, Result, Ok, Err}
use Rattle.std.specs.Option.{option_or}
use Rattle.dns_wire.specs.declared.record.Record.{Record}
use Rattle.dns_update_script.specs.declared.fault.ScriptKind.{ScriptKind}
use Rattle.dns_update_script.specs.declared.fault.ScriptKind.TheVariants.{NoZone}
use Rattle.dns_update_script.specs.declared.fault.ScriptFault.{ScriptFault}
use Rattle.dns_update_script.specs.declared.line.Line.{Line}
use Rattle.dns_update_script.specs.declared.line.Line.TheVariants.{Nothing, Zone, Prerequisite, Change, Send}
use Rattle.dns_update_script.specs.declared.script.Sending.{Sending}
use Rattle.dns_update_script.specs.declared.script.Reading.{Reading}
use Rattle.dns_update_script.specs.Line.{line_of}
use Rattle.dns_update_script.specs.Script.{ended, at_line, before}

-- what is kept of lines: how many they are, the last zone, and what was not sent yet, with the number of its first line
pub record Standing : Type 0 where
  pub lines : ℕ
  pub zone : Option (List (List ℕ))
  pub prerequisites : List Record
  pub changes : List Record
  pub first : Option ℕ

-- what is kept behind one line more
abbrev pub kept : Standing → Line → Standing
kept s Nothing = record s { lines = s.lines + 1 }
kept s (Zone name) = record s { lines = s.lines + 1; zone = Some name }
kept s (Prerequisite r) = record s {
  lines = s.lines + 1;
  prerequisites = s.prerequisites ++ r ∷ [];
  first = option_or s.first (Some (s.lines + 1));
}
kept s (Change r) = record s { lines = s.lines + 1; changes = s.changes ++ r ∷ []; first = option_or s.first (Some (s.lines + 1)) }
kept s Send = record s { lines = s.lines + 1; prerequisites = []; changes = []; first = None }

-- what a `send` sends
abbrev pub sending_at : Option (List (List ℕ)) → Standing → Result Sending ScriptKind
sending_at None s = Err NoZone
sending_at (Some zone) s = Ok (record { zone = zone; prerequisites = s.prerequisites; changes = s.changes })

abbrev pub sent_at : Standing → Line → Result (List Sending) ScriptFault → Result (List Sending) ScriptFault
sent_at s Send more = at_line (s.lines + 1) (sending_at s.zone s) (λ sending. before sending more)
sent_at s said more = more

-- the sendings of the lines that are left
abbrev pub sendings_behind : Standing → List (List ℕ) → Result (List Sending) ScriptFault
sendings_behind s [] = ended s.first
sendings_behind s (line ∷ lines) = at_line (s.lines + 1) (line_of line) (λ said. sent_at s said (sendings_behind (kept s said) lines))

-- sendings that were found before those of the lines that are left
abbrev pub ahead : List Sending → Result (List Sending) ScriptFault → Result (List Sending) ScriptFault
ahead found (Ok sendings) = Ok (found ++ sendings)
ahead found (Err fault) = Err fault

-- what a reading keeps
abbrev pub standing : Reading → Standing
standing r = record { lines = r.lines; zone = r.zone; prerequisites = r.prerequisites; changes = r.changes; first = r.first }

-- what the script gives, where these lines are left
abbrev pub given_by : Reading → List (List ℕ) → Result (List Sending) ScriptFault
given_by state lines = ahead state.sendings.items (sendings_behind (standing state) lines)

-- what the script gives behind a line that says this
abbrev pub given_behind : Reading → Line → List (List ℕ) → Result (List Sending) ScriptFault
given_behind state said lines =
    ahead state.sendings.items (sent_at (standing state) said (sendings_behind (kept (standing state) said) lines))
