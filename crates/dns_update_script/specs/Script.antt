-- The messages that the lines of an update script ask for, told over the lines that were read up to each `send`.
use Rattle.std.specs.Prelude.{◌≡◌, ℕ, ◌+◌, ◌-◌, Bool, true, false, List, [], ◌∷◌, ◌++◌, length, Option, Some, None, Result, Ok, Err}
use Rattle.std.specs.List.{after_last, filter_map, position_from}
use Rattle.std.specs.Option.{option_or}
use Rattle.dns_wire.specs.declared.record.Record.{Record}
use Rattle.dns_presentation.specs.Lines.{lines_of}
use Rattle.dns_update_script.specs.declared.fault.ScriptKind.{ScriptKind}
use Rattle.dns_update_script.specs.declared.fault.ScriptKind.TheVariants.{NoZone, Unsent}
use Rattle.dns_update_script.specs.declared.fault.ScriptFault.{ScriptFault}
use Rattle.dns_update_script.specs.declared.fault.ScriptFault.TheVariants.{Refused, OutOfMemory}
use Rattle.dns_update_script.specs.declared.line.Line.{Line}
use Rattle.dns_update_script.specs.declared.line.Line.TheVariants.{Zone, Prerequisite, Change, Send}
use Rattle.dns_update_script.specs.declared.script.Sending.{Sending}
use Rattle.dns_update_script.specs.Line.{line_of}

-- the line ends a message
abbrev pub is_send : Line → Bool
is_send Send = true
is_send other = false

-- the zone, the prerequisite and the change of a line
abbrev pub zone_of : Line → Option (List (List ℕ))
zone_of (Zone name) = Some name
zone_of other = None

abbrev pub prerequisite_in : Line → Option Record
prerequisite_in (Prerequisite r) = Some r
prerequisite_in other = None

abbrev pub change_in : Line → Option Record
change_in (Change r) = Some r
change_in other = None

-- the line is a prerequisite or a change
abbrev pub is_update : Line → Bool
is_update (Prerequisite r) = true
is_update (Change r) = true
is_update other = false

-- the zone that stands last among lines
abbrev pub last_zone : List Line → Option (List (List ℕ))
last_zone [] = None
last_zone (line ∷ lines) = option_or (last_zone lines) (zone_of line)

-- the lines behind the last `send`
abbrev pub unsent : List Line → List Line
unsent front = after_last is_send front

-- what a `send` behind these lines sends to the zone: the prerequisites and changes since the `send` before, in order
abbrev pub sending_to : Option (List (List ℕ)) → List Line → Result Sending ScriptKind
sending_to None lines = Err NoZone
sending_to (Some zone) lines = Ok (record {
  zone = zone;
  prerequisites = filter_map prerequisite_in lines;
  changes = filter_map change_in lines;
})

abbrev pub sending_behind : List Line → Result Sending ScriptKind
sending_behind front = sending_to (last_zone front) (unsent front)

-- the number, from 1, of the first line behind the last `send` that is a prerequisite or a change
abbrev pub first_unsent : List Line → Option ℕ
first_unsent front = position_from is_update (length front - length (unsent front) + 1) (unsent front)

-- at the end nothing may be left that was not sent
abbrev pub ended : Option ℕ → Result (List Sending) ScriptFault
ended None = Ok []
ended (Some line) = Err (Refused line Unsent)

-- what comes of a line with this number, unless it is at fault
abbrev pub at_line : {X : Type 0} → ℕ → Result X ScriptKind → (X → Result (List Sending) ScriptFault) → Result (List Sending) ScriptFault
at_line number (Ok x) more = more x
at_line number (Err wrong) more = Err (Refused number wrong)

-- a sending before the others
abbrev pub before : Sending → Result (List Sending) ScriptFault → Result (List Sending) ScriptFault
before sending (Ok sendings) = Ok (sending ∷ sendings)
before sending (Err fault) = Err fault

-- the sendings from a line on that stands behind these, with those of the lines behind it
abbrev pub sent : List Line → Line → Result (List Sending) ScriptFault → Result (List Sending) ScriptFault
sent front Send more = at_line (length front + 1) (sending_behind front) (λ sending. before sending more)
sent front said more = more

-- the sendings of lines that stand behind these, or the first fault
abbrev pub sendings_from : List Line → List (List ℕ) → Result (List Sending) ScriptFault
sendings_from front [] = ended (first_unsent front)
sendings_from front (line ∷ lines) =
    at_line (length front + 1) (line_of line) (λ said. sent front said (sendings_from (front ++ said ∷ []) lines))

-- the sendings of a script, or the number of the first line at fault, from 1, and what is wrong with it
abbrev pub script_of : List ℕ → Result (List Sending) ScriptFault
script_of text = sendings_from [] (lines_of text)

-- why a script is refused, unless memory ran out
abbrev pub Tells : Result (List Sending) ScriptFault → ScriptFault → Type 0
Tells meant (Refused line wrong) = meant ≡ Err (Refused line wrong)
Tells meant OutOfMemory = Unit {0}
