-- How a run of the program ends, and the line that a refusal writes.
use Rattle.std.specs.Prelude.{ℕ, ◌++◌, List, [], Bool, true, false, codes}
use Rattle.std.specs.Fmt.{decimal}
use Rattle.dns_edges.specs.declared.to_end.ReadFault.{ReadFault}
use Rattle.dns_edges.specs.declared.to_end.ReadFault.TheVariants as read
use Rattle.dns_zone.specs.ZoneText.{kind_text}
use Rattle.dns_update_script.specs.declared.fault.ScriptKind.{ScriptKind}
use Rattle.dns_update_script.specs.declared.fault.ScriptKind.TheVariants as kind
use Rattle.dns_update_script.specs.declared.fault.ScriptFault.{ScriptFault}
use Rattle.dns_update_script.specs.declared.fault.ScriptFault.TheVariants as script
use Rattle.dns_update_client.specs.declared.submit_fault.SubmitFault.{SubmitFault}
use Rattle.dns_update_client.specs.declared.submit_fault.SubmitFault.TheVariants as submit
use Rattle.dns_update_client.specs.declared.status.UpdateStatus.{UpdateStatus}
use Rattle.dns_update_client.specs.declared.status.UpdateStatus.TheVariants as status

-- the status that the process ends with
abbrev pub status_number : UpdateStatus → ℕ
status_number status.Ok = 0
status_number status.Usage = 1
status_number status.ReadFault = 6
status_number status.WriteFault = 7
status_number status.TooLong = 9
status_number status.OutOfMemory = 10
status_number (status.Script line kind) = 20
status_number status.Ended = 21
status_number status.Mismatch = 22
status_number status.NotReply = 23
status_number status.Proto = 24

-- what is wrong with a line of the script
abbrev pub script_kind_text : ScriptKind → List ℕ
script_kind_text kind.Word = codes "Word"
script_kind_text kind.Name = codes "Name"
script_kind_text kind.RecordType = codes "Type"
script_kind_text (kind.Entry wrong) = kind_text wrong
script_kind_text kind.NoZone = codes "NoZone"
script_kind_text kind.Unsent = codes "Unsent"

-- the line that a run which ends so writes in place of its output; none after a fault of writing or want of memory
abbrev pub refusal_line : UpdateStatus → List ℕ
refusal_line status.Ok = []
refusal_line status.Usage = codes "usage\n"
refusal_line status.ReadFault = codes "read fault\n"
refusal_line status.WriteFault = []
refusal_line status.TooLong = codes "too long\n"
refusal_line status.OutOfMemory = []
refusal_line (status.Script line kind) = codes "script line " ++ (decimal line ++ (codes ": " ++ (script_kind_text kind ++ codes "\n")))
refusal_line status.Ended = codes "ended\n"
refusal_line status.Mismatch = codes "mismatch\n"
refusal_line status.NotReply = codes "notreply\n"
refusal_line status.Proto = codes "proto\n"

-- whether a refusal writes a line
abbrev pub has_line : UpdateStatus → Bool
has_line status.WriteFault = false
has_line status.OutOfMemory = false
has_line status.Ok = true
has_line status.Usage = true
has_line status.ReadFault = true
has_line status.TooLong = true
has_line (status.Script line kind) = true
has_line status.Ended = true
has_line status.Mismatch = true
has_line status.NotReply = true
has_line status.Proto = true

-- the status of a script that was not read to its end
abbrev pub read_status : ReadFault → UpdateStatus
read_status read.Failed = status.ReadFault
read_status read.TooLong = status.TooLong
read_status read.OutOfMemory = status.OutOfMemory

-- the status of a script that is refused
abbrev pub script_status : ScriptFault → UpdateStatus
script_status (script.Refused line kind) = status.Script line kind
script_status script.OutOfMemory = status.OutOfMemory

-- the status of messages that were not all answered
abbrev pub submit_status : SubmitFault → UpdateStatus
submit_status (submit.Proto error) = status.Proto
submit_status submit.Write = status.WriteFault
submit_status submit.Read = status.ReadFault
submit_status (submit.Ended message) = status.Ended
submit_status (submit.Mismatch want got) = status.Mismatch
submit_status (submit.NotReply id) = status.NotReply
submit_status submit.OutOfMemory = status.OutOfMemory
