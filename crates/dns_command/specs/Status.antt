-- How a run of the program ends, and the line that a refusal writes.
use Rattle.std.specs.Prelude.{ℕ, ◌++◌, List, [], codes, Bool, true, false}
use Rattle.std.specs.Fmt.{decimal}
use Rattle.dns_io.specs.declared.io_fault.IoFault.{IoFault}
use Rattle.dns_io.specs.declared.io_fault.IoFault.TheVariants as io
use Rattle.dns_zone.specs.ZoneText.{kind_text}
use Rattle.dns_store.specs.RecoveryText.{recovery_line}
use Rattle.dns_edges.specs.declared.to_end.ReadFault.{ReadFault}
use Rattle.dns_edges.specs.declared.to_end.ReadFault.TheVariants as read
use Rattle.dns_command.specs.declared.status.Status.{Status}
use Rattle.dns_command.specs.declared.status.Status.TheVariants as status

-- the status that the process ends with
abbrev pub status_number : Status → ℕ
status_number status.Ok = 0
status_number status.Usage = 1
status_number (status.ZoneText line kind) = 2
status_number (status.EventLine line) = 3
status_number status.NotValid = 4
status_number (status.Recovery row kind) = 5
status_number status.ReadFault = 6
status_number status.WriteFault = 7
status_number status.KeeperFault = 8
status_number status.TooLong = 9
status_number status.OutOfMemory = 10
status_number status.PortFault = 11

-- the line that a run which ends so writes in place of its output; none after a fault of the output or want of memory
abbrev pub refusal_line : Status → List ℕ
refusal_line status.Ok = []
refusal_line status.Usage = codes "usage\n"
refusal_line (status.ZoneText line kind) = codes "zone text line " ++ (decimal line ++ (codes ": " ++ (kind_text kind ++ codes "\n")))
refusal_line (status.EventLine line) = codes "event line " ++ (decimal line ++ codes "\n")
refusal_line status.NotValid = codes "not valid\n"
refusal_line (status.Recovery row kind) = recovery_line row kind
refusal_line status.ReadFault = codes "read fault\n"
refusal_line status.WriteFault = []
refusal_line status.KeeperFault = codes "keeper fault\n"
refusal_line status.TooLong = codes "too long\n"
refusal_line status.OutOfMemory = []
refusal_line status.PortFault = codes "port fault\n"

-- a text, the journal or a port failed. An output that failed has no line, and is none of these
abbrev pub is_fault : Status → Bool
is_fault status.Ok = false
is_fault status.Usage = false
is_fault (status.ZoneText line kind) = false
is_fault (status.EventLine line) = false
is_fault status.NotValid = false
is_fault (status.Recovery row kind) = false
is_fault status.ReadFault = true
is_fault status.WriteFault = false
is_fault status.KeeperFault = true
is_fault status.TooLong = false
is_fault status.OutOfMemory = false
is_fault status.PortFault = true

-- memory was wanted
abbrev pub is_want : Status → Bool
is_want status.Ok = false
is_want status.Usage = false
is_want (status.ZoneText line kind) = false
is_want (status.EventLine line) = false
is_want status.NotValid = false
is_want (status.Recovery row kind) = false
is_want status.ReadFault = false
is_want status.WriteFault = false
is_want status.KeeperFault = false
is_want status.TooLong = false
is_want status.OutOfMemory = true
is_want status.PortFault = false

-- the status of a source that was not read to its end
abbrev pub read_status : ReadFault → Status
read_status read.Failed = status.ReadFault
read_status read.TooLong = status.TooLong
read_status read.OutOfMemory = status.OutOfMemory

-- the status of ports that could not be opened
abbrev pub port_status : IoFault → Status
port_status io.Failed = status.PortFault
port_status io.OutOfMemory = status.OutOfMemory
