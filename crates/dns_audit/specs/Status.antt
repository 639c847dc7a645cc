-- How a run of the program ends, and the line that a refusal writes.
use Rattle.std.specs.Prelude.{ℕ, ◌++◌, List, [], Bool, true, false, codes}
use Rattle.std.specs.Fmt.{decimal}
use Rattle.dns_store.specs.RecoveryText.{recovery_line}
use Rattle.dns_audit.specs.declared.fault.AuditFault.{AuditFault}
use Rattle.dns_audit.specs.declared.fault.AuditFault.TheVariants as fault
use Rattle.dns_audit.specs.declared.status.AuditStatus.{AuditStatus}
use Rattle.dns_audit.specs.declared.status.AuditStatus.TheVariants as status

-- the status that the process ends with
abbrev pub status_number : AuditStatus → ℕ
status_number status.Ok = 0
status_number status.Usage = 1
status_number (status.Recovery row kind) = 5
status_number status.WriteFault = 7
status_number status.KeeperFault = 8
status_number status.OutOfMemory = 10
status_number (status.Short rows) = 12
status_number status.NotEmpty = 13
status_number status.AliasBesideOther = 14

-- the status of a journal that was not audited
abbrev pub status_of : AuditFault → AuditStatus
status_of fault.KeeperFault = status.KeeperFault
status_of (fault.Short rows) = status.Short rows
status_of (fault.Recovery row kind) = status.Recovery row kind
status_of fault.AliasBesideOther = status.AliasBesideOther
status_of fault.NotEmpty = status.NotEmpty
status_of fault.OutOfMemory = status.OutOfMemory

-- the line of a journal with fewer rows than were asked for, so many
abbrev pub short_line : ℕ → List ℕ
short_line rows = codes "short " ++ (decimal rows ++ codes "\n")

-- the line that a run which ends so writes in place of its output; none after a fault of the output or want of memory
abbrev pub refusal_line : AuditStatus → List ℕ
refusal_line status.Ok = []
refusal_line status.Usage = codes "usage\n"
refusal_line (status.Recovery row kind) = recovery_line row kind
refusal_line status.WriteFault = []
refusal_line status.KeeperFault = codes "keeper fault\n"
refusal_line status.OutOfMemory = []
refusal_line (status.Short rows) = short_line rows
refusal_line status.NotEmpty = codes "not empty\n"
refusal_line status.AliasBesideOther = codes "alias beside other\n"

-- whether a refusal writes a line
abbrev pub has_line : AuditStatus → Bool
has_line status.Ok = false
has_line status.Usage = true
has_line (status.Recovery row kind) = true
has_line status.WriteFault = false
has_line status.KeeperFault = true
has_line status.OutOfMemory = false
has_line (status.Short rows) = true
has_line status.NotEmpty = true
has_line status.AliasBesideOther = true
