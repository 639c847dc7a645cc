-- What the faults of other calls become, and what they say of the counts.
use Rattle.std.specs.Prelude.{◌≡◌, ◌≤◌, ℕ, Result, Ok, Err}
use Rattle.dns_io.specs.declared.io_fault.IoFault.{IoFault}
use Rattle.dns_io.specs.declared.io_fault.IoFault.TheVariants as io
use Rattle.dns_io.specs.Told.{Rose}
use Rattle.dns_name.specs.declared.fault.ProtoError.{ProtoError}
use Rattle.dns_name.specs.declared.fault.ProtoError.TheVariants as proto
use Rattle.dns_update_client.specs.declared.submit_fault.SubmitFault.{SubmitFault}
use Rattle.dns_update_client.specs.declared.submit_fault.SubmitFault.TheVariants.{Proto, Write, Read, OutOfMemory}

-- of a message that is read or written
abbrev pub of_proto : ProtoError → SubmitFault
of_proto proto.OutOfMemory = OutOfMemory
of_proto error = Proto error

-- of an input
abbrev pub of_input : IoFault → SubmitFault
of_input io.Failed = Read
of_input io.OutOfMemory = OutOfMemory

-- of an output
abbrev pub of_output : IoFault → SubmitFault
of_output io.Failed = Write
of_output io.OutOfMemory = OutOfMemory

-- what a fault says of the input's count of faults: it rose where reading failed, and stood still where it did not
abbrev pub ReadCounts : ℕ → ℕ → SubmitFault → Type 0
ReadCounts before now Read = Rose before now
ReadCounts before now _ = now ≡ before

-- what a fault says of the output's: it rose where writing failed, and stood still where it did not
abbrev pub WriteCounts : ℕ → ℕ → SubmitFault → Type 0
WriteCounts before now Write = Rose before now
WriteCounts before now _ = now ≡ before

-- what the end of a call says of the one and of the other
abbrev pub CountsRead : {T : Type 0} → ℕ → ℕ → Result T SubmitFault → Type 0
CountsRead before now (Ok value) = now ≡ before
CountsRead before now (Err fault) = ReadCounts before now fault

abbrev pub CountsWritten : {T : Type 0} → ℕ → ℕ → Result T SubmitFault → Type 0
CountsWritten before now (Ok value) = now ≡ before
CountsWritten before now (Err fault) = WriteCounts before now fault

-- the input's count before a call and after it: it never falls, it rises where reading failed, and only there
pub record HasReadCause {T : Type 0} (before now : ℕ) (result : Result T SubmitFault) : Type 0 where
  pub later : before ≤ now
  pub counts : CountsRead before now result

-- the output's count before a call and after it: it never falls, it rises where writing failed, and only there
pub record HasWriteCause {T : Type 0} (before now : ℕ) (result : Result T SubmitFault) : Type 0 where
  pub later : before ≤ now
  pub counts : CountsWritten before now result
