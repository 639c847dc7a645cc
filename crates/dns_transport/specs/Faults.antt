-- What the faults of other calls become.
use Rattle.std.specs.Prelude.{◌≡◌, ℕ, ◌≤◌, ◌<◌, Result, Ok, Err, IsErrOf}
use Rattle.dns_io.specs.Told.{Rose}
use Rattle.dns_io.specs.declared.io_fault.IoFault.{IoFault}
use Rattle.dns_io.specs.declared.io_fault.IoFault.TheVariants as io
use Rattle.dns_name.specs.declared.fault.ProtoError.{ProtoError}
use Rattle.dns_name.specs.declared.fault.ProtoError.TheVariants as proto
use Rattle.dns_transport.specs.declared.error.LinkFault.{LinkFault}
use Rattle.dns_transport.specs.declared.error.LinkFault.TheVariants as link
use Rattle.dns_transport.specs.declared.error.NetError.{NetError}
use Rattle.dns_transport.specs.declared.error.NetError.TheVariants.{BadRequest, Io, Timeout, Proto, OutOfMemory}

-- of an object that is read or written
abbrev pub of_io : IoFault → NetError
of_io io.Failed = Io
of_io io.OutOfMemory = OutOfMemory

-- of a link or a connection
abbrev pub of_link : LinkFault → NetError
of_link link.Failed = Io
of_link link.Late = Timeout
of_link link.OutOfMemory = OutOfMemory

-- of a message that is read or written
abbrev pub of_proto : ProtoError → NetError
of_proto proto.OutOfMemory = OutOfMemory
of_proto error = Proto error

-- a count of faults did not fall; `Io` was answered only where it rose, and anything else only where it stood still
pub record HasCause {T : Type 0} (before now : ℕ) (result : Result T NetError) : Type 0 where
  pub later : before ≤ now
  pub failed : IsErrOf result Io → Rose before now
  pub calm : ¬ (IsErrOf result Io) → now ≡ before

-- a request that is not let in
abbrev pub IsBadRequest : NetError → Type 0
IsBadRequest (BadRequest kind) = Unit {0}
IsBadRequest _ = ⊥

-- a count of faults did not fall; `Io` and `Timeout` were answered only where it rose, and anything else only where it stood still
pub record HasNetCause {T : Type 0} (before now : ℕ) (result : Result T NetError) : Type 0 where
  pub later : before ≤ now
  pub failed : IsErrOf result Io → Rose before now
  pub late : IsErrOf result Timeout → Rose before now
  pub calm : ¬ (IsErrOf result Io) → ¬ (IsErrOf result Timeout) → now ≡ before

-- what a call of a link did to its count of faults, by its answer: it rose where the call failed or was late, and stood still where it
-- did neither
abbrev pub CountsByLink : {T : Type 0} → ℕ → ℕ → Result T LinkFault → Type 0
CountsByLink before now (Ok value) = now ≡ before
CountsByLink before now (Err link.Failed) = Rose before now
CountsByLink before now (Err link.Late) = Rose before now
CountsByLink before now (Err link.OutOfMemory) = now ≡ before

-- a count of faults before a call of a link and after it: it never falls, it rises where the call fails or is late, and only there
pub record HasLinkCause {T : Type 0} (before now : ℕ) (result : Result T LinkFault) : Type 0 where
  pub later : before ≤ now
  pub counts : CountsByLink before now result

-- a count of faults where an object was taken back that was given out with none: it rose where that has some now, and only there
pub record CountsReturned (returned before now : ℕ) : Type 0 where
  pub later : before ≤ now
  pub raised : 0 < returned → Rose before now
  pub calm : returned ≡ 0 → now ≡ before
