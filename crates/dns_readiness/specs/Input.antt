-- What an error of the system means where standard input is read until a server is stopped.
use Rattle.std.specs.Prelude.{Bool, true, false, Result, Ok, Err}
use Rattle.std.specs.declared.io.ErrorKind.{ErrorKind}
use Rattle.std.specs.declared.io.ErrorKind.TheVariants as kind
use Rattle.dns_io.specs.declared.io_fault.IoFault.{IoFault}
use Rattle.dns_io.specs.Faults.{fault_of}

-- whether it is read again after an error of this kind, or the fault that it answers: that nothing is there yet is no end
abbrev pub reading_after : ErrorKind → Result (Unit {0}) IoFault
reading_after kind.Interrupted = Ok tt
reading_after kind.WouldBlock = Ok tt
reading_after other = Err (fault_of other)

-- whether it is watched again after an error of this kind, behind a rest; else it is read without being watched, as a file is, for which
-- the system has no readiness (epoll_ctl(2), EPERM)
abbrev pub watches_again : ErrorKind → Bool
watches_again kind.OutOfMemory = true
watches_again _ = false
