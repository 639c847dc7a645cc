-- The faults that errors of the operating system are.
use Rattle.std.specs.declared.io.ErrorKind.{ErrorKind}
use Rattle.std.specs.declared.io.ErrorKind.TheVariants as kind
use Rattle.dns_io.specs.declared.io_fault.IoFault.{IoFault}
use Rattle.dns_io.specs.declared.io_fault.IoFault.TheVariants.{Failed, OutOfMemory}

-- the fault for a kind of error: want of memory is want of memory, and every other error is a failed call
abbrev pub fault_of : ErrorKind → IoFault
fault_of kind.OutOfMemory = OutOfMemory
fault_of _ = Failed
