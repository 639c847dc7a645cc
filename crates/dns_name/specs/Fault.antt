-- What a call that may run out of memory answers.
use Rattle.std.specs.Prelude.{◌≡◌, Result, Ok, Err}
use Rattle.dns_name.specs.declared.fault.ProtoError.{ProtoError}
use Rattle.dns_name.specs.declared.fault.ProtoError.TheVariants.{OutOfMemory}

-- the error is the one that is meant, unless memory ran out
abbrev pub Tells : {T : Type 0} → ProtoError → Result T ProtoError → Type 0
Tells OutOfMemory meant = Unit {0}
Tells error meant = meant ≡ Err error

-- the answer is the one that is meant, unless memory ran out
abbrev pub Gives : {T : Type 0} → Result T ProtoError → Result T ProtoError → Type 0
Gives (Ok value) meant = meant ≡ Ok value
Gives (Err error) meant = Tells error meant
