-- What the program decides of its script and its connections: how much is read, how long is waited, and what a read and a write do where no
-- connection could be made.
use Rattle.std.specs.Prelude.{◌≡◌, ℕ, ◌+◌, nat_le, if◌then◌else◌, List, length, Option, Result, Ok, Err, IsErrAnd}
use Rattle.std.specs.IoError.{error_kind}
use Rattle.std.specs.Io.KnownBytes.{ReadConsumes, WriteAppends}
use Rattle.std.specs.declared.io.Error.{Error}
use Rattle.std.specs.declared.io.ErrorKind.{ErrorKind}
use Rattle.std.specs.declared.io.ErrorKind.TheVariants as kind
use Rattle.dns_io.specs.declared.io_fault.IoFault.{IoFault}
use Rattle.dns_io.specs.declared.io_fault.IoFault.TheVariants.{Failed, OutOfMemory}
use Rattle.dns_update_client.specs.Steps.{script_bound}

-- so much of a script is read at most, in bytes: one more than it may have, by which it is known to be too long
abbrev pub most_read : ℕ
most_read = script_bound + 1

-- for how many seconds the server may leave the program waiting
abbrev pub patience : ℕ
patience = 5

-- by which kind of error each read fails where no connection could be made
abbrev pub unread_kind : IoFault → ErrorKind
unread_kind OutOfMemory = kind.OutOfMemory
unread_kind Failed = kind.NotConnected

-- how many messages went over the connection that the next bytes go over, where so many went over the one that there is: none, where
-- that is used up
abbrev pub messages_over : ℕ → ℕ
messages_over sent = if nat_le 100 sent then 0 else sent

-- one read: that of the connection, where one was made; else it fails by the fault for which none was made
abbrev pub ReadsOver : {R : Type 0} → (R → Option (List ℕ)) → Result R IoFault → Result R IoFault → Result ℕ Error → List ℕ → Type 0
ReadsOver remaining (Ok old) (Ok new) result room = ReadConsumes (remaining old) (remaining new) result room
ReadsOver remaining (Ok old) (Err fault) result room = ⊥
ReadsOver remaining (Err fault) after result room = (after ≡ Err fault) × IsErrAnd result (λ error. error_kind error ≡ unread_kind fault)

-- one write: that of the connection, where one was made; else all bytes are taken, and dropped: the next read tells it
abbrev pub WritesOver : {W : Type 0} → (W → Option (List ℕ)) → Result W IoFault → Result W IoFault → Result ℕ Error → List ℕ → Type 0
WritesOver contents (Ok old) (Ok new) result bytes = WriteAppends (contents old) (contents new) result bytes
WritesOver contents (Ok old) (Err fault) result bytes = ⊥
WritesOver contents (Err fault) after result bytes = (after ≡ Err fault) × (result ≡ Ok (length bytes))
