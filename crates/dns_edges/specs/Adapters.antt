-- What the adapters do over a reader and a writer of std.
use Rattle.std.specs.Prelude.{◌≡◌, ◌≤◌, ℕ, List, [], Option, Some, None, Result, Ok, Err}
use Rattle.std.specs.IoError.{error_kind}
use Rattle.std.specs.Io.KnownBytes.{ReadConsumes, WriteAppends}
use Rattle.std.specs.declared.io.Error.{Error}
use Rattle.dns_io.specs.declared.io_fault.IoFault.{IoFault}
use Rattle.dns_io.specs.Told.{counted}
use Rattle.dns_io.specs.Faults.{fault_of}
use Rattle.dns_edges.specs.Edges.{SourceTold, SinkTold, wanted}
use Rattle.dns_edges.specs.declared.adapters.Opened.{Opened}
use Rattle.dns_edges.specs.declared.adapters.Opened.TheVariants.{Reader, Empty, Refused}

-- a reader, and how many of the calls over it failed
pub record Counting (R : Type 0) : Type 0 where
  pub inner : R
  pub faults : ℕ

-- a writer, and how many of the calls over it failed, and how many wanted memory
pub record CountingBoth (W : Type 0) : Type 0 where
  pub inner : W
  pub faults : ℕ
  pub wants : ℕ

-- what is told of one whose bytes are not told
abbrev pub untold_source : {R : Type 0} → Counting R → SourceTold
untold_source s = record { left = None; faults = s.faults }

abbrev pub untold_sink : {W : Type 0} → CountingBoth W → SinkTold
untold_sink s = record { taken = None; flushed = None; faults = s.faults }

-- a read raises the count by one where it fails, and else not
abbrev pub ReadsCounting : {R : Type 0} → Counting R → ℕ → Result (List ℕ) IoFault → Counting R → Type 0
ReadsCounting before room given after = after.faults ≡ counted before.faults given

-- so does a write, and one that wants memory the other count
abbrev pub WritesCounting : {W : Type 0} → (W → Option (List ℕ)) → CountingBoth W → List ℕ → Result ℕ IoFault → CountingBoth W → Type 0
WritesCounting contents before bytes result after =
    WriteAppends (contents before.inner) (contents after.inner) result bytes
    × (after.faults ≡ counted before.faults result)
    × (after.wants ≡ wanted before.wants result)

-- a reading of a clock that is its last reading, and the clock after it
abbrev pub RisesTo : ℕ → ℕ → ℕ → Type 0
RisesTo before reading after = (reading ≡ after) × (before ≤ reading)

-- what came of opening the file that a command names, where it names one
abbrev pub opened_of : {R : Type 0} → Option (Result R Error) → Opened R
opened_of None = Empty
opened_of (Some (Ok reader)) = Reader reader
opened_of (Some (Err error)) = Refused (fault_of (error_kind error))

-- what is left of it, where it is told: nothing where no file was named
abbrev pub left_of : {R : Type 0} → Opened R → Option (List ℕ)
left_of (Reader reader) = None
left_of Empty = Some []
left_of (Refused fault) = None

-- what is told of a file
abbrev pub file_told : {R : Type 0} → Counting (Opened R) → SourceTold
file_told s = record { left = left_of s.inner; faults = s.faults }

-- what a read of it answers and leaves: what one of its reader does, or the end where no file was named, or the fault for
-- which the file was not opened
abbrev pub ReadsOpened : {R : Type 0} → (R → Option (List ℕ)) → Opened R → Opened R → Result ℕ IoFault → List ℕ → Type 0
ReadsOpened remaining (Reader old) (Reader new) result room = ReadConsumes (remaining old) (remaining new) result room
ReadsOpened remaining (Reader old) Empty result room = ⊥
ReadsOpened remaining (Reader old) (Refused fault) result room = ⊥
ReadsOpened remaining Empty after result room = (after ≡ Empty) × (result ≡ Ok 0)
ReadsOpened remaining (Refused fault) after result room = (after ≡ Refused fault) × (result ≡ Err fault)
