-- What sources, sinks and clocks tell of themselves, and what a call of one does to that.
use Rattle.std.specs.Prelude.{◌≡◌, ℕ, ◌≤◌, ◌<◌, ◌-◌, ◌^◌, min, max, List, length, take, Option, Result, Ok, Err, IfOk, OnOk, OnErr}
use Rattle.dns_io.specs.declared.io_fault.IoFault.{IoFault}
use Rattle.dns_io.specs.declared.io_fault.IoFault.TheVariants.{Failed, OutOfMemory}
use Rattle.dns_io.specs.Told.{one_more, Rose, NeverBegins, Keeps, Takes, EndsAt, Grows, IsHandedOn}

-- what a call did to a count of faults, by its answer: it rose where the call failed, and stood still where it did not
abbrev pub CountsBy : {T : Type 0} → ℕ → ℕ → Result T IoFault → Type 0
CountsBy before now (Ok value) = now ≡ before
CountsBy before now (Err Failed) = Rose before now
CountsBy before now (Err OutOfMemory) = now ≡ before

-- a count of faults before a call and after it: it never falls, it rises where the call fails, and only there
pub record HasCause {T : Type 0} (before now : ℕ) (result : Result T IoFault) : Type 0 where
  pub later : before ≤ now
  pub counts : CountsBy before now result

-- the count of wants of memory after a call, where a call that wants memory is counted once, and no other
abbrev pub wanted : {T : Type 0} → ℕ → Result T IoFault → ℕ
wanted before (Ok value) = before
wanted before (Err Failed) = before
wanted before (Err OutOfMemory) = one_more before

-- what an object told before a call, and after it
pub record Around (T : Type 0) : Type 0 where
  pub before : T
  pub after : T

-- by what it tells, and the object before and after
abbrev pub around : {S T : Type 0} → (S → T) → S → S → Around T
around told old new = record { before = told old; after = told new }

-- a source: the bytes that are left, where they are told, and how many calls failed
pub record SourceTold : Type 0 where
  pub left : Option (List ℕ)
  pub faults : ℕ

-- what is known of a source: what it tells, and what one read with room for so many bytes may answer, by the bytes that it gave,
-- and how it may leave the source
pub record SourceOf (S : Type 0) : Type 1 where
  pub told : S → SourceTold
  pub reads : S → ℕ → Result (List ℕ) IoFault → S → Type 0

-- the bytes that a read gave, at the front of its room
abbrev pub given_by : List ℕ → Result ℕ IoFault → Result (List ℕ) IoFault
given_by room (Ok count) = Ok (take count room)
given_by room (Err fault) = Err fault

-- one read, and the room as it left it: the next bytes stand at its front, none exactly at the end; after an error none was taken
pub record Reads (before after : SourceTold) (room : List ℕ) (result : Result ℕ IoFault) : Type 0 where
  pub count : IfOk result (λ n. n ≤ length room)
  pub given : IfOk result (λ n. Takes before.left after.left (take n room))
  pub end : IfOk result (λ n. EndsAt before.left after.left n)
  pub kept : OnErr result (Keeps before.left after.left)
  pub cause : HasCause before.faults after.faults result

-- a sink: the bytes that it took, those of them that it handed on to its receiver, where they are told, and how many calls failed
pub record SinkTold : Type 0 where
  pub taken : Option (List ℕ)
  pub flushed : Option (List ℕ)
  pub faults : ℕ

-- what is known of a sink: what it tells, what one write that is handed these bytes may answer, and how it may leave the sink, and how
-- many of its calls wanted memory
pub record SinkOf (S : Type 0) : Type 1 where
  pub told : S → SinkTold
  pub writes : S → List ℕ → Result ℕ IoFault → S → Type 0
  pub wants : S → ℕ

-- one write of these bytes: it took some from their front, and flushed nothing; after an error none was taken
pub record Writes (before after : SinkTold) (bytes : List ℕ) (result : Result ℕ IoFault) : Type 0 where
  pub some : IfOk result (λ n. 0 < n)
  pub count : IfOk result (λ n. n ≤ length bytes)
  pub grows : IfOk result (λ n. Grows before.taken after.taken (take n bytes))
  pub kept : OnErr result (Keeps before.taken after.taken)
  pub unflushed : Keeps before.flushed after.flushed
  pub cause : HasCause before.faults after.faults result

-- one flush: all that was taken is handed on; it changes nothing that was taken
pub record Flushes (before after : SinkTold) (result : Result (Unit {0}) IoFault) : Type 0 where
  pub kept : Keeps before.taken after.taken
  pub all : OnOk result (IsHandedOn after.taken after.flushed)
  pub told : NeverBegins before.flushed after.flushed
  pub cause : HasCause before.faults after.faults result

-- what is known of a clock: its last reading, and what one reading may be, and how it may leave the clock
pub record ClockOf (C : Type 0) : Type 1 where
  pub last : C → ℕ
  pub ticks : C → ℕ → C → Type 0

-- the moment of a clock that tells these milliseconds, behind its last moment: no moment falls, and all are below 2^47
abbrev pub moment_from : ℕ → ℕ → ℕ
moment_from last elapsed = max last (min elapsed (2 ^ 47 - 1))
