-- What the halves of a stream tell of themselves, and what a call of one does to that.
use Rattle.std.specs.Prelude.{ℕ, ◌<◌, ◌≤◌, List, [], ◌∷◌, length, Option, Some, None, Result, IfOk, OnOk, OnErr}
use Rattle.dns_io.specs.Told.{Keeps, Grows, GrowsByPrefix}
use Rattle.dns_io.specs.declared.io_fault.IoFault.{IoFault}
use Rattle.dns_edges.specs.Edges.{HasCause}
use Rattle.dns_transport.specs.Pieces.{GivesBytes}
use Rattle.dns_quic.specs.declared.halves.StreamEnd.{StreamEnd}

-- bytes that were given are at least one, and at most this many
abbrev pub IsWithin : ℕ → Option (List ℕ) → Type 0
IsWithin most None = Unit {0}
IsWithin most (Some piece) = (0 < length piece) × (length piece ≤ most)

-- a sending half: the bytes that it took, and how it was ended, call by call, where they are told, and how many calls failed
pub record SendTold : Type 0 where
  pub taken : Option (List ℕ)
  pub ends : Option (List StreamEnd)
  pub faults : ℕ

-- what is known of a sending half: what it tells, and what one call that ends it so may answer, and how it may leave the half
pub record SendOf (S : Type 0) : Type 1 where
  pub told : S → SendTold
  pub ending : S → StreamEnd → Result (Unit {0}) IoFault → S → Type 0

-- one write of these bytes: all were taken; after an error a front of them was
pub record Writes (before after : SendTold) (bytes : List ℕ) (result : Result (Unit {0}) IoFault) : Type 0 where
  pub all : OnOk result (Grows before.taken after.taken bytes)
  pub part : OnErr result ((rest : List ℕ) × GrowsByPrefix before.taken after.taken bytes rest)
  pub unended : Keeps before.ends after.ends
  pub cause : HasCause before.faults after.faults result

-- one call that ends the half so: after an error it is not ended
pub record Finishes (before after : SendTold) (how : StreamEnd) (result : Result (Unit {0}) IoFault) : Type 0 where
  pub ended : OnOk result (Grows before.ends after.ends (how ∷ []))
  pub kept : OnErr result (Keeps before.ends after.ends)
  pub unwritten : Keeps before.taken after.taken
  pub cause : HasCause before.faults after.faults result

-- one call that ends a sending half so, by what it may answer and how it may leave the half, and by its count of faults
abbrev pub EndsHalf : {S : Type 0} → SendOf S → S → StreamEnd → Result (Unit {0}) IoFault → S → Type 0
EndsHalf sending before how answer after =
    sending.ending before how answer after × HasCause (sending.told before).faults (sending.told after).faults answer

-- a receiving half: the bytes that are left, and the codes with which it was stopped, where they are told, and how many calls failed
pub record RecvTold : Type 0 where
  pub left : Option (List ℕ)
  pub stops : Option (List ℕ)
  pub faults : ℕ

-- one read of at most so many bytes: the next ones were given, none at the end; after an error nothing was taken
pub record Reads (before after : RecvTold) (most : ℕ) (result : Result (Option (List ℕ)) IoFault) : Type 0 where
  pub within : IfOk result (IsWithin most)
  pub given : IfOk result (GivesBytes before.left after.left)
  pub kept : OnErr result (Keeps before.left after.left)
  pub unstopped : Keeps before.stops after.stops
  pub cause : HasCause before.faults after.faults result

-- one stop with this code: after an error it is not stopped
pub record StopsBy (before after : RecvTold) (code : ℕ) (result : Result (Unit {0}) IoFault) : Type 0 where
  pub stopped : OnOk result (Grows before.stops after.stops (code ∷ []))
  pub kept : OnErr result (Keeps before.stops after.stops)
  pub unread : Keeps before.left after.left
  pub cause : HasCause before.faults after.faults result
