-- What a follower does with a payload.
use Rattle.std.specs.Prelude.{◌≡◌, ℕ, pos, ◌+◌, ◌-◌, ◌^◌, ◌<◌, ◌≤◌, ◌&&◌, nat_lt, nat_le, List, [], ◌∷◌, ◌++◌, length, slice_get, Bool, true, false, Option, Some, None, IfSome, Result, Ok, Err}
use Rattle.dns_io.specs.Told.{Keeps, Rose}
use Rattle.dns_wire.specs.declared.record.Record.{Record}
use Rattle.dns_keeper.specs.declared.row.Row.{Row}
use Rattle.dns_keeper.specs.Batches.{are_alike}
use Rattle.dns_keeper.specs.Keeping.{KeeperTold, GrowsByBatch, GrowsByRun, KeepsBatches}
use Rattle.dns_update.specs.Replay.{Refusal, IsOneRecord, Replays}
use Rattle.dns_follow.specs.declared.frame.Frame.{Frame}
use Rattle.dns_follow.specs.declared.answer.Taken.{Taken}
use Rattle.dns_follow.specs.declared.answer.Taken.TheVariants.{Known, Ahead, Held, Stored}
use Rattle.dns_follow.specs.declared.answer.FollowFault.{FollowFault}
use Rattle.dns_follow.specs.declared.answer.FollowFault.TheVariants.{BadFrame, Mixed, Refused, KeeperFault, Read, Turns, OutOfMemory}
use Rattle.dns_follow.specs.Feed.{row_of, frame_in}

-- how many rows are stored, what the keeper of them tells, and the rows that are held until their batch is whole
pub record State : Type 0 where
  pub count : ℕ
  pub told : KeeperTold
  pub held : List Row

-- neither a row nor a batch, and that is told
abbrev pub empty : ℕ → State
empty faults = record { count = 0; told = record { rows = Some []; batches = []; faults = faults }; held = [] }

-- the id that is wanted next
abbrev pub want : State → ℕ
want s = s.count + length s.held + 1

-- a frame carries a row whose bytes are this record: its id is 1 at least and below 2 ^ 63, and its mark is 0 or 1
pub record IsRow (f : Frame) (r : Record) : Type 0 where
  pub some : 0 < f.id
  pub few : f.id < 2 ^ 63
  pub mark : f.mark ≤ 1
  pub one : IsOneRecord f.bytes r

-- its id and its mark are those of a row
abbrev pub is_placed : Frame → Bool
is_placed f = nat_lt 0 f.id && (nat_le f.id (2 ^ 63 - 1) && nat_le f.mark 1)

-- a payload is a frame that carries a row
pub record Carries (payload : List ℕ) (f : Frame) : Type 0 where
  pub is : frame_in payload ≡ Some f
  pub reading : Record
  pub row : IsRow f reading

-- it carries no row
abbrev pub IsBad : List ℕ → Type 0
IsBad payload = (f : Frame) → Carries payload f → ⊥

-- the last of rows, if there is one
abbrev pub last_of : List Row → Option Row
last_of rows = slice_get rows (length rows - 1)

-- the row goes on with the batch of the row before it, if there is one
abbrev pub joins : Option Row → Row → Bool
joins None row = true
joins (Some before) row = are_alike before row

-- the frame carries the row that is wanted next, and it goes on with the held ones
pub record Fits (s : State) (f : Frame) : Type 0 where
  pub wanted : f.id ≡ want s
  pub on : joins (last_of s.held) (row_of f) ≡ true

-- so it does, and its batch ends with it
pub record EndsBatch (s : State) (f : Frame) : Type 0 where
  pub fits : Fits s f
  pub marked : f.mark ≡ 1

-- the held rows with this one behind them
abbrev pub batch_with : State → Frame → List Row
batch_with s f = s.held ++ row_of f ∷ []

-- the held rows are let go
abbrev pub dropped : State → State
dropped s = record s { held = [] }

-- rows and the records that their bytes are
abbrev pub AreOf : List Row → List Record → Type 0
AreOf [] [] = Unit {0}
AreOf [] (r ∷ rs) = ⊥
AreOf (row ∷ rows) [] = ⊥
AreOf (row ∷ rows) (r ∷ rs) = IsOneRecord row.bytes r × AreOf rows rs

-- the rows with a batch behind them end so, where they are told
abbrev pub WouldEnd : List (List ℕ) → State → Frame → Result (List Record) Refusal → Type 0
WouldEnd origin s f end = IfSome s.told.rows (λ rows. Replays origin (rows ++ batch_with s f) end)

-- the rows with a batch behind them stand for a zone, where they are told
abbrev pub WouldReplay : List (List ℕ) → State → Frame → Type 0
WouldReplay origin s f = (records : List Record) × WouldEnd origin s f (Ok records)

-- the keeper stored the batch that ends with the frame, at this moment and as one of its batches, with no fault
pub record Stores (s : State) (f : Frame) (moment : ℕ) (t : State) : Type 0 where
  pub records : List Record
  pub are : AreOf (batch_with s f) records
  pub grown : GrowsByBatch s.told.rows t.told.rows f.client f.serial moment records
  pub run : GrowsByRun s.told t.told records
  pub uncounted : t.told.faults ≡ s.told.faults
  pub count : t.count ≡ f.id
  pub held : t.held ≡ []

-- only the keeper may have stopped telling its rows
pub record IsLeft (s t : State) : Type 0 where
  pub rows : Keeps s.told.rows t.told.rows
  pub batches : KeepsBatches s.told t.told
  pub count : t.count ≡ s.count
  pub held : t.held ≡ s.held

-- so it is, and its count of faults stood still
pub record IsWithout (s t : State) : Type 0 where
  pub left : IsLeft s t
  pub uncounted : t.told.faults ≡ s.told.faults

-- so it is, and the keeper counted a fault
pub record HasFailed (s t : State) : Type 0 where
  pub left : IsLeft s t
  pub rose : Rose s.told.faults t.told.faults
  pub later : s.told.faults ≤ t.told.faults

-- what a frame that carries a row does to a follower for this origin at a moment, by what is answered. The conditions shut one another out
abbrev pub TakesFrame : List (List ℕ) → State → Frame → ℕ → Result Taken FollowFault → State → Type 0
TakesFrame origin s f moment (Ok Known) t = (f.id < want s) × (t ≡ s)
TakesFrame origin s f moment (Ok (Ahead w got)) t = (want s < f.id) × (w ≡ want s) × (got ≡ f.id) × (t ≡ s)
TakesFrame origin s f moment (Err (Mixed row)) t =
    (f.id ≡ want s) × (joins (last_of s.held) (row_of f) ≡ false) × (row ≡ pos f.id) × (t ≡ dropped s)
TakesFrame origin s f moment (Ok Held) t = Fits s f × (f.mark ≡ 0) × (t ≡ record s { held = batch_with s f })
TakesFrame origin s f moment (Err (Refused row kind)) t =
    EndsBatch s f × WouldEnd origin s f (Err (record { row = row; kind = kind })) × (t ≡ dropped s)
TakesFrame origin s f moment (Err KeeperFault) t = EndsBatch s f × WouldReplay origin s f × HasFailed (dropped s) t
TakesFrame origin s f moment (Ok (Stored n)) t = EndsBatch s f × WouldReplay origin s f × (n ≡ f.id) × Stores s f moment t
TakesFrame origin s f moment (Err OutOfMemory) t = IsWithout s t
TakesFrame origin s f moment (Err BadFrame) t = ⊥
TakesFrame origin s f moment (Err Read) t = ⊥
TakesFrame origin s f moment (Err (Turns reads)) t = ⊥

-- what a payload does: where it carries no row nothing; where memory ran out nothing; else what its frame does
abbrev pub Takes : List (List ℕ) → State → List ℕ → ℕ → Result Taken FollowFault → State → Type 0
Takes origin s payload moment (Err BadFrame) t = IsBad payload × (t ≡ s)
Takes origin s payload moment (Err OutOfMemory) t = IsWithout s t
Takes origin s payload moment answer t = (f : Frame) × Carries payload f × TakesFrame origin s f moment answer t

-- a payload that came at a moment, and what was answered
pub record Step : Type 0 where
  pub payload : List ℕ
  pub moment : ℕ
  pub answer : Result Taken FollowFault

-- payloads that came one after another
abbrev pub Runs : List (List ℕ) → State → List Step → State → Type 0
Runs origin s [] t = t ≡ s
Runs origin s (step ∷ steps) t = (m : State) × Takes origin s step.payload step.moment step.answer m × Runs origin m steps t
