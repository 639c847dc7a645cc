-- What a follower of a journal's feed is at any time.
use Rattle.std.specs.Prelude.{◌≡◌, ◌≢◌, ◌==◌, if◌then◌else◌, ◌⊎◌, ℕ, pos, ◌+◌, ◌<◌, ◌≤◌, ◌^◌, List, [], ◌∷◌, ◌++◌, length, map, take, true, false, Option, Some, None, Result, Ok, Err}
use Rattle.std.specs.List.{All}
use Rattle.dns_wire.specs.declared.record.Record.{Record}
use Rattle.dns_wire.specs.WireFormat.{record_bytes}
use Rattle.dns_keeper.specs.declared.row.Row.{Row}
use Rattle.dns_keeper.specs.declared.batch_row.BatchRow.{BatchRow}
use Rattle.dns_keeper.specs.Batches.{AreNumbered, Covers}
use Rattle.dns_zone_map.specs.Zone.{Contents}
use Rattle.dns_update.specs.Replay.{IsOneRecord, Replays}
use Rattle.dns_follow.specs.declared.frame.Frame.{Frame}
use Rattle.dns_follow.specs.declared.answer.Taken.{Taken}
use Rattle.dns_follow.specs.declared.answer.Taken.TheVariants.{Stored}
use Rattle.dns_follow.specs.declared.answer.FollowFault.{FollowFault}
use Rattle.dns_follow.specs.declared.answer.FollowFault.TheVariants.{BadFrame, Mixed, Refused, KeeperFault, Read, Turns, OutOfMemory}
use Rattle.dns_follow.specs.Feed.{bare, ends_batch, payload_of, frame_in, IsFed, IsInRange}
use Rattle.dns_follow.specs.Following.{State, Step}
use Rattle.dns_follow.specs.Seen.{StandsFor}

-- bytes are the uncompressed form of the record that stands in them
abbrev pub IsUncompressed : List ℕ → Type 0
IsUncompressed bytes = (r : Record) × IsOneRecord bytes r × (bytes ≡ record_bytes r)

-- each front of the rows that ends with a batch stands for a zone of this origin
abbrev pub FrontsReplay : List (List ℕ) → List Row → List BatchRow → Type 0
FrontsReplay origin rows batches =
    (n : ℕ) → 0 < n → n ≤ length rows → ends_batch batches (pos n) ≡ true
    → (records : List Record) × Replays origin (take n rows) (Ok records)

-- rows and batches of a journal that is fed, as those of a journal are that was opened on no rows: ids are 1 and those that follow, batches
-- cover the rows, the bytes of each are uncompressed, and each front that ends with a batch stands for a zone. No journal has more rows
-- than there are ids
pub record IsPrimary (origin : List (List ℕ)) (rows : List Row) (batches : List BatchRow) : Type 0 where
  pub numbered : AreNumbered (pos 1) rows
  pub covers : Covers (pos 1) rows batches
  pub few : length rows < 2 ^ 63
  pub uncompressed : All (λ row. IsUncompressed row.bytes) rows
  pub replay : FrontsReplay origin rows batches

-- a payload is that of a frame of the feed
pub record IsPayload (rows : List Row) (batches : List BatchRow) (payload : List ℕ) : Type 0 where
  pub frame : Frame
  pub fed : IsFed rows batches frame
  pub range : IsInRange frame
  pub is : payload ≡ payload_of frame

-- stored rows, with held ones behind them, are a front of the journal's, stamps aside; the stored ones are none or end with a batch, and no
-- batch ends within the held ones
pub record IsBehind (rows : List Row) (batches : List BatchRow) (stored held : List Row) : Type 0 where
  pub rest : List Row
  pub parts : map bare rows ≡ (map bare stored ++ held) ++ rest
  pub ended : (stored ≡ []) ⊎ (ends_batch batches (pos (length stored)) ≡ true)
  pub short : All (λ row. ends_batch batches row.id ≡ false) held

-- the zone that stored rows stand for, or that there is none where there are no rows, is that of the journal's rows up to their number
abbrev pub StandAlike : List (List ℕ) → List Row → List Row → Type 0
StandAlike origin rows stored = (zone : Option Contents) → StandsFor origin zone stored → StandsFor origin zone (take (length stored) rows)

-- a follower that was opened on these stored rows of the same feed: its keeper tells them, they are none or end with a batch, and none are
-- held. What its keeper tells of batches may be anything
pub record StartsOn (rows : List Row) (batches : List BatchRow) (s : State) (had : List Row) : Type 0 where
  pub told : s.told.rows ≡ Some had
  pub count : s.count ≡ length had
  pub held : s.held ≡ []
  pub behind : IsBehind rows batches had []

-- the payload was not refused for what it carries
abbrev pub IsNoRefusal : Result Taken FollowFault → Type 0
IsNoRefusal (Ok taken) = Unit {0}
IsNoRefusal (Err BadFrame) = ⊥
IsNoRefusal (Err (Mixed row)) = ⊥
IsNoRefusal (Err (Refused row kind)) = ⊥
IsNoRefusal (Err KeeperFault) = Unit {0}
IsNoRefusal (Err Read) = Unit {0}
IsNoRefusal (Err (Turns reads)) = Unit {0}
IsNoRefusal (Err OutOfMemory) = Unit {0}

-- each payload is of the feed
abbrev pub AreFed : List Row → List BatchRow → List Step → Type 0
AreFed rows batches steps = All (λ step. IsPayload rows batches step.payload) steps

-- an answer that comes by the rules alone: the keeper did not fail, and memory did not run out
abbrev pub IsByRule : Result Taken FollowFault → Type 0
IsByRule answer = (answer ≢ Err KeeperFault) × (answer ≢ Err OutOfMemory)

-- memory did not run out
abbrev pub IsNoWant : Step → Type 0
IsNoWant step = step.answer ≢ Err OutOfMemory

-- the id that is wanted after a payload, where this one was: the one that follows, where the payload's frame has it; else the same
abbrev pub wanted_after : ℕ → Option Frame → ℕ
wanted_after id None = id
wanted_after id (Some f) = if f.id == id then id + 1 else id

-- a frame that has this id, and a mark, is answered Stored
abbrev pub IsStoredAt : ℕ → Step → Type 0
IsStoredAt id step = (f : Frame) → frame_in step.payload ≡ Some f → f.id ≡ id → f.mark ≡ 1 → step.answer ≡ Ok (Stored f.id)

-- of payloads that come one after another where this id is wanted: each frame that has the id that is wanted when it comes, and a mark, is
-- answered Stored. A frame with another id is passed over, and the same id stays wanted
abbrev pub StoreWanted : ℕ → List Step → Type 0
StoreWanted id [] = Unit {0}
StoreWanted id (step ∷ steps) = IsStoredAt id step × StoreWanted (wanted_after id (frame_in step.payload)) steps
