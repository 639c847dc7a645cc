-- The first rows of a journal, and what they stand for.
use Rattle.std.specs.Prelude.{◌≡◌, ◌<◌, ◌≤◌, ◌++◌, ◌+ℤ◌, ℕ, pos, List, [], ◌∷◌, length, take, Option, Some, None, IfSome, Result, Ok, Err}
use Rattle.dns_name.specs.Name.{fold_of}
use Rattle.dns_wire.specs.declared.record.Record.{Record}
use Rattle.dns_keeper.specs.declared.row.Row.{Row}
use Rattle.dns_update.specs.Replay.{Refusal, Replays}
use Rattle.dns_zone.specs.Replaying.{HasTaken, TellsEnd}
use Rattle.dns_store.specs.declared.opening.OpenKind.{OpenKind}
use Rattle.dns_store.specs.declared.opening.OpenKind.TheVariants.{Recovery, KeeperFault, NoZone, OutOfMemory}
use Rattle.dns_store.specs.declared.front.Front.{Front}
use Rattle.dns_store.specs.declared.front.Front.TheVariants.{Zone, Short}
use Rattle.dns_store.specs.declared.front.FrontState.{FrontState}
use Rattle.dns_store.specs.declared.front.FrontState.TheVariants.{Taken, Refused}
use Rattle.dns_store.specs.Recovering.{IsFirst, IsFirstFrom}

-- what so many first rows of a journal are: these stand for this zone, which has this origin in whatever case; or there are fewer, and
-- this is the number of all rows
abbrev pub IsFront : List (List ℕ) → ℕ → Front → List Row → Type 0
IsFront origin count (Zone zone) rows =
    (count ≤ length rows) × (zone.origin ≡ fold_of origin) × Replays (fold_of origin) (take count rows) (Ok zone.records)
IsFront origin count (Short some) rows = (some ≡ length rows) × (some < count)

-- rows stand for the zone of an answer, which has this origin in whatever case
abbrev pub IsZoneOf : List (List ℕ) → Front → List Row → Type 0
IsZoneOf origin (Zone zone) rows = (zone.origin ≡ fold_of origin) × Replays (fold_of origin) rows (Ok zone.records)
IsZoneOf origin (Short some) rows = ⊥

-- so many first rows are there, and are no zone's of this origin: they end so
pub record EndsFront (origin : List (List ℕ)) (count : ℕ) (end : Result (List Record) Refusal) (rows : List Row) : Type 0 where
  pub there : count ≤ length rows
  pub replays : Replays (fold_of origin) (take count rows) end

-- why it is not known what so many first rows are, where the rows are told: they are there, and are no zone's; the keeper failed; or memory
-- ran out
abbrev pub IsFrontUnread : List (List ℕ) → ℕ → Option (List Row) → OpenKind → Type 0
IsFrontUnread origin count rows (Recovery row kind) = IfSome rows (EndsFront origin count (Err (record { row = row; kind = kind })))
IsFrontUnread origin count rows KeeperFault = Unit {0}
IsFrontUnread origin count rows NoZone = ⊥
IsFrontUnread origin count rows OutOfMemory = Unit {0}

-- ---- while they are read

-- these rows were taken, or one of them was refused, whatever comes behind them; or memory ran out at one
abbrev pub IsTakenFront : List (List ℕ) → FrontState → List Row → Type 0
IsTakenFront origin (Taken state) rows = (state.origin ≡ fold_of origin) × HasTaken state rows
IsTakenFront origin (Refused fault) rows = TellsEnd (λ end. (more : List Row) → Replays (fold_of origin) (rows ++ more) end) fault

-- the row that comes next behind the last one that was read, or the first where none was; or none
abbrev pub IsNext : Option Row → Option Row → List Row → Type 0
IsNext None found rows = IsFirst found rows
IsNext (Some row) found rows = IsFirstFrom (row.id +ℤ pos 1) found rows

-- the last of these rows is this, or there are none
abbrev pub EndsWith : Option Row → List Row → Type 0
EndsWith None rows = rows ≡ []
EndsWith (Some row) rows = (front : List Row) × (rows ≡ front ++ row ∷ [])

-- of these rows so many were read, from the first on, and this is the last of them
pub record IsFrontReadUpTo (origin : List (List ℕ)) (state : FrontState) (count : ℕ) (last : Option Row) (rows : List Row) : Type 0 where
  pub front : List Row
  pub rest : List Row
  pub parts : rows ≡ front ++ rest
  pub taken : IsTakenFront origin state front
  pub number : length front ≡ count
  pub ends : EndsWith last front
