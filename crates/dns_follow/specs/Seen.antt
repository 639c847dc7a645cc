-- What contracts see of a follower, and what always holds of it.
use Rattle.std.specs.Prelude.{◌≡◌, ℕ, pos, ◌+◌, ◌<◌, ◌^◌, List, [], ◌∷◌, length, Option, Some, None, IfSome, Ok}
use Rattle.dns_name.specs.Name.{fold_of}
use Rattle.dns_wire.specs.declared.record.Record.{Record}
use Rattle.dns_wire.specs.WireFormat.{IsShort}
use Rattle.dns_wire.specs.ReadBack.{ReadsBack}
use Rattle.dns_keeper.specs.declared.row.Row.{Row}
use Rattle.dns_keeper.specs.Keeping.{KeeperOf, KeeperTold}
use Rattle.dns_zone_map.specs.Zone.{Contents}
use Rattle.dns_update.specs.Replay.{IsOneRecord, Replays}
use Rattle.dns_store.specs.Covered.{IsCovered}
use Rattle.dns_follow.specs.Following.{State}

-- the keeper of the stored rows, the origin, the zone that they stand for, if there are any, their number, and the rows that are held
pub record SeenOf (K : Type 0) : Type 0 where
  pub keeper : K
  pub origin : List (List ℕ)
  pub zone : Option Contents
  pub count : ℕ
  pub held : List Row

abbrev pub state_of : {K : Type 0} → KeeperOf K → SeenOf K → State
state_of keeper seen = record { count = seen.count; told = keeper.told seen.keeper; held = seen.held }

-- rows without stamps of one client and one serial, whose ids count up from this one, and the records that they are, of each of which this
-- holds
abbrev pub AreRowsOf : (Record → Type 0) → ℕ → ℕ → ℕ → List Row → List Record → Type 0
AreRowsOf P id client serial [] [] = Unit {0}
AreRowsOf P id client serial [] (r ∷ rs) = ⊥
AreRowsOf P id client serial (row ∷ rows) [] = ⊥
AreRowsOf P id client serial (row ∷ rows) (r ∷ rs) =
    (row ≡ record { id = pos id; client = pos client; serial = pos serial; stamp = []; bytes = row.bytes }) × IsOneRecord row.bytes r × P r
    × AreRowsOf P (id + 1) client serial rows rs

-- a record that reads as itself when it was written, in at most 65,535 bytes
pub record IsWritable (r : Record) : Type 0 where
  pub back : ReadsBack r
  pub short : IsShort r

-- the held rows, and their records
abbrev pub AreHeld : ℕ → ℕ → ℕ → List Row → List Record → Type 0
AreHeld = AreRowsOf IsWritable

-- rows that stand for a zone of this origin, or none where there is no zone
abbrev pub StandsFor : List (List ℕ) → Option Contents → List Row → Type 0
StandsFor origin None rows = rows ≡ []
StandsFor origin (Some zone) rows = Replays origin rows (Ok zone.records)

-- the stored rows: their number, and what they stand for
pub record AreStored (origin : List (List ℕ)) (zone : Option Contents) (count : ℕ) (rows : List Row) : Type 0 where
  pub size : length rows ≡ count
  pub stands : StandsFor origin zone rows

-- what always holds of a follower; there are ids for all rows
pub record IsSound (told : KeeperTold) (origin : List (List ℕ)) (zone : Option Contents) (count : ℕ) (held : List Row)
    (records : List Record) : Type 0 where
  pub folded : fold_of origin ≡ origin
  pub named : IfSome zone (λ z. z.origin ≡ origin)
  pub few : count + length held < 2 ^ 63
  pub stored : IfSome told.rows (AreStored origin zone count)
  pub covered : IsCovered told
  pub client : ℕ
  pub serial : ℕ
  pub held_is : AreHeld (count + 1) client serial held records
