-- What the batches of a keeper are to its rows, where a store is opened and after each batch.
use Rattle.std.specs.Prelude.{◌≡◌, ◌⊎◌, ◌++◌, ℕ, ℤ, pos, List, [], ◌∷◌, Some, IfSome, Ok}
use Rattle.dns_io.specs.Told.{Told}
use Rattle.dns_name.specs.Name.{fold_of}
use Rattle.dns_wire.specs.declared.record.Record.{Record}
use Rattle.dns_keeper.specs.declared.row.Row.{Row}
use Rattle.dns_keeper.specs.declared.batch_row.BatchRow.{BatchRow}
use Rattle.dns_keeper.specs.Batches.{Covers, uncovered}
use Rattle.dns_keeper.specs.Keeping.{KeeperTold}
use Rattle.dns_update.specs.declared.replay_kind.ReplayKind.{ReplayKind}
use Rattle.dns_update.specs.declared.replay_kind.ReplayKind.TheVariants.{BatchOutOfPlace}
use Rattle.dns_update.specs.Replay.{Replays}

-- the batches cover the rows, where these are told
abbrev pub IsCovered : KeeperTold → Type 0
IsCovered told = IfSome told.rows (λ rows. Covers (pos 1) rows told.batches)

-- there was neither a row nor a batch, where the rows are told afterwards
abbrev pub HadNothing : KeeperTold → KeeperTold → Type 0
HadNothing before after = Told (λ old new. (old ≡ []) × (before.batches ≡ [])) before.rows after.rows

-- there are no rows
abbrev pub AreNone : List Row → Type 0
AreNone rows = rows ≡ []

-- the rows stand for the records of a zone that has this origin, in whatever case
abbrev pub Stand : List (List ℕ) → List Row → Type 0
Stand origin rows = (records : List Record) × Replays (fold_of origin) rows (Ok records)

-- there are no rows, or they stand for such records
abbrev pub StandOrNone : List (List ℕ) → List Row → Type 0
StandOrNone origin rows = AreNone rows ⊎ Stand origin rows

-- the rows are not refused, but the batches cease to cover them at this place, where they are told
abbrev pub AreUncovered : (List Row → Type 0) → KeeperTold → KeeperTold → ℤ → ReplayKind → Type 0
AreUncovered Pass before after place kind =
    Told (λ old new. Pass old × (kind ≡ BatchOutOfPlace) × (uncovered (pos 1) old before.batches ≡ Some place)) before.rows after.rows

-- batches that may be left go on past those of the journal by nothing or by one
abbrev pub GoesOnByOne : List BatchRow → List BatchRow → Type 0
GoesOnByOne told some = (some ≡ told) ⊎ ((b : BatchRow) × (some ≡ told ++ b ∷ []))
