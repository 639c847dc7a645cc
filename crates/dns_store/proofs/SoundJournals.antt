-- Whether the rows of a journal stand for a zone, and its batches cover them, once it was seen whether it has rows.
use Rattle.std.proofs.Common.{◌≡◌, inl, inr, ℕ, List, [], Option, Some, None, sym, ◌∙◌, subst}
use Rattle.std.specs.Prelude.{IfSome, ◌≢◌, Ok}
use Rattle.dns_io.specs.Told.{Keeps, Told}
use Rattle.dns_name.specs.Name.{fold_of}
use Rattle.dns_zone_map.specs.Zone.{Contents}
use Rattle.dns_keeper.specs.declared.row.Row.{Row}
use Rattle.dns_keeper.specs.declared.batch_row.BatchRow.{BatchRow}
use Rattle.dns_keeper.specs.Keeping.{KeeperTold, KeepsBatches, IsFirstRow}
use Rattle.dns_update.specs.Replay.{Replays}
use Rattle.dns_store.specs.declared.opening.OpenKind.{OpenKind}
use Rattle.dns_store.specs.declared.opening.OpenKind.TheVariants.{Recovery, KeeperFault, NoZone, OutOfMemory}
use Rattle.dns_store.specs.Store.{StandFor}
use Rattle.dns_store.specs.Opening.{HadNoRow, HadRows, IsKeepers, IsUnread}
use Rattle.dns_store.specs.Covered.{IsCovered, HadNothing, AreNone, StandOrNone}
use Rattle.dns_store.specs.Covering.{IsUncovered}
use Rattle.dns_store.specs.Listing.{HasSome, AreSound, IsUnsound}
use Rattle.dns_store.proofs.ToldBatches.{covered_none}
use Rattle.dns_store.proofs.Opened.{some_is, stray, uncovered_more, uncovered_since, unfound_by, nothing_still}

-- a look at the first row
pub has_some : (now : Option (List Row)) (row : Row) (found : Option Row) → found ≡ Some row → IsFirstRow now found → HasSome now
has_some None row found is seen = tt
has_some (Some rows) row found is seen = some_is row rows (sym is ∙ seen)

-- rows that were read back
sound_by : (origin : List (List ℕ)) (rows : Option (List Row)) (zone : Contents) → zone.origin ≡ fold_of origin → StandFor rows zone → IfSome rows (StandOrNone origin)
sound_by origin None zone named stand = tt
sound_by origin (Some rows) zone named stand = inr (zone.records, subst (λ (o : List (List ℕ)). Replays o rows (Ok zone.records)) named stand)

pub sound_rows : (origin : List (List ℕ)) (told : KeeperTold) (zone : Contents) → zone.origin ≡ fold_of origin → StandFor told.rows zone → AreSound origin told
sound_rows origin told zone named stand = sound_by origin told.rows zone named stand

-- a journal with neither rows nor batches
none_by : (origin : List (List ℕ)) (b n : Option (List Row)) (batches : List BatchRow) → Told (λ (o : List Row) (s : List Row). (o ≡ []) × (batches ≡ [])) b n → Keeps b n → IfSome n (StandOrNone origin)
none_by origin b None batches none kept = tt
none_by origin None (Some n) batches none kept = absurd kept
none_by origin (Some b) (Some n) batches none kept = inl (kept ∙ none.0)

pub sound_none : (origin : List (List ℕ)) (before now : KeeperTold) → HadNothing before now → Keeps before.rows now.rows → AreSound origin now
sound_none origin before now none kept = none_by origin before.rows now.rows before.batches none kept

pub covered_nothing : (before now : KeeperTold) → HadNothing before now → Keeps before.rows now.rows → KeepsBatches before now → IsCovered now
covered_nothing before now none kept same = covered_none now.rows now.batches (nothing_still before now none kept same)

-- there were rows, since there were when they were looked at
had_rows : (b m n : Option (List Row)) → Keeps b m → HasSome m → Keeps m n → HadRows b n
had_rows b m None kept some more = tt
had_rows b None (Some n) kept some more = absurd more
had_rows None (Some m) (Some n) kept some more = absurd kept
had_rows (Some b) (Some m) (Some n) kept some more = subst (λ (l : List Row). l ≢ []) kept some

-- rows that were not read back
pub unsound_rows : (before between now : KeeperTold) (origin : List (List ℕ)) (kind : OpenKind) → Keeps before.rows between.rows → KeepsBatches before between → HasSome between.rows → Keeps between.rows now.rows
    → IsUnread between now origin kind → IsUnsound before now origin kind
unsound_rows before between now origin (Recovery id why) kept same some more unread =
    unfound_by before between now origin None id why kept same (had_rows before.rows between.rows now.rows kept some more) unread
unsound_rows before between now origin KeeperFault kept same some more unread = tt
unsound_rows before between now origin NoZone kept same some more unread = absurd unread
unsound_rows before between now origin OutOfMemory kept same some more unread = tt

-- batches without rows
pub unsound_none : (before between now : KeeperTold) (origin : List (List ℕ)) (kind : OpenKind) → Keeps before.rows between.rows → KeepsBatches before between → HadNoRow between.rows between.rows
    → IsUncovered between now kind → IsUnsound before now origin kind
unsound_none before between now origin (Recovery id why) kept same none is =
    inr (uncovered_since (StandOrNone origin) before between now id why kept same
    (uncovered_more AreNone (StandOrNone origin) between now id why (λ l empty. inl empty) (stray between.rows now.rows between.batches id why none is)))
unsound_none before between now origin KeeperFault kept same none is = tt
unsound_none before between now origin NoZone kept same none is = absurd is
unsound_none before between now origin OutOfMemory kept same none is = tt

-- a call of the keeper that is refused
pub unsound_failed : (before now : KeeperTold) (origin : List (List ℕ)) (kind : OpenKind) → IsKeepers kind → IsUnsound before now origin kind
unsound_failed before now origin (Recovery id why) told = absurd told
unsound_failed before now origin KeeperFault told = tt
unsound_failed before now origin NoZone told = absurd told
unsound_failed before now origin OutOfMemory told = tt
