-- A zone with the rows of a batch behind those that stand for it, before the batch is stored.
use Rattle.std.specs.Prelude.{◌≡◌, ℕ, List, ◌++◌, true, Option, Result}
use Rattle.std.specs.List.{list_any}
use Rattle.std.specs.Option.{option_map}
use Rattle.dns_wire.specs.declared.record.Record.{Record}
use Rattle.dns_wire.specs.declared.record_type.TheConstants.{SOA}
use Rattle.dns_keeper.specs.declared.row.Row.{Row}
use Rattle.dns_zone_map.specs.Zone.{Contents, is_type}
use Rattle.dns_update.specs.Replay.{Refusal, Replays}
use Rattle.dns_follow.specs.declared.ready.Ready.{Ready}
use Rattle.dns_follow.specs.declared.ready.Ready.TheVariants.{InPlace, Anew}
use Rattle.dns_follow.specs.Seen.{AreStored}

-- the zone with the batch
abbrev pub next_of : Ready → Contents
next_of (InPlace growing) = record { origin = growing.now.origin; records = growing.now.records }
next_of (Anew next before) = next

-- the zone without it, if there was one
abbrev pub before_of : Ready → Option Contents
before_of (InPlace growing) = option_map (λ records. record { origin = growing.now.origin; records = records }) growing.before
before_of (Anew next before) = before

-- the zone with the batch has an SOA
abbrev pub IsKeepable : Ready → Type 0
IsKeepable (InPlace growing) = list_any (is_type SOA) growing.now.records ≡ true
IsKeepable (Anew next before) = Unit {0}

-- how all rows end, where these come behind so many that stand for the zone
abbrev pub EndBehind : List (List ℕ) → Option Contents → ℕ → List Row → Result (List Record) Refusal → Type 0
EndBehind origin zone done rows end = (front : List Row) → AreStored origin zone done front → Replays origin (front ++ rows) end
