-- Where the way from the origin down to a name ends, and what a look finds from there.
use Rattle.std.specs.Prelude.{◌≡◌, ◌+◌, ◌<◌, ◌≤◌, ℕ, true, List, length, drop, Option, Some, None}
use Rattle.std.specs.Option.{option_copied}
use Rattle.dns_zone_map.specs.Zone.{Contents}
use Rattle.dns_zone_map.specs.Sets.{AreSetsOf, sets_or_none}
use Rattle.dns_zone_map.specs.Existence.{exists}
use Rattle.dns_zone_map.specs.Walk.{Way}
use Rattle.dns_zone.specs.declared.descent.Descent.{Descent}
use Rattle.dns_zone.specs.declared.descent.Descent.TheVariants.{Cut, Own, Gone}
use Rattle.dns_zone.specs.declared.look.Look.TheVariants.{Referral}
use Rattle.dns_zone.specs.Look.{is_cut, topmost, look_of, look_at, wildcard_under}

-- the zone through which a way leads
abbrev pub along : Way → Contents
along way = record { origin = way.origin; records = way.records }

-- the zone and the name stay
pub record IsSameWay (before after : Way) : Type 0 where
  pub origin : after.origin ≡ before.origin
  pub records : after.records ≡ before.records
  pub name : after.name ≡ before.name

-- the name is not there, and its closest encloser has so many labels less
pub record IsEnclosed (zone : Contents) (name : List (List ℕ)) (rtype labels_dropped : ℕ) : Type 0 where
  pub within : length zone.origin + labels_dropped ≤ length name
  pub finds : look_of zone name rtype ≡ look_at zone.records (wildcard_under zone.records name (Some (drop labels_dropped name))) rtype

-- what a look finds at a cut, at the name itself, or under the closest encloser
abbrev pub IsDescent : Way → ℕ → Descent → Type 0
IsDescent way rtype (Cut set) = look_of (along way) way.name rtype ≡ Referral set.now.records
IsDescent way rtype (Own sets) =
    (look_of (along way) way.name rtype ≡ look_at way.records (Some (record { name = way.name; synthesized = None })) rtype)
    × AreSetsOf way.records way.name (sets_or_none (option_copied sets))
IsDescent way rtype Gone = IsEnclosed (along way) way.name rtype (way.left + 1)

-- on the way to the name, with so many labels left to it, there was no cut, and the last name is there
pub record IsAbove (zone : Contents) (name : List (List ℕ)) (labels_dropped : ℕ) : Type 0 where
  pub uncut : topmost (is_cut zone) (drop labels_dropped name) ≡ None
  pub there : exists zone.records (drop labels_dropped name) ≡ true

-- the way ends at a name, or leads on from it
abbrev pub IsStep : Way → ℕ → Option Descent → Type 0
IsStep way rtype None = (0 < way.left) × IsAbove (along way) way.name way.left
IsStep way rtype (Some end) = IsDescent way rtype end
