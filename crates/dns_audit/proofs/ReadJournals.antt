-- What readings of a journal are to an audit, and their causes.
use Rattle.std.proofs.Common.{◌≡◌, ℕ, ◌<◌, ℤ, List, Option, Some, None, Ok, Err, sym, subst}
use Rattle.std.specs.Prelude.{IfSome}
use Rattle.dns_keeper.specs.declared.row.Row.{Row}
use Rattle.dns_keeper.specs.declared.keeper.KeepFault.TheVariants as keep
use Rattle.dns_keeper.specs.Keeping.{KeeperOf}
use Rattle.dns_zone_map.specs.Zone.{Contents}
use Rattle.dns_update.specs.declared.replay_kind.ReplayKind.{ReplayKind}
use Rattle.dns_store.specs.declared.opening.OpenKind.{OpenKind}
use Rattle.dns_store.specs.declared.opening.OpenKind.TheVariants as kind
use Rattle.dns_store.specs.declared.front.Front.TheVariants as front
use Rattle.dns_store.specs.Front.{IsFront, EndsFront, IsFrontUnread}
use Rattle.dns_store.specs.Recovering.{ReadsRows}
use Rattle.dns_audit.specs.declared.fault.AuditFault.{AuditFault}
use Rattle.dns_audit.specs.declared.fault.AuditFault.TheVariants as fault
use Rattle.dns_audit.specs.Faults.{of_kind}
use Rattle.dns_audit.specs.Reading.{CountsByFault, ReadsJournal, IsZoneAt, IsRefusedAt, HasNoZoneAt}

-- a journal was read, or was not
pub read_well : {K S T : Type 0} (keeper : KeeperOf K) (old new : K) (value : S) (other : T) → ReadsRows keeper old new (Ok value) → ReadsJournal keeper old new (Ok other)
read_well keeper old new value other read = record { kept = read.kept; batches = read.batches; left = read.left; later = read.later; counts = read.counts }

-- the number of rows is no fault of the keeper
pub read_short : {K S T : Type 0} (keeper : KeeperOf K) (old new : K) (value : S) (rows : ℕ) → ReadsRows keeper old new (Ok value) → ReadsJournal {T = T} keeper old new (Err (fault.Short rows))
read_short keeper old new value rows read = record { kept = read.kept; batches = read.batches; left = read.left; later = read.later; counts = read.counts }

pub read_ill : {K S T : Type 0} (keeper : KeeperOf K) (old new : K) (k : OpenKind) (f : AuditFault) → f ≡ of_kind k → ReadsRows {T = S} keeper old new (Err k) → ReadsJournal {T = T} keeper old new (Err f)
read_ill {K} {S} {T} keeper old new k f is read = subst (λ (g : AuditFault). ReadsJournal {T = T} keeper old new (Err g)) (sym is) (by k read)
  where
    by : (k : OpenKind) → ReadsRows {T = S} keeper old new (Err k) → ReadsJournal {T = T} keeper old new (Err (of_kind k))
    by (kind.Recovery row why) read = record { kept = read.kept; batches = read.batches; left = read.left; later = read.later; counts = read.counts }
    by kind.KeeperFault read = record { kept = read.kept; batches = read.batches; left = read.left; later = read.later; counts = read.counts }
    by kind.NoZone read = record { kept = read.kept; batches = read.batches; left = read.left; later = read.later; counts = read.counts }
    by kind.OutOfMemory read = record { kept = read.kept; batches = read.batches; left = read.left; later = read.later; counts = read.counts }

pub counts_of_kind : {K S : Type 0} (keeper : KeeperOf K) (old new : K) (k : OpenKind) (f : AuditFault) → f ≡ of_kind k → ReadsRows {T = S} keeper old new (Err k)
    → CountsByFault (keeper.told old).faults (keeper.told new).faults f
counts_of_kind {K} {S} keeper old new k f is read = (read_ill {S = S} {T = S} keeper old new k f is read).counts

-- ---- the zone at a length

pub at_length : (origin : List (List ℕ)) (count : ℕ) (rows : Option (List Row)) (zone : Contents) → IfSome rows (IsFront origin count (front.Zone zone)) → IfSome rows (IsZoneAt origin count zone)
at_length origin count None zone is = tt
at_length origin count (Some rows) zone is = record { there = is.0; named = is.1; replays = is.2 }

pub at_short : (origin : List (List ℕ)) (count some : ℕ) (rows : Option (List Row)) → IfSome rows (IsFront origin count (front.Short some)) → HasNoZoneAt origin count rows (fault.Short some)
at_short origin count some None is = tt
at_short origin count some (Some rows) is = record { all = is.0; fewer = subst (λ (n : ℕ). n < count) is.0 is.1 }

refused_at : (origin : List (List ℕ)) (count : ℕ) (rows : Option (List Row)) (row : ℤ) (why : ReplayKind) → IfSome rows (EndsFront origin count (Err (record { row = row; kind = why }))) → IfSome rows (IsRefusedAt origin count row why)
refused_at origin count None row why is = tt
refused_at origin count (Some rows) row why is = record { there = is.there; replays = is.replays }

pub at_refused : (origin : List (List ℕ)) (count : ℕ) (rows : Option (List Row)) (k : OpenKind) (f : AuditFault) → f ≡ of_kind k → IsFrontUnread origin count rows k → HasNoZoneAt origin count rows f
at_refused origin count rows (kind.Recovery row why) f is told = subst (HasNoZoneAt origin count rows) (sym is) (refused_at origin count rows row why told)
at_refused origin count rows kind.KeeperFault f is told = subst (HasNoZoneAt origin count rows) (sym is) tt
at_refused origin count rows kind.NoZone f is told = absurd told
at_refused origin count rows kind.OutOfMemory f is told = subst (HasNoZoneAt origin count rows) (sym is) tt
