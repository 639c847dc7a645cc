-- What opening a follower gives, and when it is refused.
use Rattle.std.specs.Prelude.{◌≡◌, ℕ, List, [], None, IfSome}
use Rattle.dns_io.specs.Told.{Keeps}
use Rattle.dns_name.specs.Name.{fold_of}
use Rattle.dns_keeper.specs.Keeping.{KeeperOf, KeeperTold, KeepsBatches}
use Rattle.dns_store.specs.declared.opening.OpenKind.{OpenKind}
use Rattle.dns_store.specs.Opening.{IsUnopened}
use Rattle.dns_store.specs.Covered.{HadNothing, IsCovered}
use Rattle.dns_store.specs.Listing.{IsUnsound}
use Rattle.dns_follow.specs.declared.open_fault.FollowOpenKind.{FollowOpenKind}
use Rattle.dns_follow.specs.OpenFaults.{store_kind}
use Rattle.dns_follow.specs.Seen.{SeenOf, AreStored}

-- a journal was opened, whose keeper told this before: it stays as it is, its rows stand for the zone, which has this origin in whatever
-- case, and its batches cover them; or it has neither, and there is no zone
pub record IsOpened {K : Type 0} (keeper : KeeperOf K) (before : KeeperTold) (origin : List (List ℕ)) (seen : SeenOf K) : Type 0 where
  pub kept : Keeps before.rows (keeper.told seen.keeper).rows
  pub batches : KeepsBatches before (keeper.told seen.keeper)
  pub uncounted : (keeper.told seen.keeper).faults ≡ before.faults
  pub named : seen.origin ≡ fold_of origin
  pub held : seen.held ≡ []
  pub stored : IfSome (keeper.told seen.keeper).rows (AreStored seen.origin seen.zone seen.count)
  pub covered : IsCovered (keeper.told seen.keeper)
  pub nothing : seen.zone ≡ None → HadNothing before (keeper.told seen.keeper)

-- a store was not opened for this cause, and its journal stays as it is
pub record IsNotStored (before now : KeeperTold) (origin : List (List ℕ)) (kind : OpenKind) : Type 0 where
  pub cause : IsUnsound before now origin kind
  pub unopened : IsUnopened before now kind

-- so it is for a follower
abbrev pub IsNotOpened : KeeperTold → KeeperTold → List (List ℕ) → FollowOpenKind → Type 0
IsNotOpened before now origin kind = IsNotStored before now origin (store_kind kind)
