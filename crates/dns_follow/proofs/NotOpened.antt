-- Why a follower was not opened, by why its store was not.
use Rattle.std.specs.Prelude.{ℕ, List}
use Rattle.dns_keeper.specs.Keeping.{KeeperTold}
use Rattle.dns_store.specs.declared.opening.OpenKind.{OpenKind}
use Rattle.dns_store.specs.declared.opening.OpenKind.TheVariants.{Recovery, KeeperFault, NoZone, OutOfMemory}
use Rattle.dns_follow.specs.Opening.{IsNotOpened, IsNotStored}
use Rattle.dns_follow.specs.OpenFaults.{follow_kind}

pub not_opened : (before now : KeeperTold) (origin : List (List ℕ)) (kind : OpenKind) → IsNotStored before now origin kind → IsNotOpened before now origin (follow_kind kind)
not_opened before now origin (Recovery row why) h = h
not_opened before now origin KeeperFault h = h
not_opened before now origin NoZone h = absurd h.cause
not_opened before now origin OutOfMemory h = h
