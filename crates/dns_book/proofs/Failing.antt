-- When the keeper of a book failed in settling a message.
use Rattle.std.proofs.Common.{◌≡◌, ◌<◌, ◌≤◌, List, length, Option, Bool, true, false, refl, sym, ap, subst, arith}
use Rattle.dns_io.specs.Told.{Rose}
use Rattle.dns_wire.specs.declared.record.Record.{Record}
use Rattle.dns_keeper.specs.Keeping.{KeeperOf}
use Rattle.dns_book.specs.declared.ask.Ask.{Ask}
use Rattle.dns_book.specs.declared.ask.Receipt.{Receipt}
use Rattle.dns_book.specs.declared.ask.Settled.{Settled}
use Rattle.dns_book.specs.Access.{Access}
use Rattle.dns_book.specs.Owed.{batch_by}
use Rattle.dns_book.specs.Book.{SeenOf, Ends, idle, journalled, failed, Settles}
use Rattle.dns_book.proofs.Carried.{failed_some}

faults_later : {K : Type 0} (keeper : KeeperOf K) (before : SeenOf K) (ask : Ask) (batch : List Record) (fails : Bool) (receipt : Option Receipt) (ended : SeenOf K)
    → Ends keeper before ask batch fails receipt ended → (keeper.told before.keeper).faults ≤ (keeper.told ended.keeper).faults
faults_later keeper before ask batch _ _ _ (idle none) = omega arith
faults_later keeper before ask batch _ _ _ (journalled some held grew run same) = omega (arith, same)
faults_later keeper before ask batch _ _ _ (failed some held kept batches later rose) = later

faults_same : {K : Type 0} (keeper : KeeperOf K) (before : SeenOf K) (ask : Ask) (batch : List Record) (fails : Bool) (receipt : Option Receipt) (ended : SeenOf K)
    → Ends keeper before ask batch fails receipt ended → fails ≡ false → (keeper.told ended.keeper).faults ≡ (keeper.told before.keeper).faults
faults_same keeper before ask batch _ _ _ (idle none) e = refl
faults_same keeper before ask batch _ _ _ (journalled some held grew run same) e = same
faults_same keeper before ask batch _ _ _ (failed some held kept batches later rose) e = absurd cc

faults_rose : {K : Type 0} (keeper : KeeperOf K) (before : SeenOf K) (ask : Ask) (batch : List Record) (fails : Bool) (receipt : Option Receipt) (ended : SeenOf K)
    → Ends keeper before ask batch fails receipt ended → fails ≡ true → Rose (keeper.told before.keeper).faults (keeper.told ended.keeper).faults
faults_rose keeper before ask batch _ _ _ (idle none) e = absurd cc
faults_rose keeper before ask batch _ _ _ (journalled some held grew run later) e = absurd cc
faults_rose keeper before ask batch _ _ _ (failed some held kept batches later rose) e = rose

pub Settles-later : {K : Type 0} (keeper : KeeperOf K) (access : Access) (before after : SeenOf K) (ask : Ask) (settled : Settled) → Settles keeper access before ask settled after
    → (keeper.told before.keeper).faults ≤ (keeper.told after.keeper).faults
Settles-later keeper access before after ask settled is =
    subst (λ (held : _). (keeper.told before.keeper).faults ≤ (keeper.told held).faults) (ap (λ (b : SeenOf _). b.keeper) (sym is.counted)) (faults_later keeper before ask _ is.failed settled.receipt is.ended is.ends)

pub Settles-same : {K : Type 0} (keeper : KeeperOf K) (access : Access) (before after : SeenOf K) (ask : Ask) (settled : Settled) → (is : Settles keeper access before ask settled after)
    → is.failed ≡ false → (keeper.told after.keeper).faults ≡ (keeper.told before.keeper).faults
Settles-same keeper access before after ask settled is fine =
    subst (λ (held : _). (keeper.told held).faults ≡ (keeper.told before.keeper).faults) (ap (λ (b : SeenOf _). b.keeper) (sym is.counted)) (faults_same keeper before ask _ is.failed settled.receipt is.ended is.ends fine)

pub Settles-rose : {K : Type 0} (keeper : KeeperOf K) (access : Access) (before after : SeenOf K) (ask : Ask) (settled : Settled) → (is : Settles keeper access before ask settled after)
    → is.failed ≡ true → Rose (keeper.told before.keeper).faults (keeper.told after.keeper).faults
Settles-rose keeper access before after ask settled is fails =
    subst (λ (held : _). Rose (keeper.told before.keeper).faults (keeper.told held).faults) (ap (λ (b : SeenOf _). b.keeper) (sym is.counted)) (faults_rose keeper before ask _ is.failed settled.receipt is.ended is.ends fails)

pub Settles-some : {K : Type 0} (keeper : KeeperOf K) (access : Access) (before after : SeenOf K) (ask : Ask) (settled : Settled) → (is : Settles keeper access before ask settled after)
    → is.failed ≡ true → 0 < length (batch_by before.zone before.allow_update is.reply.decision)
Settles-some keeper access before after ask settled is fails =
    failed_some keeper before ask (batch_by before.zone before.allow_update is.reply.decision) is.failed settled.receipt is.ended is.ends fails
