-- A run of a book whose keeper fails raises its count of faults.
use Rattle.std.proofs.Common.{◌≡◌, ◌∙◌, ℕ, ◌+◌, List, [], ◌∷◌, Option, Bool, if◌then◌else◌, refl, sym, ap, arith}
use Rattle.dns_keeper.specs.Keeping.{KeeperOf}
use Rattle.dns_wire.specs.declared.record.Record.{Record}
use Rattle.dns_book.specs.declared.ask.Ask.{Ask}
use Rattle.dns_book.specs.declared.ask.Receipt.{Receipt}
use Rattle.dns_book.specs.declared.ask.Settled.{Settled}
use Rattle.dns_book.specs.Access.{Access}
use Rattle.dns_book.specs.Book.{SeenOf, Ends, idle, journalled, failed, Settles}
use Rattle.dns_server_core.specs.declared.event.Out.{Out}
use Rattle.dns_server_core.specs.Runs.{Completed, Run}
use Rattle.dns_server_core.specs.Books.{failures, RoseBy}

RoseBy-none : (n m : ℕ) → n ≡ m → RoseBy 0 n m
RoseBy-none n m e = omega arith

RoseBy-more : (a b n m k : ℕ) → RoseBy a n m → RoseBy b m k → RoseBy (a + b) n k
RoseBy-more a b n m k p q = omega arith

module _ {K : Type 0} (keeper : KeeperOf K) where
  Ends-rose : (before : SeenOf K) (ask : Ask) (batch : List Record) (flag : Bool) (receipt : Option Receipt) (after : SeenOf K) → Ends keeper before ask batch flag receipt after
      → RoseBy (if flag then 1 else 0) (keeper.told before.keeper).faults (keeper.told after.keeper).faults
  Ends-rose before ask batch flag receipt after (idle none) = omega arith
  Ends-rose before ask batch flag receipt after (journalled some held grown run later) = omega (arith, later)
  Ends-rose before ask batch flag receipt after (failed some held kept batches later rose) = omega (arith, rose)

  Settles-rose : (access : Access) (before : SeenOf K) (ask : Ask) (settled : Settled) (after : SeenOf K) → (s : Settles keeper access before ask settled after)
      → RoseBy (if s.failed then 1 else 0) (keeper.told before.keeper).faults (keeper.told after.keeper).faults
  Settles-rose access before ask settled after s =
      rw (s.counted) (Ends-rose before ask _ s.failed settled.receipt s.ended s.ends)

  -- no more steps end with a fault than the count rose
  pub few_failures : (access : Access) (before later : SeenOf K) (asks : List Completed) (outs : List Out) → (ran : Run (Settles keeper access) before asks outs later)
      → RoseBy (failures keeper access before asks outs later ran) (keeper.told before.keeper).faults (keeper.told later.keeper).faults
  few_failures access before later [] outs ran = RoseBy-none (keeper.told before.keeper).faults (keeper.told later.keeper).faults (ap (λ (s : SeenOf K). (keeper.told s.keeper).faults) (sym ran.0))
  few_failures access before later (c ∷ cs) outs ran =
      RoseBy-more (if ran.3.failed then 1 else 0) (failures keeper access ran.1 cs ran.2 later ran.5) (keeper.told before.keeper).faults (keeper.told ran.1.keeper).faults (keeper.told later.keeper).faults
      (Settles-rose access before c.ask ran.0 ran.1 ran.3) (few_failures access ran.1 later cs ran.2 ran.5)

  Ends-calm : (before : SeenOf K) (ask : Ask) (batch : List Record) (flag : Bool) (receipt : Option Receipt) (after : SeenOf K) → Ends keeper before ask batch flag receipt after → ◌≡◌ {A = ℕ} (if flag then 1 else 0) 0
      → (keeper.told after.keeper).faults ≡ (keeper.told before.keeper).faults
  Ends-calm before ask batch flag receipt after (idle none) e = refl
  Ends-calm before ask batch flag receipt after (journalled some held grown run later) e = later
  Ends-calm before ask batch flag receipt after (failed some held kept batches later rose) e = absurd (omega (arith, e))

  Settles-calm : (access : Access) (before : SeenOf K) (ask : Ask) (settled : Settled) (after : SeenOf K) → (s : Settles keeper access before ask settled after) → ◌≡◌ {A = ℕ} (if s.failed then 1 else 0) 0
      → (keeper.told after.keeper).faults ≡ (keeper.told before.keeper).faults
  Settles-calm access before ask settled after s e = rw (s.counted) (Ends-calm before ask _ s.failed settled.receipt s.ended s.ends e)

  -- where no step ends with a fault, the count is as it was
  pub none_failed : (access : Access) (before later : SeenOf K) (asks : List Completed) (outs : List Out) → (ran : Run (Settles keeper access) before asks outs later)
      → failures keeper access before asks outs later ran ≡ 0 → (keeper.told later.keeper).faults ≡ (keeper.told before.keeper).faults
  none_failed access before later [] outs ran none = ap (λ (s : SeenOf K). (keeper.told s.keeper).faults) ran.0
  none_failed access before later (c ∷ cs) outs ran none =
      none_failed access ran.1 later cs ran.2 ran.5 (omega (arith, none)) ∙ Settles-calm access before c.ask ran.0 ran.1 ran.3 (omega (arith, none))
