use Rattle.std.proofs.Common.{refl, arith}
use Rattle.dns_store.specs.Store.{StoreOf, IsStored}
use Rattle.dns_store.proofs.Opened.{IsStored-begun, begins}
use Rattle.dns_store.proofs.opening.append_opening.Goals as goal

pub invariant_of-result : goal.invariant_of-result
invariant_of-result g c =
    IsStored-begun g.K.Keeper.keeper (g.K.Keeper.keeper.told c.args.keeper)
    (record { keeper = c.append.new.self; zone = c.args.zone; row_count = c.len.result })
    0 c.serial.result c.args.moment c.in-Ok.records c.requires.empty c.in-Ok-append.ensures.appended.ok c.in-Ok-append.ensures.appended.run c.len.ensures c.serial.ensures c.in-Ok.ensures.replay

pub returns-in-Ok-append-clause-ok : goal.returns-in-Ok-append-clause-ok
returns-in-Ok-append-clause-ok g c =
    let store : StoreOf g.row.K.Denot = record { keeper = c.append.new.self; zone = c.args.zone; row_count = c.len.result } in
    let stored : IsStored g.K.Keeper.keeper store = IsStored-begun g.K.Keeper.keeper (g.K.Keeper.keeper.told c.args.keeper) store
    0 c.serial.result c.args.moment c.in-Ok.records c.requires.empty c.in-Ok-append.ensures.appended.ok c.in-Ok-append.ensures.appended.run c.len.ensures c.serial.ensures c.in-Ok.ensures.replay in
    begins g.K.Keeper.keeper (g.K.Keeper.keeper.told c.args.keeper) c.args.zone c.args.moment c.serial.result c.in-Ok.records store c.requires.empty c.in-Ok-append.ensures.appended.ok
    c.in-Ok-append.ensures.appended.run c.in-Ok-append.ensures.appended.cause.counts c.serial.ensures c.in-Ok.ensures.records refl c.len.ensures stored

pub returns-in-Ok-append-clause-left : goal.returns-in-Ok-append-clause-left
returns-in-Ok-append-clause-left g c = c.in-Ok-append.ensures.appended.alone (rw c.in-Ok.ensures.records (omega arith))
