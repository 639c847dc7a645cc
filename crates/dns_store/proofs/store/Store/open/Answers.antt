use Rattle.std.proofs.Common.{refl, inl, inr}
use Rattle.std.specs.Prelude.{IsSomeAnd}
use Rattle.dns_keeper.specs.Crash.{LeavesNoOther}
use Rattle.dns_store.specs.Opening.{Begins, Recovers, RecoversNot, Opens, OpensNot}
use Rattle.dns_store.specs.Crash.{LeavesRows, LeavesOpened, LeavesStoreOn}
use Rattle.dns_store.proofs.Opened.{on_ok, on_err, opens_begun, opens_recovered, opens_not_recovered}
use Rattle.dns_store.proofs.ReadRows.{kept_on}
use Rattle.dns_store.proofs.ToldBatches.{batches_on}
use Rattle.dns_store.proofs.LeavingOn.{both_ok, on_begun, on_recovered}
use Rattle.dns_store.proofs.store.Store.open.Goals as goal

pub returns-in-Ok-None-clause-ok : goal.returns-in-Ok-None-clause-ok
returns-in-Ok-None-clause-ok g c =
    let keeper = g.K.Keeper.keeper in
    on_ok (λ store. IsSomeAnd c.args.zone (λ z. Begins keeper (keeper.told c.row_from.new.self) z c.args.moment store))
    (Opens keeper (keeper.told c.args.keeper) c.args.origin c.args.zone c.args.moment) c.begin_with.result
    (λ store done. opens_begun keeper (keeper.told c.args.keeper) (keeper.told c.row_from.new.self) c.args.origin c.args.zone c.args.moment store c.in-Ok-None.ensures.read.kept
    c.in-Ok-None.ensures.read.batches c.in-Ok-None.ensures.read.cause.counts c.requires.origin done)
    c.begin_with.ensures.ok

pub returns-in-Ok-Some-clause-ok : goal.returns-in-Ok-Some-clause-ok
returns-in-Ok-Some-clause-ok g c =
    let keeper = g.K.Keeper.keeper in
    on_ok (Recovers keeper (keeper.told c.row_from.new.self) c.args.origin)
    (Opens keeper (keeper.told c.args.keeper) c.args.origin c.args.zone c.args.moment) c.recover.result
    (λ store done. opens_recovered keeper (keeper.told c.args.keeper) (keeper.told c.row_from.new.self) c.args.origin c.args.zone c.args.moment store c.in-Ok-Some.field-0-0
    c.in-Ok-Some.ensures.read.kept c.in-Ok-Some.ensures.read.batches c.in-Ok-Some.ensures.read.cause.counts (rw c.in-Ok-Some.field-0-is at (c.in-Ok-Some.ensures.read.first refl)) done)
    c.recover.ensures.ok

pub returns-in-Ok-None-clause-left : goal.returns-in-Ok-None-clause-left
returns-in-Ok-None-clause-left g c =
    on_ok (λ store. LeavesRows g.K.Keeper.keeper store.keeper) (λ store. LeavesOpened g.K.Keeper.keeper c.args.keeper store.keeper) c.begin_with.result
    (λ store alone. inl alone) c.begin_with.ensures.left

pub returns-in-Ok-Some-clause-left : goal.returns-in-Ok-Some-clause-left
returns-in-Ok-Some-clause-left g c =
    on_ok (λ store. LeavesNoOther (g.K.Keeper.keeper.may_leave c.row_from.new.self) (g.K.Keeper.keeper.may_leave store.keeper))
    (λ store. LeavesOpened g.K.Keeper.keeper c.args.keeper store.keeper) c.recover.result
    (λ store no. inr (λ some left. c.row_from.ensures.read.left some (no some left))) c.recover.ensures.left

pub returns-in-Ok-None-clause-left_on : goal.returns-in-Ok-None-clause-left_on
returns-in-Ok-None-clause-left_on g c alone =
    let keeper = g.K.Keeper.keeper in
    both_ok c.begin_with.result (λ store. IsSomeAnd c.args.zone (λ z. Begins keeper (keeper.told c.row_from.new.self) z c.args.moment store))
    (λ store. LeavesRows keeper store.keeper) (LeavesStoreOn keeper)
    (λ store done told. on_begun keeper (keeper.told c.row_from.new.self) c.args.zone c.args.moment store done told)
    c.begin_with.ensures.ok c.begin_with.ensures.left

pub returns-in-Ok-Some-clause-left_on : goal.returns-in-Ok-Some-clause-left_on
returns-in-Ok-Some-clause-left_on g c alone =
    let keeper = g.K.Keeper.keeper in
    both_ok c.recover.result (Recovers keeper (keeper.told c.row_from.new.self) c.args.origin)
    (λ store. LeavesNoOther (keeper.may_leave c.row_from.new.self) (keeper.may_leave store.keeper)) (LeavesStoreOn keeper)
    (λ store done more. on_recovered keeper (keeper.told c.args.keeper) store done.stands
    (kept_on (keeper.told c.args.keeper).rows (keeper.told c.row_from.new.self).rows (keeper.told store.keeper).rows c.in-Ok-Some.ensures.read.kept done.kept)
    (batches_on (keeper.told c.args.keeper) (keeper.told c.row_from.new.self) (keeper.told store.keeper) c.in-Ok-Some.ensures.read.kept c.in-Ok-Some.ensures.read.batches done.batches)
    (λ some left. alone some (c.row_from.ensures.read.left some (more some left))))
    c.recover.ensures.ok c.recover.ensures.left

pub returns-in-Ok-Some-clause-err : goal.returns-in-Ok-Some-clause-err
returns-in-Ok-Some-clause-err g c =
    let keeper = g.K.Keeper.keeper in
    on_err (λ f. RecoversNot (keeper.told c.row_from.new.self) (keeper.told f.keeper) c.args.origin f.kind)
    (λ f. OpensNot (keeper.told c.args.keeper) (keeper.told f.keeper) c.args.origin c.args.zone f.kind) c.recover.result
    (λ f not. opens_not_recovered (keeper.told c.args.keeper) (keeper.told c.row_from.new.self) (keeper.told f.keeper) c.args.origin c.args.zone f.kind c.in-Ok-Some.field-0-0
    c.in-Ok-Some.ensures.read.kept c.in-Ok-Some.ensures.read.batches c.in-Ok-Some.ensures.read.cause.counts (rw c.in-Ok-Some.field-0-is at (c.in-Ok-Some.ensures.read.first refl)) not)
    c.recover.ensures.err
