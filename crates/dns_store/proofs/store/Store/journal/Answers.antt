use Rattle.std.proofs.Common.{◌≡◌, ◌+◌, ℕ, Err, sym, subst}
use Rattle.dns_update.specs.declared.verdict.Verdict.TheVariants.{Passes}
use Rattle.dns_update.specs.Change.{batch_of}
use Rattle.dns_update.specs.Verdict.{prescan}
use Rattle.dns_store.specs.Store.{StoreOf, IsStored, Stores}
use Rattle.dns_store.specs.Crash.{LeavesStoreOn}
use Rattle.dns_store.proofs.Growing.{updated, IsDone, stored_done, either_done, stores_refused}
use Rattle.dns_store.proofs.LeavingOn.{on_told, on_whole}
use Rattle.dns_store.proofs.store.Store.journal.Goals as goal

pub returns-in-Err-clause-is : goal.returns-in-Err-clause-is
returns-in-Err-clause-is g c =
    subst (λ (before : StoreOf g.row.K.Denot). Stores g.K.Keeper.keeper before c.args.client c.args.moment (batch_of before.zone.origin before.zone.records c.args.updates.now) (Err c.in-Err.fault)
    (updated c.journal.new.keeper c.journal.new.self c.self.inside.row_count)) c.self.view_is
    (stores_refused g.K.Keeper.keeper _ c.journal.new.keeper c.journal.new.self c.args.client c.args.moment _ c.journal.result c.in-Err.fault c.in-Err.is c.in-Err.ensures.err
    c.journal.ensures.some c.in-Err.ensures.kept c.in-Err.ensures.batches c.journal.ensures.cause)

pub returns-in-Err-clause-left_on : goal.returns-in-Err-clause-left_on
returns-in-Err-clause-left_on g c =
    let zone = c.self.inside.zone in
    let after : StoreOf g.row.K.Denot = updated c.journal.new.keeper c.journal.new.self c.self.inside.row_count in
    let passes : prescan zone.origin c.args.updates.now ≡ Passes = rw (← c.self.view_is) at c.requires.passes in
    subst (λ (before : StoreOf g.row.K.Denot). LeavesStoreOn g.K.Keeper.keeper before → LeavesStoreOn g.K.Keeper.keeper after) c.self.view_is
    (on_whole g.K.Keeper.keeper _ after c.args.client c.args.moment (batch_of zone.origin zone.records c.args.updates.now) c.replays.ensures.batch c.self.invariant c.journal.ensures.zone
    (c.batches.ensures.journalled zone.origin zone.records c.args.updates.now c.requires.back passes) c.in-Err.ensures.err c.in-Err.ensures.kept c.in-Err.ensures.batches c.journal.ensures.left)

pub invariant_of-self-2 : goal.invariant_of-self-2
invariant_of-self-2 g c =
    let store : StoreOf g.row.K.Denot = updated c.self.inside.keeper c.self.inside.zone c.self.inside.row_count in
    let done : IsDone g.K.Keeper.keeper store c.journal.new.keeper c.args.client c.args.moment c.args.updates.now c.in-Ok.batch c.journal.new.self = record {
      is = c.in-Ok.ensures.batch;
      done = c.in-Ok.ensures.done;
      run = c.in-Ok.ensures.run;
      idle = c.in-Ok.ensures.idle;
      was = c.journal.ensures.zone;
      listed = c.in-Ok.ensures.journalled;
      uncounted = c.in-Ok.ensures.cause.counts;
    } in
    subst (λ (n : ℕ). IsStored g.K.Keeper.keeper (updated c.journal.new.keeper c.journal.new.self (c.self.inside.row_count + n))) (sym c.len.ensures)
    (stored_done g.K.Keeper.keeper store c.journal.new.keeper c.args.client c.args.moment c.args.updates.now c.in-Ok.batch c.journal.new.self done c.replays.ensures.batch c.self.invariant)

pub returns-clause-stored : goal.returns-clause-stored
returns-clause-stored g c = invariant_of-self-2 g c

pub returns-clause-left_on : goal.returns-clause-left_on
returns-clause-left_on g c = λ on.
    let store : StoreOf g.row.K.Denot = updated c.self.inside.keeper c.self.inside.zone c.self.inside.row_count in
    let done : IsDone g.K.Keeper.keeper store c.journal.new.keeper c.args.client c.args.moment c.args.updates.now c.in-Ok.batch c.journal.new.self = record {
      is = c.in-Ok.ensures.batch;
      done = c.in-Ok.ensures.done;
      run = c.in-Ok.ensures.run;
      idle = c.in-Ok.ensures.idle;
      was = c.journal.ensures.zone;
      listed = c.in-Ok.ensures.journalled;
      uncounted = c.in-Ok.ensures.cause.counts;
    } in
    either_done g.K.Keeper.keeper store c.journal.new.keeper c.args.client c.args.moment c.args.updates.now c.in-Ok.batch c.journal.new.self done (LeavesStoreOn g.K.Keeper.keeper)
    (subst (LeavesStoreOn g.K.Keeper.keeper) (sym c.self.view_is) on)
    (λ some. on_told g.K.Keeper.keeper _
    (stored_done g.K.Keeper.keeper store c.journal.new.keeper c.args.client c.args.moment c.args.updates.now c.in-Ok.batch c.journal.new.self done c.replays.ensures.batch c.self.invariant)
    (c.in-Ok.ensures.alone some))
