use Rattle.std.proofs.Common.{◌++◌, sym, ◌∙◌, rules}
use Rattle.std.specs.Int.{w64}
use Rattle.std.proofs.lemmas.Int.{to_z-of_z}
use Rattle.dns_keeper.specs.Keeping.{HasBatch}
use Rattle.dns_keeper.specs.Packed.{joined}
use Rattle.dns_keeper.proofs.Adding.{has_batch, ascending_whole, last_id-grown}
use Rattle.dns_keeper.proofs.memory.MemoryKeeperKeeper.append.Goals as goal

pub invariant_of-self-in-Ok : goal.invariant_of-self-in-Ok
invariant_of-self-in-Ok c =
    let k = c.self.inside in
    let old = k.given.items ++ joined k.added.items in
    let new = k.given.items ++ joined c.add_records.new.added.items in
    let same = to_z-of_z w64 k.last c.self.invariant.3 in
    let grown : HasBatch old c.args.client c.args.serial c.args.moment c.args.records.now new =
    has_batch k.given.items (joined k.added.items) (joined c.add_records.new.added.items) _ _ _ _ (rw (same, c.self.invariant.2) at c.in-Ok.ensures.rows) in
    let last = to_z-of_z w64 c.in-Ok.last c.in-Ok.ensures.fits in (
      ascending_whole old new _ _ _ _ c.self.invariant.0 grown,
      c.in-Ok.ensures.by_first,
      last ∙ (rw (same, c.self.invariant.2) at c.in-Ok.ensures.last) ∙ sym (last_id-grown old new _ _ _ _ grown),
      rw last c.in-Ok.ensures.fits,
    )

pub returns-in-Ok-clause-appended : goal.returns-in-Ok-clause-appended
returns-in-Ok-clause-appended c =
    let k = c.self.inside in
    let old = k.given.items ++ joined k.added.items in
    let new = k.given.items ++ joined c.add_records.new.added.items in
    let same = to_z-of_z w64 k.last c.self.invariant.3 in
    let grown : HasBatch old c.args.client c.args.serial c.args.moment c.args.records.now new =
    has_batch k.given.items (joined k.added.items) (joined c.add_records.new.added.items) _ _ _ _ (rw (same, c.self.invariant.2) at c.in-Ok.ensures.rows) in
    rw (← c.self.view_is) (record {
      ok = grown;
      run = rw (same, c.self.invariant.2) at c.in-Ok.ensures.batches;
      err = tt;
      batches = tt;
      ascending = ascending_whole old new _ _ _ _ c.self.invariant.0 grown;
      by_first = c.in-Ok.ensures.by_first;
      alone = λ _ _ none. absurd none;
      left = λ _ none. absurd none;
      cause = record { later = search rules; counts = search rules };
    })
