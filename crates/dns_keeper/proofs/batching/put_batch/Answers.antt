use Rattle.std.proofs.Common.{◌≡◌, true, false, sym, subst, ◌∙◌}
use Rattle.dns_keeper.specs.Batches.{AreByFirst, begins_at}
use Rattle.dns_keeper.specs.Memory.{ends_below}
use Rattle.dns_keeper.proofs.Putting.{behind_is, behind_free, by_first_put}
use Rattle.dns_keeper.proofs.batching.put_batch.Goals as goal

pub returns-then-is_behind-clause-ok : goal.returns-then-is_behind-clause-ok
returns-then-is_behind-clause-ok c =
    let ends : ends_below c.args.batch.now.first c.args.batches.now.items ≡ true = sym (rw c.as_slice.ensures.value at c.is_behind.ensures) ∙ c.if-is_behind.true in
    c.in_ok-push.ensures.items ∙ sym (behind_is c.args.batch.now c.args.batches.now.items c.requires ends)

pub returns-then-is_behind-clause-free : goal.returns-then-is_behind-clause-free
returns-then-is_behind-clause-free c =
    let ends : ends_below c.args.batch.now.first c.args.batches.now.items ≡ true = sym (rw c.as_slice.ensures.value at c.is_behind.ensures) ∙ c.if-is_behind.true in
    behind_free c.args.batch.now.first c.args.batches.now.items c.requires ends

pub returns-then-is_behind-clause-by_first : goal.returns-then-is_behind-clause-by_first
returns-then-is_behind-clause-by_first c =
    let b = c.args.batch.now in
    let batches = c.args.batches.now.items in
    let ends : ends_below b.first batches ≡ true = sym (rw c.as_slice.ensures.value at c.is_behind.ensures) ∙ c.if-is_behind.true in
    subst AreByFirst (sym (c.in_ok-push.ensures.items ∙ sym (behind_is b batches c.requires ends))) (by_first_put b batches c.requires (behind_free b.first batches c.requires ends))

pub returns-clause-by_first : goal.returns-clause-by_first
returns-clause-by_first c =
    let b = c.args.batch.now in
    let batches = c.args.batches.now.items in
    let free : begins_at b.first batches ≡ false = sym (rw c.as_slice-2.ensures.value at c.begins_at.ensures) ∙ c.if-begins_at.false in
    subst AreByFirst (sym (c.in_ok-insert.ensures.items ∙ (rw c.as_slice-3.ensures.value at c.place_of-place.ensures.place))) (by_first_put b batches c.requires free)
