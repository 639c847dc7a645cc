use Rattle.std.proofs.Common.{◌≡◌, ◌<◌, ◌+ℤ◌, length, pos, ◌∙◌, rules}
use Rattle.std.specs.Int.{w64}
use Rattle.std.proofs.lemmas.Int.{to_z-of_z}
use Rattle.dns_keeper.specs.Rows.{rows_of}
use Rattle.dns_keeper.specs.Batches.{put_batch}
use Rattle.dns_keeper.proofs.Adding.{some_added, one_batch}
use Rattle.dns_keeper.proofs.memory.add_records.Goals as goal

pub returns-clause-rows : goal.returns-clause-rows
returns-clause-rows c =
    let last = to_z-of_z w64 c.args.last c.ranges.last in
    let first = to_z-of_z w64 c.in-Some.batch.first c.in-Some.ensures.fits.0 in
    let begins : c.in-Some.batch.first ≡ c.args.last +ℤ pos 1 = rw last at c.in-Some.ensures.first in
    let are : c.in_ok-rows.rows ≡ rows_of (c.args.last +ℤ pos 1) c.args.client c.args.serial c.in_ok-stamp.stamp c.args.records.now =
    rw (first, begins, c.as_slice-2.ensures) at c.in_ok-rows.ensures in
    some_added c.args.last c.args.client c.args.serial c.args.moment c.args.records.now c.in_ok-stamp.stamp c.args.added.now.items c.add_rows.new.added.items c.in_ok-rows.rows
    c.in_ok-stamp.ensures are c.in_ok-add_rows.ensures.rows

pub returns-clause-batches : goal.returns-clause-batches
returns-clause-batches c =
    let last = to_z-of_z w64 c.args.last c.ranges.last in
    let records = c.args.records.now in
    let out = c.if-len-eq0.false in
    let some : 0 < length records = search rules in
    let begins : c.in-Some.batch.first ≡ c.args.last +ℤ pos 1 = rw last at c.in-Some.ensures.first in
    let counts : c.in-Some.batch.count ≡ pos (length records) = rw c.as_slice.ensures at c.in-Some.ensures.count in
    let put : c.add_rows.new.batches.items ≡ put_batch (record { first = c.args.last +ℤ pos 1; count = pos (length records) }) c.args.batches.now.items =
    rw (begins, counts) at c.in_ok-add_rows.ensures.batches in
    put ∙ one_batch (c.args.last +ℤ pos 1) records c.args.batches.now.items some
