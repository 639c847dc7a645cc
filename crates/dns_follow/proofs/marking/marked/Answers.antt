use Rattle.std.proofs.Common.{◌≡◌, ℤ, Ok, sym, subst, arith, w64, to_z, of_z}
use Rattle.std.specs.Prelude.{IfSome}
use Rattle.std.proofs.lemmas.Int.{ints}
use Rattle.std.proofs.lemmas.Result.{err_from_is_err_and}
use Rattle.dns_follow.specs.Scanning.{IsNextEnd, IsMarkedUpTo}
use Rattle.dns_follow.proofs.FedReads.{if_told, both_told, carried, reads_on, reads_as_well, reads_wanting}
use Rattle.dns_follow.proofs.MarkedRows.{fit_at, marks_id, marks_known, marks_on, marks_end}
use Rattle.dns_follow.proofs.marking.marked.Goals as goal

pub end_of-requires-clause-within : goal.end_of-requires-clause-within
end_of-requires-clause-within g c =
    let was = c.loop-row in
    let told = g.K.Keeper.keeper.told was.keeper in
    let last = to_z w64 (of_z w64 c.args.last) in
    if_told told.rows
    (λ l read. marks_id c.args.rows.now last told.batches l was.row-index was.frames.items (to_z w64 was.end-bits) c.row-item.result c.loop-row-test.true c.row-item.is read) was.invariant.read

pub end_of-requires-clause-known : goal.end_of-requires-clause-known
end_of-requires-clause-known g c =
    let was = c.loop-row in
    let told = g.K.Keeper.keeper.told was.keeper in
    let last = to_z w64 (of_z w64 c.args.last) in
    if_told told.rows
    (λ l read. marks_known c.args.rows.now last told.batches l was.row-index was.frames.items (to_z w64 was.end-bits) c.row-item.result c.loop-row-test.true c.row-item.is read) was.invariant.read

pub frame_of-requires : goal.frame_of-requires
frame_of-requires g c = record { fit = fit_at c.args.rows.now c.loop-row.row-index c.row-item.result c.requires.fit c.loop-row-test.true c.row-item.is }

pub loop-row-preserved : goal.loop-row-preserved
loop-row-preserved g c =
    let was = c.loop-row in
    let keeper = g.K.Keeper.keeper in
    let now = c.end_of.new.keeper in
    let told = keeper.told now in
    let rows = c.args.rows.now in
    let row = c.row-item.result in
    let i = was.row-index in
    let frames = was.frames.items in
    let last = to_z w64 (of_z w64 c.args.last) in
    let end = to_z w64 was.end-bits in
    let next = c.in_ok-end.end in
    let there = to_z w64 (of_z w64 next) in
    let same : there ≡ next = omega (arith, ints) in
    let ends : IfSome told.rows (λ all. IsNextEnd told.batches row.id there) = subst (λ (z : ℤ). IfSome told.rows (λ all. IsNextEnd told.batches row.id z)) (sym same) c.in_ok-end.ensures.ok in
    let read : IfSome told.rows (IsMarkedUpTo rows last i frames end told.batches) =
    carried keeper (λ bs l. IsMarkedUpTo rows last i frames end bs l) was.keeper now (Ok next) c.in_ok-end.ensures.reads was.invariant.read in
    record {
      read = both_told told.rows
          (λ l before ahead. marks_on rows last told.batches l i frames end row c.loop-row-test.true c.row-item.is before there c.has_id.result c.in_ok-frame.frame c.push_frame.new.frames.items ahead
          c.has_id.ensures c.in_ok-frame.ensures c.in_ok-push_frame.ensures)
          read ends;
      reads = reads_on keeper c.args.keeper.now was.keeper now tt (Ok tt) was.invariant.reads (reads_as_well keeper was.keeper now next tt c.in_ok-end.ensures.reads);
    }

pub returns-in_err-frame-clause-reads : goal.returns-in_err-frame-clause-reads
returns-in_err-frame-clause-reads g c =
    let was = c.loop-row in
    let keeper = g.K.Keeper.keeper in
    let now = c.end_of.new.keeper in
    let next = c.in_ok-end.end in
    let p = err_from_is_err_and c.from_residual-in_err-frame.result c.from_residual-in_err-frame.ensures.1 in
    rw (p.1, p.2)
    (reads_wanting keeper c.args.keeper.now now next (reads_on keeper c.args.keeper.now was.keeper now tt (Ok next) was.invariant.reads c.in_ok-end.ensures.reads))

pub returns-in_err-push_frame-clause-reads : goal.returns-in_err-push_frame-clause-reads
returns-in_err-push_frame-clause-reads g c =
    let was = c.loop-row in
    let keeper = g.K.Keeper.keeper in
    let now = c.end_of.new.keeper in
    let next = c.in_ok-end.end in
    let p = err_from_is_err_and c.from_residual-in_err-push_frame.result c.from_residual-in_err-push_frame.ensures.1 in
    rw (p.1, p.2)
    (reads_wanting keeper c.args.keeper.now now next (reads_on keeper c.args.keeper.now was.keeper now tt (Ok next) was.invariant.reads c.in_ok-end.ensures.reads))

pub returns-clause-ok : goal.returns-clause-ok
returns-clause-ok g c =
    let was = c.loop-row in
    let told = g.K.Keeper.keeper.told was.keeper in
    let last = to_z w64 (of_z w64 c.args.last) in
    if_told told.rows (λ l read. marks_end c.args.rows.now last told.batches l was.row-index was.frames.items (to_z w64 was.end-bits) c.loop-row-test.false read) was.invariant.read
