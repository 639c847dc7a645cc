use Rattle.std.proofs.Common.{◌<◌, length, arith}
use Rattle.dns_keeper.proofs.Packing.{bounds, part}
use Rattle.dns_keeper.proofs.packed_rows.part_at.Goals as goal

pub slice_bounds-result-count : goal.slice_bounds-result-count
slice_bounds-result-count c =
    let out = c.if-place-ends.false in
    let within : c.args.place < length c.args.ends.now = omega arith in
    rw c.start_of-begin.ensures (bounds c.args.start c.args.ends.now (length c.args.bytes.now) c.args.place c.requires within).0

pub slice_bounds-result-start : goal.slice_bounds-result-start
slice_bounds-result-start c =
    let out = c.if-place-ends.false in
    let within : c.args.place < length c.args.ends.now = omega arith in
    rw c.start_of-begin.ensures (bounds c.args.start c.args.ends.now (length c.args.bytes.now) c.args.place c.requires within).0

pub slice_bounds-result-end : goal.slice_bounds-result-end
slice_bounds-result-end c =
    let out = c.if-place-ends.false in
    let within : c.args.place < length c.args.ends.now = omega arith in
    (bounds c.args.start c.args.ends.now (length c.args.bytes.now) c.args.place c.requires within).1

pub returns-clause-some : goal.returns-clause-some
returns-clause-some c =
    let out = c.if-place-ends.false in
    let within : c.args.place < length c.args.ends.now = omega arith in
    rw c.start_of-begin.ensures (part c.args.start c.args.ends.now c.args.bytes.now c.args.place within)
