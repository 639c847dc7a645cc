use Rattle.std.specs.Int.{w64}
use Rattle.std.proofs.lemmas.Int.{to_z-of_z}
use Rattle.dns_keeper.proofs.Packing.{numbered_rows}
use Rattle.dns_keeper.proofs.packed_rows.PackedRows.of_records.Goals as goal

pub returns : goal.returns
returns c =
    let packs = c.in_ok-ends.ensures in
    rw (to_z-of_z w64 c.args.first c.ranges.first, packs.begins, packs.behind) (numbered_rows c.args.first c.args.client c.args.serial c.args.stamp.now c.args.records.now)
