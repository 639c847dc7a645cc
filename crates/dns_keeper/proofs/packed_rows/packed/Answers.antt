use Rattle.std.proofs.Common.{◌≡◌, ◌<◌, ◌+◌, ◌++◌, ◌∷◌, [], length, map, take, rules}
use Rattle.std.proofs.lemmas.List.{take_more, map-append}
use Rattle.dns_wire.specs.WireFormat.{record_bytes}
use Rattle.dns_keeper.proofs.Packing.{packs_more}
use Rattle.dns_keeper.proofs.packed_rows.packed.Goals as goal

pub loop-one-preserved : goal.loop-one-preserved
loop-one-preserved c =
    let front = c.args.stamp.now in
    let bytes = c.loop-one.bytes.items in
    let before = take c.loop-one.one-index c.args.records.now in
    let within : c.loop-one.one-index < length c.args.records.now = rw c.as_slice-one-items.ensures at c.loop-one-test.true in
    let longer : c.extend_from_slice.new.self.items ≡ bytes ++ record_bytes c.one-item.result = search rules in
    let ended : c.push.new.self.items ≡ c.loop-one.ends.items ++ length c.extend_from_slice.new.self.items ∷ [] = search rules in
    let texts : map record_bytes (take (c.loop-one.one-index + 1) c.args.records.now) ≡ map record_bytes before ++ record_bytes c.one-item.result ∷ [] =
    rw (take_more c.args.records.now c.loop-one.one-index c.one-item.result within, ← (rw c.as_slice-one-items.ensures at c.one-item.is)) (map-append record_bytes before (c.one-item.result ∷ [])) in
    rw (texts, ended, longer) (packs_more front (map record_bytes before) c.loop-one.ends.items bytes (record_bytes c.one-item.result) c.loop-one.invariant)
