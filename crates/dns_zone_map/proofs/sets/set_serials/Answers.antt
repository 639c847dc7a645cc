use Rattle.std.proofs.Common.{◌∙◌, ◌<◌, ap, length, rules}
use Rattle.std.proofs.lemmas.List.{length-set}
use Rattle.dns_zone_map.specs.Changes.{at_serial}
use Rattle.dns_zone_map.proofs.SerialPut.{next_serial}
use Rattle.dns_zone_map.proofs.sets.set_serials.Goals as goal

pub loop-place-preserved : goal.loop-place-preserved
loop-place-preserved c =
    let within : c.loop-place.place < length c.loop-place.records.items = search rules in
    record {
      long = length-set c.loop-place.records.items c.loop-place.place c.set_serial_of.new.one ∙ c.loop-place.invariant.long;
      all = next_serial c.args.serial c.loop-place.records.items c.loop-place.place c.index_mut.result.now c.set_serial_of.new.one within (c.set_serial_of.ensures ∙ ap (at_serial c.args.serial) c.index_mut.ensures.value) ∙ c.loop-place.invariant.all;
    }
