use Rattle.std.proofs.Common.{◌∙◌, ◌+◌, ◌++◌, ap, get_or, take, drop, List}
use Rattle.dns_wire.specs.declared.record.Record.{Record}
use Rattle.dns_zone_map.proofs.EqualTaken.{taken_first}
use Rattle.dns_zone_map.proofs.sets.take_equal.Goals as goal

pub returns-in-Some : goal.returns-in-Some
returns-in-Some c = taken_first c.args.one.now c.remove-taken.result c.args.set.now c.as_slice.result.now c.from_vec.result c.remove.new.self c.in-Some.place c.as_slice.ensures c.requires c.in-Some.ensures.some (c.remove-taken.ensures.value ∙ ap (λ (rs : List Record). get_or rs c.in-Some.place c.remove-taken.result) (c.into_vec-records.ensures ∙ c.replace.ensures.value)) (c.from_vec.ensures ∙ c.remove-taken.ensures.by_index.2 ∙ ap (λ (rs : List Record). take c.in-Some.place rs ++ drop (c.in-Some.place + 1) rs) (c.into_vec-records.ensures ∙ c.replace.ensures.value)) c.remove.ensures
