use Rattle.std.proofs.Common.{◌∙◌, sym}
use Rattle.dns_zone_map.specs.Sets.{are_some}
use Rattle.dns_zone_map.proofs.Firsts.{begins_is, next_start, next_step, next_other}
use Rattle.dns_zone_map.proofs.tree.is_begun_from.Goals as goal

pub loop-next-init : goal.loop-next-init
loop-next-init c =
    next_start c.args.key.now.items are_some c.args.names.now.entries c.into_iter-next-iterator.result c.range-next-items.ensures.ordered (c.into_iter-next-iterator.ensures.into_iter_gives ∙ c.range-next-items.ensures.between tt)

pub returns-then-not-begins : goal.returns-then-not-begins
returns-then-not-begins c =
    next_other c.args.key.now.items are_some c.args.names.now.entries c.loop-next.next-iterator c.next.new.self (c.in-Some.next.now, c.in-Some.sets.now) c.loop-next.invariant c.in-Some.ensures.steps
    (begins_is c.begins.result _ _ c.in-Some.next.now.items c.args.key.now.items c.begins.ensures c.deref.ensures.value c.deref-in-loop-next.ensures.value ∙ c.if-not-begins.true)

pub loop-next-preserved : goal.loop-next-preserved
loop-next-preserved c =
    next_step c.args.key.now.items are_some c.args.names.now.entries c.loop-next.next-iterator c.next.new.self (c.in-Some.next.now, c.in-Some.sets.now) c.loop-next.invariant c.in-Some.ensures.steps (sym c.is_some.ensures ∙ c.if-is_some.false)
