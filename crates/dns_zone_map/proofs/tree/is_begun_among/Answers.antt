use Rattle.std.proofs.Common.{◌∙◌, sym}
use Rattle.dns_zone_map.specs.Sets.{are_some}
use Rattle.dns_zone_map.proofs.KeyOrder.{left_before, left_behind, left_empty, left_found}
use Rattle.dns_zone_map.proofs.tree.is_begun_among.Goals as goal

pub loop-next-preserved-in-Less : goal.loop-next-preserved-in-Less
loop-next-preserved-in-Less c =
    left_before c.args.key.now are_some c.args.names.now.entries c.loop-next.next-iterator c.next.new.self (c.in-Some.next.now, c.in-Some.sets.now) c.loop-next.invariant c.in-Some.ensures.steps
    (rw (sym c.deref.ensures.value) (sym c.standing.ensures ∙ c.in-Less.is))

pub returns-then-is_some : goal.returns-then-is_some
returns-then-is_some c =
    left_found c.args.key.now are_some c.args.names.now.entries c.loop-next.next-iterator c.next.new.self (c.in-Some.next.now, c.in-Some.sets.now) c.loop-next.invariant c.in-Some.ensures.steps
    (rw (sym c.deref.ensures.value) (sym c.standing.ensures ∙ c.in-Equal.is)) (sym c.is_some.ensures ∙ c.if-is_some.true)

pub loop-next-preserved : goal.loop-next-preserved
loop-next-preserved c =
    left_empty c.args.key.now are_some c.args.names.now.entries c.loop-next.next-iterator c.next.new.self (c.in-Some.next.now, c.in-Some.sets.now) c.loop-next.invariant c.in-Some.ensures.steps
    (sym c.is_some.ensures ∙ c.if-is_some.false)

pub returns-in-Greater : goal.returns-in-Greater
returns-in-Greater c =
    left_behind c.args.key.now are_some c.args.names.now.entries c.loop-next.next-iterator c.next.new.self (c.in-Some.next.now, c.in-Some.sets.now) c.loop-next.invariant c.in-Some.ensures.steps
    (rw (sym c.deref.ensures.value) (sym c.standing.ensures ∙ c.in-Greater.is))
