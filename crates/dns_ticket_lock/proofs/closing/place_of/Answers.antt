use Rattle.std.proofs.Common.{◌≡◌, length, sym, ap, ◌∙◌, arith, rules}
use Rattle.std.proofs.Math.Decide.{dec_lt}
use mathlib.Core.Logic.{dite}
use Rattle.atomic_table.proofs.Lists.{at_index}
use Rattle.dns_ticket_lock.specs.Passes.{PassSeen}
use Rattle.dns_ticket_lock.proofs.Seats.{same_at, within}
use Rattle.dns_ticket_lock.proofs.closing.place_of.Goals as goal

pub returns-then-number : goal.returns-then-number
returns-then-number c =
    let len : c.len-place-end.result ≡ length c.args.passes.now.items = search rules in
    let less = c.loop-place-test.true in
    (c.index.result.now, at_index c.args.passes.now.items c.loop-place.place c.index.result.now (omega arith) c.index.ensures, sym c.number.ensures ∙ c.if-number.true)

pub loop-place-preserved : goal.loop-place-preserved
loop-place-preserved c m p small e is =
    let len : c.len-place-end.result ≡ length c.args.passes.now.items = search rules in
    let less = c.loop-place-test.true in
    let at = at_index c.args.passes.now.items c.loop-place.place c.index.result.now (omega arith) c.index.ensures in
    dite (dec_lt m c.loop-place.place)
    (λ before. c.loop-place.invariant m p before e is)
    (λ here. c.if-number.false (c.number.ensures ∙ (ap (λ (x : PassSeen). x.number) (same_at c.args.passes.now.items c.loop-place.place m c.index.result.now p (omega arith) at e) ∙ is)))

pub unreachable-requires : goal.unreachable-requires
unreachable-requires c =
    let len : c.len-place-end.result ≡ length c.args.passes.now.items = search rules in
    let r = c.requires in
    let stop = c.loop-place-test.false in
    let in_list = within c.args.passes.now.items r.0 r.1 r.2 in
    c.loop-place.invariant r.0 r.1 (omega arith) r.2 r.3
