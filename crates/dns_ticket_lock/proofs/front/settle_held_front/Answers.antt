use Rattle.std.proofs.Common.{◌≡◌, ◌+◌, ◌||◌, set, sym, ap, ◌∙◌, arith}
use mathlib.Core.Option.{some, some-injective}
use lib.ListN.{get_elem?}
use Rattle.atomic_table.proofs.Lists.{at_index}
use Rattle.dns_ticket_lock.specs.declared.held.Member.{Member}
use Rattle.dns_ticket_lock.specs.Shares.{share_of, last}
use Rattle.dns_ticket_lock.proofs.Totals.{total_set}
use Rattle.dns_ticket_lock.proofs.Shares.{share_within, marks_after}
use Rattle.dns_ticket_lock.proofs.front.settle_held_front.Goals as goal

pub member_after-requires : goal.member_after-requires
member_after-requires g c =
    let h = c.args.held.now in
    let m = c.index-member.result.now in
    let at : get_elem? h.members.items c.args.low ≡ some m = at_index h.members.items c.args.low m c.requires.low c.index-member.ensures in
    let small = share_within h.members.items c.args.low m at in
    let sums = h.sums in
    let rise = c.settle_front.ensures.rise in
    let fits = c.fault_count-faults.ensures in
    omega arith

pub invariant_of-held : goal.invariant_of-held
invariant_of-held g c =
    let h = c.args.held.now in
    let m = c.index-member.result.now in
    let now = c.member_after.result in
    let book = c.settle_front.new.book in
    let told = c.settle_front.result.1 in
    let at : get_elem? h.members.items c.args.low ≡ some m = at_index h.members.items c.args.low m c.requires.low c.index-member.ensures in
    let rise = c.settle_front.ensures.rise in
    let fits = c.fault_count-faults.ensures in
    let sums = h.sums in
    let is = c.member_after.ensures in
    let share : now.share ≡ m.share + told.rise = ap share_of is in
    let change = total_set share_of h.members.items c.args.low m now at in
    let later : (g.K.Keeper.keeper.told h.book.keeper).faults ≡ last → (g.K.Keeper.keeper.told book.keeper).faults ≡ last = λ top. omega arith in
    record {
      sums = omega arith;
      marked = marks_after (g.K.Keeper.keeper.told h.book.keeper).faults (g.K.Keeper.keeper.told book.keeper).faults h.members.items c.args.low m now told.mark later (λ marked. later (c.settle_front.ensures.mark marked)) at (ap (λ (x : Member). x.mark) is) h.marked;
    }

pub returns-clause-members : goal.returns-clause-members
returns-clause-members g c m at =
    let h = c.args.held.now in
    let told = c.settle_front.result.1 in
    let here = at_index h.members.items c.args.low c.index-member.result.now c.requires.low c.index-member.ensures in
    let same : c.index-member.result.now ≡ m = some-injective c.index-member.result.now m (sym here ∙ at) in
    ap (set h.members.items c.args.low)
    (c.member_after.ensures ∙ ap (λ (x : Member). record { share = x.share + told.rise; mark = x.mark || told.mark }) same)
