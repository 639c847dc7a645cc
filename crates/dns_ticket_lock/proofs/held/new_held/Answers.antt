use Rattle.std.proofs.Common.{List, length, ap, ◌∙◌, arith}
use Rattle.dns_ticket_lock.specs.declared.held.Member.{Member}
use Rattle.dns_ticket_lock.specs.Lists.{total}
use Rattle.dns_ticket_lock.specs.Shares.{share_of, marks_stand}
use Rattle.dns_ticket_lock.proofs.Shares.{no_shares, no_marks}
use Rattle.dns_ticket_lock.proofs.held.new_held.Goals as goal

pub invariant_of-held : goal.invariant_of-held
invariant_of-held g c =
    let n = length c.args.members.items in
    let start = c.fault_count-start.ensures in
    let none = ap (λ (l : List Member). total share_of l) c.requires ∙ no_shares n in
    record {
      sums = omega arith;
      marked = ap (marks_stand (g.K.Keeper.keeper.told c.args.book.keeper).faults) c.requires ∙ no_marks (g.K.Keeper.keeper.told c.args.book.keeper).faults n;
    }
