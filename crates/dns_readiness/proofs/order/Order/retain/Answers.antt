-- What is left of entries in order is in order.
use Rattle.std.proofs.Common.{subst, sym}
use Rattle.dns_readiness.specs.Order.{IsInOrder}
use Rattle.dns_readiness.proofs.InOrder.{in_order_where}
use Rattle.dns_readiness.proofs.order.Order.retain.Goals as goal

pub invariant_of-self : goal.invariant_of-self
invariant_of-self g c =
    let f = c.retain.ensures.filtered in
    subst IsInOrder (sym f.4) (in_order_where f.0 c.self.inside.entries.items c.self.invariant)
