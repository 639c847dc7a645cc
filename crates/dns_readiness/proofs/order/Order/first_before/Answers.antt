-- Where the first is no earlier, none is.
use Rattle.std.proofs.Common.{◌≤◌, ℕ, List, subst, arith}
use Rattle.std.specs.List.{AllByRecursion}
use Rattle.dns_readiness.proofs.InOrder.{first_least}
use Rattle.dns_readiness.proofs.order.Order.first_before.Goals as goal

pub returns-clause-none : goal.returns-clause-none
returns-clause-none c =
    let later : c.args.moment ≤ c.in_ok-at.field-0.now.0 = omega (arith, c.if-at-moment.false) in
    subst (λ (l : List (ℕ × ℕ)). AllByRecursion (λ (e : ℕ × ℕ). c.args.moment ≤ e.0) l) c.self.view_is
    (first_least c.self.inside.entries.items c.in_ok-at.field-0.now c.args.moment c.self.invariant c.in_ok-at.ensures.lookup later)
