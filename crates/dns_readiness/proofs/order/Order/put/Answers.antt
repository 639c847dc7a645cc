-- The entry stands in its place.
use Rattle.std.proofs.Common.{ℕ, List, ◌∷◌, subst, sym}
use Rattle.std.specs.List.{insert}
use Rattle.std.specs.List.Sorted.{IsPermutation}
use Rattle.std.proofs.lemmas.List.Sorted.{IsPermutation-insert}
use Rattle.dns_readiness.specs.Order.{IsInOrder}
use Rattle.dns_readiness.proofs.InOrder.{in_order_insert}
use Rattle.dns_readiness.proofs.order.Order.put.Goals as goal

pub invariant_of-self-2 : goal.invariant_of-self-2
invariant_of-self-2 c =
    subst IsInOrder (sym c.in_ok-insert.ensures.items)
    (in_order_insert c.self.inside.entries.items c.place_for-place.result (c.args.at, c.args.number) c.self.invariant c.place_for-place.ensures.before c.place_for-place.ensures.behind)

pub returns-clause-ok : goal.returns-clause-ok
returns-clause-ok c =
    subst (λ (l : List (ℕ × ℕ)). IsPermutation ((c.args.at, c.args.number) ∷ c.args.self.now) l) (sym c.in_ok-insert.ensures.items)
    (subst (λ (l : List (ℕ × ℕ)). IsPermutation ((c.args.at, c.args.number) ∷ l) (insert c.self.inside.entries.items c.place_for-place.result (c.args.at, c.args.number))) c.self.view_is (IsPermutation-insert c.self.inside.entries.items c.place_for-place.result (c.args.at, c.args.number)))
