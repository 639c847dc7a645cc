-- The first entry stands in another place.
use Rattle.std.proofs.Common.{◌≡◌, ◌∙◌, ℕ, List, ◌∷◌, subst, sym}
use Rattle.std.specs.List.{insert}
use Rattle.std.specs.List.Sorted.{IsPermutation}
use Rattle.std.proofs.lemmas.List.Sorted.{IsPermutation-insert}
use Rattle.dns_readiness.specs.Order.{IsInOrder}
use Rattle.dns_readiness.proofs.InOrder.{in_order_insert}
use Rattle.dns_readiness.proofs.order.Order.put_off.Goals as goal

pub invariant_of-self-2 : goal.invariant_of-self-2
invariant_of-self-2 c =
    let behind = subst IsInOrder c.in-Some.ensures.items c.self.invariant in
    subst IsInOrder (sym c.in-Ok.ensures.items)
    (in_order_insert c.pop_front.new.self.items c.place_for-place.result (c.args.at, c.in-Some.first.1) behind.1 c.place_for-place.ensures.before c.place_for-place.ensures.behind)

pub returns : goal.returns
returns c =
    let left : List (ℕ × ℕ) = c.pop_front.new.self.items in
    let put : List (ℕ × ℕ) = insert left c.place_for-place.result (c.args.at, c.in-Some.first.1) in
    λ e others is.
    let same : e ∷ others ≡ c.in-Some.first ∷ left = sym is ∙ sym c.self.view_is ∙ c.in-Some.ensures.items in
    let first : e ≡ c.in-Some.first = cc in
    let rest : others ≡ left = cc in
    subst (λ (l : List (ℕ × ℕ)). IsPermutation ((c.args.at, e.1) ∷ others) l) (sym c.in-Ok.ensures.items)
    (subst (λ (f : ℕ × ℕ). IsPermutation ((c.args.at, f.1) ∷ others) put) (sym first)
    (subst (λ (l : List (ℕ × ℕ)). IsPermutation ((c.args.at, c.in-Some.first.1) ∷ l) put) (sym rest)
    (IsPermutation-insert left c.place_for-place.result (c.args.at, c.in-Some.first.1))))
