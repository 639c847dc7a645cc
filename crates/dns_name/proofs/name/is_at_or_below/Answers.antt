use Rattle.std.proofs.Common.{◌≡◌, ℕ, ◌<◌, List, ◌∷◌, length, ap, subst, arith}
use Rattle.std.specs.Prelude.{◌↔◌}
use Rattle.std.proofs.lemmas.List.{take_rest}
use Rattle.dns_name.specs.Name.{labels_bytes, IsAtOrBelow}
use Rattle.dns_name.proofs.Walk.{Spells-next, Spells-length}
use Rattle.dns_name.proofs.Below.{IsAtOrBelow-next, IsAtOrBelow-bytes, iff_along}
use Rattle.dns_name.proofs.name.is_at_or_below.Goals as goal

step : (l : List ℕ) (ls rest os : List (List ℕ)) (Q : Type 0) → rest ≡ l ∷ ls → length (labels_bytes os) < length (labels_bytes rest) → (IsAtOrBelow rest os ↔ Q) → IsAtOrBelow ls os ↔ Q
step l ls rest os Q e h i =
    let lt : length (labels_bytes os) < length (labels_bytes (l ∷ ls)) = omega (arith, ap (λ x. length (labels_bytes x)) e) in
    let j : IsAtOrBelow (l ∷ ls) os ↔ Q = subst (λ (x : List (List ℕ)). IsAtOrBelow x os ↔ Q) e i in
    iff_along (IsAtOrBelow-next l ls os lt) j

pub loop-at-preserved : goal.loop-at-preserved
loop-at-preserved c =
    let i = c.loop-at.invariant in
    let n = Spells-next _ _ _ i.1 (omega arith) in
    (n.others, rw n.size n.after, step _ _ _ _ _ n.is (omega (arith, Spells-length _ _ _ i.1, ap length c.requires.other.spelled)) i.2)

pub returns : goal.returns
returns c =
    let i = c.loop-at.invariant in
    iff_along (IsAtOrBelow-bytes _ _ _ _ _ c.requires.other i.1 (omega arith) (simp take_rest at c.are_alike.ensures)) i.2
