use Rattle.std.proofs.Common.{◌≡◌, List, ℕ, map, ap, ◌∙◌, sym}
use Rattle.std.specs.Prelude.{◌↔◌}
use Rattle.std.specs.Char.{to_ascii_lowercase}
use Rattle.dns_name.specs.Name.{fold_of, labels_bytes}
use Rattle.dns_name.specs.NameBuffer.{labels_of, IsWire}
use Rattle.dns_name.proofs.SameNames.{is_same_name-is}
use Rattle.dns_name.proofs.Wire.{folded_bytes, labels_bytes_same}
use Rattle.dns_name.proofs.view.NameView.same.Goals as goal

-- two names are equal but for case where their bytes are
same_bytes : (a b : List ℕ) → IsWire a → IsWire b → (P : Type 0) → (P ↔ (map to_ascii_lowercase a ≡ map to_ascii_lowercase b)) → P ↔ (fold_of (labels_of a) ≡ fold_of (labels_of b))
same_bytes a b wa wb P h =
    (λ p. labels_bytes_same _ _ (sym (folded_bytes a wa) ∙ h.0 p ∙ folded_bytes b wb), λ e. h.1 (folded_bytes a wa ∙ ap labels_bytes e ∙ sym (folded_bytes b wb)))

pub returns-clause-meaning : goal.returns-clause-meaning
returns-clause-meaning c = rw (← c.self.view_is, ← c.other.view_is) (same_bytes _ _ c.self.invariant c.other.invariant _ c.are_alike.ensures)

pub returns-clause-test : goal.returns-clause-test
returns-clause-test c = is_same_name-is _ _ _ (returns-clause-meaning c)
