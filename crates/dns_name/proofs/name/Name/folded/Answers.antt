use Rattle.std.proofs.Common.{◌≡◌, List, ℕ, map, ap, ◌∙◌}
use Rattle.std.specs.Char.{to_ascii_lowercase}
use Rattle.dns_name.specs.Name.{fold_of, labels_bytes}
use Rattle.dns_name.specs.NameBuffer.{labels_of, IsWire}
use Rattle.dns_name.proofs.Wire.{IsWire-spelled, labels_of-spelled, IsName-fold_of, folded_bytes}
use Rattle.dns_name.proofs.name.Name.folded.Goals as goal

made : (bytes new now : List ℕ) → IsWire bytes → now ≡ bytes → new ≡ map to_ascii_lowercase now → new ≡ labels_bytes (fold_of (labels_of bytes))
made bytes new now w same is = is ∙ ap (map to_ascii_lowercase) same ∙ folded_bytes bytes w

pub invariant_of-result : goal.invariant_of-result
invariant_of-result c =
    IsWire-spelled _ _ (IsName-fold_of _ c.self.invariant.name) (made _ _ _ c.self.invariant c.deref.ensures.value c.in_ok-to_ascii_lowercase.ensures.ok)

pub returns : goal.returns
returns c =
    labels_of-spelled _ _ (made _ _ _ c.self.invariant c.deref.ensures.value c.in_ok-to_ascii_lowercase.ensures.ok) ∙ ap fold_of c.self.view_is
