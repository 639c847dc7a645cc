use Rattle.std.proofs.Common.{◌≡◌, List, ℕ, map, ap, ◌∙◌}
use Rattle.std.specs.Char.{to_ascii_lowercase}
use Rattle.dns_name.specs.Name.{fold_of, labels_bytes}
use Rattle.dns_name.specs.NameBuffer.{labels_of, IsWire}
use Rattle.dns_name.proofs.Wire.{IsWire-spelled, labels_of-spelled, IsName-fold_of, folded_bytes}
use Rattle.dns_name.proofs.view.NameView.folded.Goals as goal

made : (bytes new : List ℕ) → IsWire bytes → new ≡ map to_ascii_lowercase bytes → new ≡ labels_bytes (fold_of (labels_of bytes))
made bytes new w is = is ∙ folded_bytes bytes w

pub from_wire-requires : goal.from_wire-requires
from_wire-requires c = IsWire-spelled _ _ (IsName-fold_of _ c.self.invariant.name) (made _ _ c.self.invariant c.in_ok-to_ascii_lowercase.ensures.ok)

pub returns : goal.returns
returns c = c.from_wire.ensures ∙ labels_of-spelled _ _ (made _ _ c.self.invariant c.in_ok-to_ascii_lowercase.ensures.ok) ∙ ap fold_of c.self.view_is
