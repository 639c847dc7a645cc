use Rattle.std.proofs.Common.{List, ℕ, map, ap, ◌∙◌}
use Rattle.std.specs.Char.{to_ascii_lowercase}
use Rattle.dns_name.specs.Name.{fold_of, labels_bytes}
use Rattle.dns_name.proofs.Wire.{folded_bytes}
use Rattle.dns_name.proofs.name.Name.as_wire.Goals as goal

pub returns-clause-folded : goal.returns-clause-folded
returns-clause-folded c =
    ap (map to_ascii_lowercase) c.deref.ensures.value
    ∙ folded_bytes c.self.inside.wire.items c.self.invariant
    ∙ ap (λ (ls : List (List ℕ)). labels_bytes (fold_of ls)) c.self.view_is
