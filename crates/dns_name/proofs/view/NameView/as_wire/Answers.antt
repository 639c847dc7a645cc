use Rattle.std.proofs.Common.{List, ℕ, ap, ◌∙◌}
use Rattle.dns_name.specs.Name.{fold_of, labels_bytes}
use Rattle.dns_name.proofs.Wire.{folded_bytes, length-wire}
use Rattle.dns_name.proofs.view.NameView.as_wire.Goals as goal

pub returns-clause-folded : goal.returns-clause-folded
returns-clause-folded c =
    folded_bytes c.self.inside.wire.now c.self.invariant ∙ ap (λ (ls : List (List ℕ)). labels_bytes (fold_of ls)) c.self.view_is

pub returns-clause-short : goal.returns-clause-short
returns-clause-short c = length-wire c.self.inside.wire.now c.self.invariant
