use Rattle.std.proofs.Common.{ℕ, ◌-◌, List, length}
use Rattle.std.specs.Prelude.{◌↔◌}
use Rattle.dns_name.specs.Name.{IsAtOrBelow}
use Rattle.dns_name.specs.NameBuffer.{labels_of}
use Rattle.dns_name.proofs.Walk.{Spells}
use Rattle.dns_name.proofs.name.is_at_or_below.Given as goal

abbrev pub invariant-loop-at : goal.invariant-loop-at
invariant-loop-at l = (rest : List (List ℕ)) × Spells l.bytes l.at rest × (IsAtOrBelow rest (labels_of l.other) ↔ IsAtOrBelow (labels_of l.bytes) (labels_of l.other))

abbrev pub decreases-loop-at : goal.decreases-loop-at
decreases-loop-at l = length l.bytes - l.at
