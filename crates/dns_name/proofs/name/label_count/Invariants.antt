use Rattle.std.proofs.Common.{◌≡◌, ℕ, ◌+◌, ◌-◌, List, length}
use Rattle.dns_name.specs.NameBuffer.{labels_of}
use Rattle.dns_name.proofs.Walk.{Spells}
use Rattle.dns_name.proofs.name.label_count.Given as goal

abbrev pub invariant-loop-at : goal.invariant-loop-at
invariant-loop-at l = (rest : List (List ℕ)) × Spells l.bytes l.at rest × (l.count + length rest ≡ length (labels_of l.bytes))

abbrev pub decreases-loop-at : goal.decreases-loop-at
decreases-loop-at l = length l.bytes - l.at
