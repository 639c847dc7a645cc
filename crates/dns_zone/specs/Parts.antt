-- The parts of an answer.
use Rattle.std.specs.Prelude.{List, [], ◌∷◌}
use Rattle.dns_wire.specs.declared.record.Record.{Record}
use Rattle.dns_zone.specs.declared.answer.Held.{Held}
use Rattle.dns_zone.specs.declared.answer.Held.TheVariants.{None, One, Two, Three, Several}

-- none, one, two, three, or however many
abbrev pub parts_of : Held → List (List Record)
parts_of None = []
parts_of (One part) = part ∷ []
parts_of (Two row) = row.values
parts_of (Three row) = row.values
parts_of (Several parts) = parts.items
