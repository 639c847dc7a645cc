use Rattle.std.proofs.Common.{◌≡◌, ◌++◌, drop}
use Rattle.dns_wire.specs.Given.{in_parts}
use Rattle.dns_zone.proofs.lookup.add_aliases.Given as goal

abbrev pub invariant-loop-one : goal.invariant-loop-one
invariant-loop-one l = in_parts l.parts.items ++ drop l.one-index l.aliases ≡ in_parts l.fn.parts.items ++ l.aliases
