use Rattle.std.proofs.Common.{◌≡◌, ◌++◌, drop}
use Rattle.dns_wire.specs.Given.{in_parts}
use Rattle.dns_zone.proofs.answer.copy_parts.Given as goal

abbrev pub invariant-loop-part : goal.invariant-loop-part
invariant-loop-part l = l.copies.items ++ in_parts (drop l.part-index l.parts) ≡ l.fn.copies.items ++ in_parts l.parts
