use Rattle.std.proofs.Common.{◌≡◌, [], length}
use Rattle.dns_presentation.specs.Values.{string_from}
use Rattle.dns_presentation.proofs.values.string_of.Given as goal

abbrev pub invariant-loop-rest : goal.invariant-loop-rest
invariant-loop-rest l = string_from 0 l.bytes.items l.rest ≡ string_from 0 [] l.text

abbrev pub decreases-loop-rest : goal.decreases-loop-rest
decreases-loop-rest l = length l.rest
