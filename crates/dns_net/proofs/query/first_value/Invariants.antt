use Rattle.std.proofs.Common.{◌≡◌, ◌+◌, ◌==◌, [], length}
use Rattle.std.specs.List.{slice_split}
use Rattle.std.specs.Option.{option_map_or}
use Rattle.dns_net.specs.Queries.{first_value}
use Rattle.dns_net.proofs.query.first_value.Given as goal

abbrev pub invariant-loop-rest : goal.invariant-loop-rest
invariant-loop-rest l =
    first_value (slice_split (λ b. b == 38) l.query) ≡ first_value (option_map_or (λ rest. slice_split (λ b. b == 38) rest.now) l.rest [])

abbrev pub decreases-loop-rest : goal.decreases-loop-rest
decreases-loop-rest l = option_map_or (λ rest. length rest.now + 1) l.rest 0
