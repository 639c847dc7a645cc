use Rattle.std.proofs.Common.{◌≡◌, ◌+◌, ◌==◌, [], length}
use Rattle.std.specs.List.{list_any, slice_split}
use Rattle.std.specs.Option.{option_map_or}
use Rattle.dns_net.specs.Checks.{has_range, is_range, range_of}
use Rattle.dns_net.proofs.checks.has_range.Given as goal

abbrev pub invariant-loop-rest : goal.invariant-loop-rest
invariant-loop-rest l = has_range l.value ≡ list_any (λ part. is_range (range_of part)) (option_map_or (λ rest. slice_split (λ b. b == 44) rest.now) l.rest [])

abbrev pub decreases-loop-rest : goal.decreases-loop-rest
decreases-loop-rest l = option_map_or (λ rest. length rest.now + 1) l.rest 0
