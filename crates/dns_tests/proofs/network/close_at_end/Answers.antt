use Rattle.std.proofs.Common.{rules}
use Rattle.dns_network.proofs.Causes.{ended_behind, gone_behind}
use Rattle.dns_tests.proofs.network.close_at_end.Goals as goal

pub close-requires : goal.close-requires
close-requires g c = record { cause = ended_behind _ _ _ _ _ c.read.result c.read.ensures.told (search rules) c.read.ensures.same (search rules) }

pub close-requires-in-Err-Gone : goal.close-requires-in-Err-Gone
close-requires-in-Err-Gone g c = record { cause = gone_behind _ _ _ _ _ c.read.result c.read.ensures.told (search rules) c.read.ensures.same }
