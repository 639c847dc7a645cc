use Rattle.dns_zone_map.proofs.Written.{Passed}
use Rattle.dns_zone_map.proofs.key.cut_back.Given as goal

abbrev pub invariant-loop : goal.invariant-loop
invariant-loop l = Passed l.name l.left l.counter l.place l.end
