use Rattle.std.proofs.Common.{rules}
use Rattle.dns_zone_map.proofs.Begun.{none_begun}
use Rattle.dns_zone_map.proofs.tree.is_begun.Goals as goal

pub returns-then-count-eq0 : goal.returns-then-count-eq0
returns-then-count-eq0 c = none_begun c.args.names.now.entries c.args.key.now (search rules)
