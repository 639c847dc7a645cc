use Rattle.std.proofs.Common.{inr}
use Rattle.dns_zone_map.proofs.Swept.{swept_name}
use Rattle.dns_zone_map.proofs.tree.sweep_name.Goals as goal

pub returns-then-owns_nothing-clause-owns : goal.returns-then-owns_nothing-clause-owns
returns-then-owns_nothing-clause-owns c = swept_name c.args.key.now c.args.names.now.entries c.remove.new.self.entries (c.owns_nothing.ensures c.if-owns_nothing.true) c.remove.ensures.entries

pub returns-then-owns_nothing-clause-left : goal.returns-then-owns_nothing-clause-left
returns-then-owns_nothing-clause-left c = inr c.remove.ensures.entries
