use Rattle.std.proofs.Common.{◌∙◌, sym}
use Rattle.dns_zone_map.specs.Removal.{AreCleared}
use Rattle.dns_zone_map.proofs.Taking.{changed_from}
use Rattle.dns_zone_map.proofs.CanBeUndone.{written_others}
use Rattle.dns_zone_map.proofs.tree.clear_from.Goals as goal

pub returns-in-Some-clause-is : goal.returns-in-Some-clause-is
returns-in-Some-clause-is c =
    changed_from c.args.key.now c.args.names.now.entries (c.get_mut.follows.lender c.replace.new.dest).entries (AreCleared c.replace.result) c.in-Some.sets.now c.replace.new.dest c.in-Some.ensures.value (c.get_mut.follows.holds c.replace.new.dest).0
    (sym c.replace.ensures.value, c.replace.ensures.after ∙ c.none.ensures)

pub returns-in-Some-clause-others : goal.returns-in-Some-clause-others
returns-in-Some-clause-others c = written_others c.args.key.now c.args.names.now.entries (c.get_mut.follows.lender c.replace.new.dest).entries c.replace.new.dest (c.get_mut.follows.holds c.replace.new.dest).0
