use Rattle.std.proofs.Common.{◌∙◌, ap}
use Rattle.std.specs.Option.{is_some}
use Rattle.dns_zone_map.specs.Zone.{is_in_set}
use Rattle.dns_update.proofs.Owned.{some_copied, some_any}
use Rattle.dns_update.proofs.owners.owns_type.Goals as goal

pub returns : goal.returns
returns c =
    c.is_some.ensures ∙ some_copied c.set.result ∙ ap is_some c.set.ensures
    ∙ some_any (is_in_set c.args.name.now c.args.rtype) c.args.map.now.records
