use Rattle.dns_zone_map.proofs.SameData.{data_eq_from}
use Rattle.dns_update.proofs.prerequisites.same_data.Goals as goal

pub returns : goal.returns
returns c = data_eq_from c.same_data.result c.args.one.now c.args.other.now c.same_data.ensures
