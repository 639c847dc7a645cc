use Rattle.toml.proofs.Views.{table_get}
use Rattle.dns_configuration.specs.Config.{zone_path_key}
use Rattle.dns_configuration.proofs.config.zone_path.Goals as goal

pub returns : goal.returns
returns c = table_get c.get.result zone_path_key c.args.table.now.entries c.get.ensures.value
