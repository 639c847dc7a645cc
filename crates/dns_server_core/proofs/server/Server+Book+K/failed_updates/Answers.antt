-- Each step that ends with a fault raised the count, and each other left it.
use Rattle.dns_server_core.proofs.Failing.{few_failures, none_failed}
use Rattle.dns_server_core.proofs.server.Server+Book+K.failed_updates.Goals as goal

pub returns : goal.returns
returns g c = record {
  rose = λ access before later asks outs ran. few_failures g.K.Keeper.keeper access before later asks outs ran;
  calm = λ access before later asks outs ran. none_failed g.K.Keeper.keeper access before later asks outs ran;
}
