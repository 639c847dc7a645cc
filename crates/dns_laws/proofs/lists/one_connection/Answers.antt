use Rattle.dns_laws.proofs.OneOfMany.{one-alone}
use Rattle.dns_laws.proofs.lists.one_connection.Goals as goal

pub returns : goal.returns
returns c = one-alone
