use Rattle.std.proofs.lemmas.Bool.Decides.{Decides-at}
use Rattle.dns_wire.proofs.DataEqual.{Data-Decides}
use Rattle.dns_wire.proofs.rdata.Data.same_data.Goals as goal

pub returns : goal.returns
returns c = Decides-at _ _ c.eq.ensures (Data-Decides _ _)
