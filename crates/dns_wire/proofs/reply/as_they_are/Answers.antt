use Rattle.std.proofs.Common.{◌∙◌}
use Rattle.dns_wire.proofs.Lending.{given_none}
use Rattle.dns_wire.proofs.reply.as_they_are.Goals as goal

pub returns : goal.returns
returns c = c.new.ensures ∙ given_none c.as_slice.result.now ∙ c.as_slice.ensures
