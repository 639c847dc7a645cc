use Rattle.std.proofs.Common.{◌∙◌}
use Rattle.std.proofs.lemmas.List.{append-nil}
use Rattle.dns_wire.proofs.reply.Reply.write.Goals as goal

pub lent-requires : goal.lent-requires
lent-requires c = append-nil c.as_they_are.result ∙ c.as_they_are.ensures
