use Rattle.dns_book.proofs.Codes.{code_small}
use Rattle.dns_book.proofs.book.Book.update.Goals as goal

pub refuse-requires-clause-code : goal.refuse-requires-clause-code
refuse-requires-clause-code g c = code_small c.zone.result.now c.args.message.now c.self.inside.allow_update _ _ c.in_ok-code.ensures c.in-Fails.is
