use Rattle.std.proofs.Common.{rules}
use Rattle.std.proofs.lemmas.Result.{on_ok_weaker}
use Rattle.dns_connections.proofs.Own.{acts_more}
use Rattle.dns_connections.proofs.link.Link.send.Goals as goal

pub returns-then-not-is_free-clause-acts : goal.returns-then-not-is_free-clause-acts
returns-then-not-is_free-clause-acts g c =
    on_ok_weaker c.owe_more.result (λ e. acts_more _ c.args.bytes.now _ _ e c.requires.stands (search rules) c.requires.served) c.owe_more.ensures.ok
