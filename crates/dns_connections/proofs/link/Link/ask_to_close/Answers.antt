use Rattle.dns_connections.specs.Kept.{asked_now, same_account}
use Rattle.dns_connections.proofs.Own.{acts_asked, acts_then}
use Rattle.dns_connections.proofs.link.Link.ask_to_close.Goals as goal

pub returns-clause-acts : goal.returns-clause-acts
returns-clause-acts g c = acts_then _ _ _ asked_now same_account _ _ _ (acts_asked _ _ _ c.begin_to_close.ensures) c.shut_if_done.ensures.acts
