use Rattle.std.proofs.Common.{rules}
use Rattle.dns_network.specs.declared.call.Why.TheVariants.{Unwatched}
use Rattle.dns_connections.specs.Kept.{same_account}
use Rattle.dns_connections.proofs.Own.{acts_closed, acts_then, acts_watched, no, unwatched_behind, watched_now}
use Rattle.dns_connections.proofs.link.Link.watch_on.Goals as goal

pub close-requires-clause-cause : goal.close-requires-clause-cause
close-requires-clause-cause g c =
    rw c.watch_now.ensures.same (unwatched_behind _ _ _ _ c.watch_now.result c.watch_now.ensures.told (search rules))

pub returns-then-is_err-clause-acts : goal.returns-then-is_err-clause-acts
returns-then-is_err-clause-acts g c =
    acts_then _ _ _ same_account same_account _ _ _ c.shut_if_done.ensures.acts
    (acts_then _ _ _ same_account same_account _ _ _ (acts_watched _ _ _ _ _ _ c.watch_now.ensures.told c.watch_now.ensures.same)
    (acts_closed _ _ Unwatched _ _ c.close.ensures.told c.close.ensures.is (search rules) (λ e. no e)))

pub returns-else-is_err-clause-acts : goal.returns-else-is_err-clause-acts
returns-else-is_err-clause-acts g c =
    acts_then _ _ _ same_account same_account _ _ _ c.shut_if_done.ensures.acts (acts_watched _ _ _ _ _ _ c.watch_now.ensures.told c.watch_now.ensures.same)

pub returns-else-is_err-clause-watched : goal.returns-else-is_err-clause-watched
returns-else-is_err-clause-watched g c = watched_now _ _ c.watch_now.result _ _ c.watch_now.ensures.told c.watch_now.ensures.same (search rules)
