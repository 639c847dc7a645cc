use Rattle.dns_follow.proofs.Started.{start_keeps, start_stands, start_goes}
use Rattle.dns_follow.proofs.laws.followed_on.Goals as goal

pub returns-clause-behind : goal.returns-clause-behind
returns-clause-behind c = λ origin rows batches steps s t had stored primary start fed runs tells.
    start_keeps origin rows batches primary s had start steps t stored fed runs tells

pub returns-clause-zone : goal.returns-clause-zone
returns-clause-zone c = λ origin rows batches steps s t had stored primary start fed runs tells.
    start_stands origin rows batches primary s had start steps t stored fed runs tells

pub returns-clause-on : goal.returns-clause-on
returns-clause-on c = λ origin rows batches steps more r s t had stored last primary start fed runs tells.
    start_goes origin rows batches primary r had start steps s stored fed runs tells more t last
