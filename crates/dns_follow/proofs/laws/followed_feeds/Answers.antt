use Rattle.std.proofs.Common.{[]}
use Rattle.dns_follow.specs.Following.{empty}
use Rattle.dns_follow.proofs.Started.{start_keeps, start_stands, start_goes, empty_starts}
use Rattle.dns_follow.proofs.laws.followed_feeds.Goals as goal

pub returns-clause-behind : goal.returns-clause-behind
returns-clause-behind c = λ origin rows batches steps t faults stored primary fed runs tells.
    start_keeps origin rows batches primary (empty faults) [] (empty_starts rows batches faults) steps t stored fed runs tells

pub returns-clause-zone : goal.returns-clause-zone
returns-clause-zone c = λ origin rows batches steps t faults stored primary fed runs tells.
    start_stands origin rows batches primary (empty faults) [] (empty_starts rows batches faults) steps t stored fed runs tells

pub returns-clause-on : goal.returns-clause-on
returns-clause-on c = λ origin rows batches steps more s t faults stored last primary fed runs tells.
    start_goes origin rows batches primary (empty faults) [] (empty_starts rows batches faults) steps s stored fed runs tells more t last
