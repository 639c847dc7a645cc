use Rattle.dns_zone.proofs.Fewest.{topmost_is, topmost_none, nearest_is, nearest_none}
use Rattle.dns_zone.proofs.Aliases.{chain_is}
use Rattle.dns_zone.proofs.laws.lookups.Goals as goal

pub returns : goal.returns
returns c = record { cut = topmost_is; no_cut = topmost_none; encloser = nearest_is; no_encloser = nearest_none; chain = chain_is }
