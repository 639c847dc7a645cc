use Rattle.std.proofs.Common.{◌-◌, ◌∙◌, sym, ap}
use Rattle.dns_counts.specs.Counting.{grown}
use Rattle.dns_counts.proofs.Places.{raised-among}
use Rattle.dns_counts.proofs.flags.count_protocol.Goals as goal

pub returns : goal.returns
returns c =
    c.raise_at.ensures
    ∙ raised-among c.place_of_protocol.result (5 - c.place_of_protocol.result) 1 c.args.counts.now
    ∙ ap (λ more. grown c.args.counts.now more) (sym c.place_of_protocol.ensures.place)
