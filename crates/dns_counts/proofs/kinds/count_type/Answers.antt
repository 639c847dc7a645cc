use Rattle.std.proofs.Common.{◌∙◌, refl, arith}
use Rattle.dns_counts.specs.declared.labels.TheConstants.{TYPE_CODES}
use Rattle.dns_counts.proofs.Runs.{counted-run, counted-there}
use Rattle.dns_counts.proofs.kinds.count_type.Goals as goal

pub returns : goal.returns
returns c =
    c.raise_at.ensures
    ∙ counted-run c.args.code c.args.times c.place_of_type.result TYPE_CODES c.args.counts.now
    (omega (arith, c.requires, c.place_of_type.ensures.within))
    (λ ns. rw c.place_of_type.ensures.place (counted-there c.args.code TYPE_CODES ns _ refl refl))
