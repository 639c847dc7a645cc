use Rattle.std.proofs.Common.{◌∙◌, refl, arith}
use Rattle.dns_counts.proofs.Runs.{counted-run, counted-there}
use Rattle.dns_counts.proofs.counting.count_sought.Goals as goal

pub returns : goal.returns
returns c =
    c.raise_at.ensures
    ∙ counted-run c.args.code c.args.times c.place_or_last.result c.args.codes.now c.args.counts.now
    (omega (arith, c.requires.room, c.place_or_last.ensures.within))
    (λ ns. rw c.place_or_last.ensures.place (counted-there c.args.code c.args.codes.now ns _ refl c.requires.distinct))
