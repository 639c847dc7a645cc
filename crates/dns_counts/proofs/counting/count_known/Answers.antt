use Rattle.std.proofs.Common.{◌∙◌}
use Rattle.dns_counts.proofs.Counted.{known-place}
use Rattle.dns_counts.proofs.Runs.{first-place}
use Rattle.dns_counts.proofs.counting.count_known.Goals as goal

pub returns-then-code-codes : goal.returns-then-code-codes
returns-then-code-codes c =
    c.raise_at.ensures
    ∙ known-place c.args.code c.args.codes.now c.args.counts.now 0
    (first-place c.args.code 0 c.args.codes.now c.requires.some c.if-code-codes.true) c.requires.distinct
