use Rattle.std.proofs.Common.{◌∙◌, arith}
use Rattle.dns_counts.proofs.Counted.{counted-place}
use Rattle.dns_counts.proofs.Runs.{counted-run, first-place}
use Rattle.dns_counts.proofs.counting.count_code.Goals as goal

pub returns-then-code-codes : goal.returns-then-code-codes
returns-then-code-codes c =
    c.raise_at.ensures
    ∙ counted-run c.args.code c.args.times 0 c.args.codes.now c.args.counts.now (omega (arith, c.requires.room))
    (λ ns.
    counted-place c.args.code c.args.codes.now ns 0 (first-place c.args.code 0 c.args.codes.now c.requires.some c.if-code-codes.true)
    c.requires.distinct)
