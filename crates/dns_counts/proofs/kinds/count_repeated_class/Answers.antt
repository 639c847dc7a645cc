use Rattle.std.proofs.Common.{sym}
use Rattle.dns_counts.specs.declared.labels.TheConstants.{CLASS_CODES}
use Rattle.dns_counts.proofs.Counted.{counted-none}
use Rattle.dns_counts.proofs.Following.{eqb-other, eqb-same}
use Rattle.dns_counts.proofs.Runs.{classes-run, classes-none}
use Rattle.dns_counts.proofs.kinds.count_repeated_class.Goals as goal

pub returns-then-pair-ne-OPT : goal.returns-then-pair-ne-OPT
returns-then-pair-ne-OPT c =
    rw (classes-run c.args.times c.args.pair (eqb-other _ _ c.if-pair-ne-OPT.true)) c.count_class.ensures

pub returns-else-pair-ne-OPT : goal.returns-else-pair-ne-OPT
returns-else-pair-ne-OPT c =
    rw (classes-none c.args.times c.args.pair (eqb-same _ _ c.if-pair-ne-OPT.false)) (sym (counted-none CLASS_CODES c.args.counts.now))
