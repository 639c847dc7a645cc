use Rattle.std.proofs.Common.{◌∙◌}
use Rattle.dns_counts.specs.Labels.{unit}
use Rattle.dns_counts.proofs.Places.{raised-fifth, raised-among}
use Rattle.dns_counts.proofs.flags.count_flags.Goals as goal

pub returns-then-header : goal.returns-then-header
returns-then-header c =
    c.count_other_flags.ensures
    ∙ (rw c.raise_where.ensures (raised-fifth c.args.counts.now (unit c.args.header.now.aa) (unit c.args.header.now.ad) (unit c.args.header.now.cd)
    (unit c.args.header.now.ra) (unit c.args.header.now.rd) (unit c.args.header.now.tc)))

pub returns-else-header-5 : goal.returns-else-header-5
returns-else-header-5 c =
    rw (c.if-header.false, c.if-header-2.false, c.if-header-3.false, c.if-header-4.false, c.if-header-5.false)
    (c.raise_where.ensures ∙ raised-among 4 1 (unit c.args.header.now.rd) c.args.counts.now)
