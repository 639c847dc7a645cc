use Rattle.std.proofs.Common.{ap, ◌∙◌, sym, List, ℕ}
use Rattle.dns_counts.specs.Labels.{unit}
use Rattle.dns_counts.proofs.Places.{raised_in, raised-nothing, raised-six}
use Rattle.dns_counts.proofs.flags.count_other_flags.Goals as goal

pub returns : goal.returns
returns c =
    let six = raised-six c.args.counts.now (unit c.args.header.now.aa) (unit c.args.header.now.ad) (unit c.args.header.now.cd)
    (unit c.args.header.now.ra) 0 (unit c.args.header.now.tc) in
    rw (
      c.raise_where-5.ensures,
      c.raise_where-4.ensures,
      c.raise_where-3.ensures,
      c.raise_where-2.ensures,
      c.raise_where.ensures,
    ) (ap (λ (ns : List ℕ). raised_in ns 5 (unit c.args.header.now.tc)) (sym (raised-nothing _ 4)) ∙ six)
