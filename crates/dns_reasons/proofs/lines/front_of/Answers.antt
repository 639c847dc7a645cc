-- A line that is no longer is its own front.
use Rattle.std.proofs.Common.{sym, take_all}
use Rattle.dns_reasons.proofs.lines.front_of.Goals as goal

pub returns-then-line-le-SHOWN : goal.returns-then-line-le-SHOWN
returns-then-line-le-SHOWN c = sym (take_all 160 c.args.line.now c.if-line-le-SHOWN.true)
