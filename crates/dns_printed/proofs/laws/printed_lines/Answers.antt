use Rattle.std.proofs.Common.{add-one}
use Rattle.dns_printed.proofs.LineByLine.{line_behind}
use Rattle.dns_printed.proofs.laws.printed_lines.Goals as goal

pub returns : goal.returns
returns c records place within = rw add-one (line_behind records place within)
