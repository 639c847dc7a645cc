use Rattle.dns_presentation.proofs.Searches.{lines_cut, lines_last}
use Rattle.dns_presentation.proofs.lines.split_line.Goals as goal

pub returns-in-Some-clause-some : goal.returns-in-Some-clause-some
returns-in-Some-clause-some c = lines_cut _ _ _ _ _ c.in-Some.ensures c.split_at.ensures.front c.split_at.ensures.back c.without_return.ensures.line

pub returns-clause-some : goal.returns-clause-some
returns-clause-some c = lines_last _ _ _ c.in_default.ensures c.if-is_empty.ensures c.split_at-2.ensures.front c.split_at-2.ensures.back
