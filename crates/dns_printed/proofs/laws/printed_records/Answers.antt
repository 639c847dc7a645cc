use Rattle.dns_printed.proofs.EntryBack.{line_says}
use Rattle.dns_printed.proofs.laws.printed_records.Goals as goal

pub returns : goal.returns
returns c origin context number r is kept = line_says origin r is kept context number
