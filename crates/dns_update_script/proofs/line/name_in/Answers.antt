use Rattle.dns_update_script.proofs.NameTexts.{name_in-text, name_in-bytes}
use Rattle.dns_update_script.proofs.line.name_in.Goals as goal

pub returns-in-Ok-parse : goal.returns-in-Ok-parse
returns-in-Ok-parse c = name_in-text c.args.word.now c.in-Ok.text.now c.in-Ok-parse.name c.in-Ok.ensures.cases.0 c.in-Ok.ensures.cases.1 c.in-Ok-parse.ensures

pub returns-in-Err : goal.returns-in-Err
returns-in-Err c = name_in-bytes c.args.word.now c.in-Err.ensures.cases.0
