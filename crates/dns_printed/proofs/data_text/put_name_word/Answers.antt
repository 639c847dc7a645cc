use Rattle.dns_printed.specs.Printed.{name_text}
use Rattle.dns_printed.proofs.Putting.{word, word_stopped}
use Rattle.dns_printed.proofs.data_text.put_name_word.Goals as goal

pub returns-in_err-put_byte : goal.returns-in_err-put_byte
returns-in_err-put_byte c =
    word_stopped c.args.out.now.items c.put_byte.new.out.items (name_text c.args.name.now) c.from_residual.result c.from_residual.ensures.0 c.in_err-put_byte.ensures

pub returns : goal.returns
returns c =
    word c.args.out.now.items c.put_byte.new.out.items c.put_name.new.out.items (name_text c.args.name.now) c.put_name.result c.in_ok-put_byte.ensures c.put_name.ensures
