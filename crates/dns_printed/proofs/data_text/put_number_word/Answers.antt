use Rattle.std.specs.Fmt.{decimal}
use Rattle.dns_printed.proofs.Putting.{word, word_stopped}
use Rattle.dns_printed.proofs.data_text.put_number_word.Goals as goal

pub returns-in_err-put_byte : goal.returns-in_err-put_byte
returns-in_err-put_byte c =
    word_stopped c.args.out.now.items c.put_byte.new.out.items (decimal c.args.number) c.from_residual.result c.from_residual.ensures.0 c.in_err-put_byte.ensures

pub returns : goal.returns
returns c =
    word c.args.out.now.items c.put_byte.new.out.items c.put_number.new.out.items (decimal c.args.number) c.put_number.result c.in_ok-put_byte.ensures c.put_number.ensures
