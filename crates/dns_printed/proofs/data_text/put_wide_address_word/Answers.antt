use Rattle.dns_printed.specs.Printed.{wide_address_text}
use Rattle.dns_printed.proofs.Putting.{word, word_stopped}
use Rattle.dns_printed.proofs.data_text.put_wide_address_word.Goals as goal

pub returns-in_err-put_byte : goal.returns-in_err-put_byte
returns-in_err-put_byte c =
    word_stopped c.args.out.now.items c.put_byte.new.out.items (wide_address_text c.args.address) c.from_residual.result c.from_residual.ensures.0 c.in_err-put_byte.ensures

pub returns : goal.returns
returns c =
    word c.args.out.now.items c.put_byte.new.out.items c.put_wide_address.new.out.items (wide_address_text c.args.address) c.put_wide_address.result c.in_ok-put_byte.ensures c.put_wide_address.ensures
