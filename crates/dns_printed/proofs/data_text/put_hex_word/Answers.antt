use Rattle.hex.specs.Hex.{encode_lower}
use Rattle.dns_printed.proofs.Putting.{word, word_stopped}
use Rattle.dns_printed.proofs.data_text.put_hex_word.Goals as goal

pub returns-in_err-put_byte : goal.returns-in_err-put_byte
returns-in_err-put_byte c =
    word_stopped c.args.out.now.items c.put_byte.new.out.items (encode_lower c.args.bytes.now) c.from_residual.result c.from_residual.ensures.0 c.in_err-put_byte.ensures

pub returns : goal.returns
returns c =
    word c.args.out.now.items c.put_byte.new.out.items c.put_hex.new.out.items (encode_lower c.args.bytes.now) c.put_hex.result c.in_ok-put_byte.ensures c.put_hex.ensures
