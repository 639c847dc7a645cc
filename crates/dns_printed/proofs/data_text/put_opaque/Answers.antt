use Rattle.std.proofs.Common.{[], ◌∷◌}
use Rattle.std.proofs.Common.{length}
use Rattle.std.specs.Fmt.{decimal}
use Rattle.hex.specs.Hex.{encode_lower}
use Rattle.dns_printed.proofs.Putting.{words, words_stopped}
use Rattle.dns_printed.proofs.data_text.put_opaque.Goals as goal

pub returns-in_err-put_bytes : goal.returns-in_err-put_bytes
returns-in_err-put_bytes c =
    words_stopped c.args.out.now.items c.put_bytes.new.out.items ((92 ∷ 35 ∷ []) ∷ []) (decimal (length c.args.bytes.now) ∷ encode_lower c.args.bytes.now ∷ []) c.from_residual.result c.from_residual.ensures.0 c.in_err-put_bytes.ensures

pub returns-in_err-put_number_word : goal.returns-in_err-put_number_word
returns-in_err-put_number_word c =
    words c.args.out.now.items c.put_bytes.new.out.items c.put_number_word.new.out.items ((92 ∷ 35 ∷ []) ∷ []) (decimal (length c.args.bytes.now) ∷ encode_lower c.args.bytes.now ∷ []) c.from_residual-in_err-put_number_word.result c.in_ok-put_bytes.ensures
    (words_stopped c.put_bytes.new.out.items c.put_number_word.new.out.items (decimal (length c.args.bytes.now) ∷ []) (encode_lower c.args.bytes.now ∷ []) c.from_residual-in_err-put_number_word.result c.from_residual-in_err-put_number_word.ensures.0 c.in_err-put_number_word.ensures)

pub returns : goal.returns
returns c =
    words c.args.out.now.items c.put_bytes.new.out.items c.put_hex_word.new.out.items ((92 ∷ 35 ∷ []) ∷ []) (decimal (length c.args.bytes.now) ∷ encode_lower c.args.bytes.now ∷ []) c.put_hex_word.result c.in_ok-put_bytes.ensures
    (words c.put_bytes.new.out.items c.put_number_word.new.out.items c.put_hex_word.new.out.items (decimal (length c.args.bytes.now) ∷ []) (encode_lower c.args.bytes.now ∷ []) c.put_hex_word.result c.in_ok-put_number_word.ensures c.put_hex_word.ensures)
