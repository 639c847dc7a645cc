use Rattle.std.proofs.Common.{[], ◌∷◌}
use Rattle.std.specs.Fmt.{decimal}
use Rattle.dns_printed.specs.Printed.{name_text}
use Rattle.dns_printed.proofs.Putting.{words, words_stopped}
use Rattle.dns_printed.proofs.data_text.put_mx.Goals as goal

pub returns-in_err-put_number_word : goal.returns-in_err-put_number_word
returns-in_err-put_number_word c =
    words_stopped c.args.out.now.items c.put_number_word.new.out.items (decimal c.args.preference ∷ []) (name_text c.args.exchange.now ∷ []) c.from_residual.result c.from_residual.ensures.0 c.in_err-put_number_word.ensures

pub returns : goal.returns
returns c =
    words c.args.out.now.items c.put_number_word.new.out.items c.put_name_word.new.out.items (decimal c.args.preference ∷ []) (name_text c.args.exchange.now ∷ []) c.put_name_word.result c.in_ok-put_number_word.ensures c.put_name_word.ensures
