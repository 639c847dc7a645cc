use Rattle.std.proofs.Common.{[], ◌∷◌}
use Rattle.std.specs.Fmt.{decimal}
use Rattle.dns_printed.proofs.Putting.{words, words_stopped}
use Rattle.dns_printed.proofs.data_text.put_soa_numbers.Goals as goal

pub returns-in_err-put_number_word : goal.returns-in_err-put_number_word
returns-in_err-put_number_word c =
    words_stopped c.args.out.now.items c.put_number_word.new.out.items (decimal c.args.serial ∷ []) (decimal c.args.refresh ∷ decimal c.args.retry ∷ decimal c.args.expire ∷ decimal c.args.minimum ∷ []) c.from_residual.result c.from_residual.ensures.0 c.in_err-put_number_word.ensures

pub returns-in_err-put_number_word-2 : goal.returns-in_err-put_number_word-2
returns-in_err-put_number_word-2 c =
    words c.args.out.now.items c.put_number_word.new.out.items c.put_number_word-2.new.out.items (decimal c.args.serial ∷ []) (decimal c.args.refresh ∷ decimal c.args.retry ∷ decimal c.args.expire ∷ decimal c.args.minimum ∷ []) c.from_residual-in_err-put_number_word-2.result c.in_ok-put_number_word.ensures
    (words_stopped c.put_number_word.new.out.items c.put_number_word-2.new.out.items (decimal c.args.refresh ∷ []) (decimal c.args.retry ∷ decimal c.args.expire ∷ decimal c.args.minimum ∷ []) c.from_residual-in_err-put_number_word-2.result c.from_residual-in_err-put_number_word-2.ensures.0 c.in_err-put_number_word-2.ensures)

pub returns : goal.returns
returns c =
    words c.args.out.now.items c.put_number_word.new.out.items c.put_soa_limits.new.out.items (decimal c.args.serial ∷ []) (decimal c.args.refresh ∷ decimal c.args.retry ∷ decimal c.args.expire ∷ decimal c.args.minimum ∷ []) c.put_soa_limits.result c.in_ok-put_number_word.ensures
    (words c.put_number_word.new.out.items c.put_number_word-2.new.out.items c.put_soa_limits.new.out.items (decimal c.args.refresh ∷ []) (decimal c.args.retry ∷ decimal c.args.expire ∷ decimal c.args.minimum ∷ []) c.put_soa_limits.result c.in_ok-put_number_word-2.ensures c.put_soa_limits.ensures)
