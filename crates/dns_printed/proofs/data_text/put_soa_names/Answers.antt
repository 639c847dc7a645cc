use Rattle.std.proofs.Common.{[], ◌∷◌}
use Rattle.dns_printed.specs.Printed.{name_text}
use Rattle.dns_printed.proofs.Putting.{words, words_stopped}
use Rattle.dns_printed.proofs.data_text.put_soa_names.Goals as goal

pub returns-in_err-put_name_word : goal.returns-in_err-put_name_word
returns-in_err-put_name_word c =
    words_stopped c.args.out.now.items c.put_name_word.new.out.items (name_text c.args.mname.now ∷ []) (name_text c.args.rname.now ∷ []) c.from_residual.result c.from_residual.ensures.0 c.in_err-put_name_word.ensures

pub returns : goal.returns
returns c =
    words c.args.out.now.items c.put_name_word.new.out.items c.put_name_word-2.new.out.items (name_text c.args.mname.now ∷ []) (name_text c.args.rname.now ∷ []) c.put_name_word-2.result c.in_ok-put_name_word.ensures c.put_name_word-2.ensures
