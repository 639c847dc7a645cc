use Rattle.std.proofs.Common.{[], ◌∷◌}
use Rattle.std.specs.Prelude.{codes}
use Rattle.std.specs.Fmt.{decimal}
use Rattle.dns_printed.specs.Printed.{type_text, data_words}
use Rattle.dns_printed.proofs.Putting.{words, words_stopped}
use Rattle.dns_printed.proofs.line.put_words.Goals as goal

pub returns-in_err-put_number_word : goal.returns-in_err-put_number_word
returns-in_err-put_number_word c =
    words_stopped c.args.out.now.items c.put_number_word.new.out.items (decimal c.args.one.now.ttl ∷ []) (codes "IN" ∷ type_text c.args.one.now.rtype ∷ data_words c.args.one.now.rdata) c.from_residual.result c.from_residual.ensures.0 c.in_err-put_number_word.ensures

pub returns-in_err-put_bytes : goal.returns-in_err-put_bytes
returns-in_err-put_bytes c =
    words c.args.out.now.items c.put_number_word.new.out.items c.put_bytes.new.out.items (decimal c.args.one.now.ttl ∷ []) (codes "IN" ∷ type_text c.args.one.now.rtype ∷ data_words c.args.one.now.rdata) c.from_residual-in_err-put_bytes.result c.in_ok-put_number_word.ensures
    (words_stopped c.put_number_word.new.out.items c.put_bytes.new.out.items (codes "IN" ∷ []) (type_text c.args.one.now.rtype ∷ data_words c.args.one.now.rdata) c.from_residual-in_err-put_bytes.result c.from_residual-in_err-put_bytes.ensures.0 c.in_err-put_bytes.ensures)

pub returns-in_err-put_type_word : goal.returns-in_err-put_type_word
returns-in_err-put_type_word c =
    words c.args.out.now.items c.put_number_word.new.out.items c.put_type_word.new.out.items (decimal c.args.one.now.ttl ∷ []) (codes "IN" ∷ type_text c.args.one.now.rtype ∷ data_words c.args.one.now.rdata) c.from_residual-in_err-put_type_word.result c.in_ok-put_number_word.ensures
    (words c.put_number_word.new.out.items c.put_bytes.new.out.items c.put_type_word.new.out.items (codes "IN" ∷ []) (type_text c.args.one.now.rtype ∷ data_words c.args.one.now.rdata) c.from_residual-in_err-put_type_word.result c.in_ok-put_bytes.ensures
    (words_stopped c.put_bytes.new.out.items c.put_type_word.new.out.items (type_text c.args.one.now.rtype ∷ []) (data_words c.args.one.now.rdata) c.from_residual-in_err-put_type_word.result c.from_residual-in_err-put_type_word.ensures.0 c.in_err-put_type_word.ensures))

pub returns : goal.returns
returns c =
    words c.args.out.now.items c.put_number_word.new.out.items c.put_data.new.out.items (decimal c.args.one.now.ttl ∷ []) (codes "IN" ∷ type_text c.args.one.now.rtype ∷ data_words c.args.one.now.rdata) c.put_data.result c.in_ok-put_number_word.ensures
    (words c.put_number_word.new.out.items c.put_bytes.new.out.items c.put_data.new.out.items (codes "IN" ∷ []) (type_text c.args.one.now.rtype ∷ data_words c.args.one.now.rdata) c.put_data.result c.in_ok-put_bytes.ensures
    (words c.put_bytes.new.out.items c.put_type_word.new.out.items c.put_data.new.out.items (type_text c.args.one.now.rtype ∷ []) (data_words c.args.one.now.rdata) c.put_data.result c.in_ok-put_type_word.ensures c.put_data.ensures))
