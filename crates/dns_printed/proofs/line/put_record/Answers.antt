use Rattle.std.proofs.Common.{◌∷◌}
use Rattle.std.specs.Prelude.{codes}
use Rattle.std.specs.Fmt.{decimal}
use Rattle.dns_printed.specs.Printed.{name_text, spaced, type_text, data_words}
use Rattle.dns_printed.proofs.Putting.{behind, first_stopped}
use Rattle.dns_printed.proofs.line.put_record.Goals as goal

pub returns-in_err-put_name : goal.returns-in_err-put_name
returns-in_err-put_name c =
    first_stopped c.args.out.now.items c.put_name.new.out.items (name_text c.args.one.now.name) (spaced (decimal c.args.one.now.ttl ∷ codes "IN" ∷ type_text c.args.one.now.rtype ∷ data_words c.args.one.now.rdata)) c.from_residual.result c.from_residual.ensures.0 c.in_err-put_name.ensures

pub returns : goal.returns
returns c =
    behind c.args.out.now.items c.put_name.new.out.items c.put_words.new.out.items (name_text c.args.one.now.name) (spaced (decimal c.args.one.now.ttl ∷ codes "IN" ∷ type_text c.args.one.now.rtype ∷ data_words c.args.one.now.rdata)) c.put_words.result c.in_ok-put_name.ensures c.put_words.ensures
