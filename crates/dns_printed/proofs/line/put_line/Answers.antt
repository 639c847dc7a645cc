use Rattle.std.proofs.Common.{[], ◌∷◌}
use Rattle.dns_printed.specs.Printed.{record_line}
use Rattle.dns_printed.proofs.Putting.{behind, first_stopped}
use Rattle.dns_printed.proofs.line.put_line.Goals as goal

pub returns-in_err-put_record : goal.returns-in_err-put_record
returns-in_err-put_record c =
    first_stopped c.args.out.now.items c.put_record.new.out.items (record_line c.args.one.now) (10 ∷ []) c.from_residual.result c.from_residual.ensures.0 c.in_err-put_record.ensures

pub returns : goal.returns
returns c =
    behind c.args.out.now.items c.put_record.new.out.items c.put_byte.new.out.items (record_line c.args.one.now) (10 ∷ []) c.put_byte.result c.in_ok-put_record.ensures c.put_byte.ensures
