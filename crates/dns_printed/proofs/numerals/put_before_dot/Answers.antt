use Rattle.std.proofs.Common.{[], ◌∷◌}
use Rattle.std.specs.Fmt.{decimal}
use Rattle.dns_printed.proofs.Putting.{behind, first_stopped}
use Rattle.dns_printed.proofs.numerals.put_before_dot.Goals as goal

pub returns-in_err-put_number : goal.returns-in_err-put_number
returns-in_err-put_number c =
    first_stopped c.args.out.now.items c.put_number.new.out.items (decimal c.args.number) (46 ∷ []) c.from_residual.result c.from_residual.ensures.0 c.in_err-put_number.ensures

pub returns : goal.returns
returns c =
    behind c.args.out.now.items c.put_number.new.out.items c.put_byte.new.out.items (decimal c.args.number) (46 ∷ []) c.put_byte.result c.in_ok-put_number.ensures c.put_byte.ensures
