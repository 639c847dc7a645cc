use Rattle.std.proofs.Common.{[], ◌∷◌}
use Rattle.std.specs.Fmt.{decimal}
use Rattle.dns_printed.proofs.Putting.{behind, first_stopped}
use Rattle.dns_printed.proofs.data_text.put_numbered_type.Goals as goal

pub returns-in_err-put_bytes : goal.returns-in_err-put_bytes
returns-in_err-put_bytes c =
    first_stopped c.args.out.now.items c.put_bytes.new.out.items (84 ∷ 89 ∷ 80 ∷ 69 ∷ []) (decimal c.args.number) c.from_residual.result c.from_residual.ensures.0 c.in_err-put_bytes.ensures

pub returns : goal.returns
returns c =
    behind c.args.out.now.items c.put_bytes.new.out.items c.put_number.new.out.items (84 ∷ 89 ∷ 80 ∷ 69 ∷ []) (decimal c.args.number) c.put_number.result c.in_ok-put_bytes.ensures c.put_number.ensures
