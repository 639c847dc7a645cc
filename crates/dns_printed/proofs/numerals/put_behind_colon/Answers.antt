use Rattle.std.proofs.Common.{[], ◌∷◌}
use Rattle.std.specs.Net.Text.{hex}
use Rattle.dns_printed.proofs.Putting.{behind, first_stopped}
use Rattle.dns_printed.proofs.numerals.put_behind_colon.Goals as goal

pub returns-in_err-put_byte : goal.returns-in_err-put_byte
returns-in_err-put_byte c =
    first_stopped c.args.out.now.items c.put_byte.new.out.items (58 ∷ []) (hex c.args.group) c.from_residual.result c.from_residual.ensures.0 c.in_err-put_byte.ensures

pub returns : goal.returns
returns c =
    behind c.args.out.now.items c.put_byte.new.out.items c.put_group.new.out.items (58 ∷ []) (hex c.args.group) c.put_group.result c.in_ok-put_byte.ensures c.put_group.ensures
