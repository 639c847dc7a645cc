use Rattle.std.proofs.Common.{[], ◌∷◌}
use Rattle.std.specs.List.{flat_map}
use Rattle.dns_printed.specs.Printed.{label_character}
use Rattle.dns_printed.proofs.Putting.{behind, first_stopped}
use Rattle.dns_printed.proofs.names.put_label.Goals as goal

pub returns-in_err-put_label_characters : goal.returns-in_err-put_label_characters
returns-in_err-put_label_characters c =
    first_stopped c.args.out.now.items c.put_label_characters.new.out.items (flat_map label_character c.args.label.now) (46 ∷ []) c.from_residual.result c.from_residual.ensures.0 c.in_err-put_label_characters.ensures

pub returns : goal.returns
returns c =
    behind c.args.out.now.items c.put_label_characters.new.out.items c.put_byte.new.out.items (flat_map label_character c.args.label.now) (46 ∷ []) c.put_byte.result c.in_ok-put_label_characters.ensures c.put_byte.ensures
