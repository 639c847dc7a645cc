use Rattle.std.specs.List.{flat_map}
use Rattle.dns_printed.specs.Printed.{label_character}
use Rattle.dns_printed.proofs.Putting.{one_stopped}
use Rattle.dns_printed.proofs.names.put_label_characters.Goals as goal

pub returns-in_err-put_label_character : goal.returns-in_err-put_label_character
returns-in_err-put_label_character c =
    one_stopped label_character c.args.out.now.items c.loop-byte.out.items c.put_label_character.new.out.items (flat_map label_character c.args.label.now) c.args.label.now c.loop-byte.byte-index c.from_residual.result c.loop-byte-test.true c.loop-byte.invariant c.from_residual.ensures.0 c.in_err-put_label_character.ensures
