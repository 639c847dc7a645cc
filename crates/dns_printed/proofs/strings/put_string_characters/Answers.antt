use Rattle.std.specs.List.{flat_map}
use Rattle.dns_printed.specs.Printed.{string_character}
use Rattle.dns_printed.proofs.Putting.{one_stopped}
use Rattle.dns_printed.proofs.strings.put_string_characters.Goals as goal

pub returns-in_err-put_string_character : goal.returns-in_err-put_string_character
returns-in_err-put_string_character c =
    one_stopped string_character c.args.out.now.items c.loop-byte.out.items c.put_string_character.new.out.items (flat_map string_character c.args.text.now) c.args.text.now c.loop-byte.byte-index c.from_residual.result c.loop-byte-test.true c.loop-byte.invariant c.from_residual.ensures.0 c.in_err-put_string_character.ensures
