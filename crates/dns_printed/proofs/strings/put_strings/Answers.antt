use Rattle.std.proofs.Common.{◌∷◌, map}
use Rattle.dns_printed.specs.Appending.{IsPutUpTo}
use Rattle.dns_printed.specs.Printed.{spaced, string_text}
use Rattle.dns_printed.proofs.Putting.{part_stopped}
use Rattle.dns_printed.proofs.strings.put_strings.Goals as goal

pub returns-in_err-put_string : goal.returns-in_err-put_string
returns-in_err-put_string c =
    let before : IsPutUpTo c.args.out.now.items c.loop-text.out.items (spaced (map string_text c.args.texts.now)) (spaced (map string_text (c.in-Some.text.now ∷ c.next.new.self))) = rw c.in-Some.ensures.steps at c.loop-text.invariant in
    part_stopped c.args.out.now.items c.loop-text.out.items c.put_string.new.out.items (spaced (map string_text c.args.texts.now)) (32 ∷ string_text c.in-Some.text.now) (spaced (map string_text c.next.new.self)) c.from_residual.result before c.from_residual.ensures.0 c.in_err-put_string.ensures
