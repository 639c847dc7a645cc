use Rattle.std.specs.Net.Text.{hex}
use Rattle.dns_printed.proofs.Putting.{same_text, hex_group}
use Rattle.dns_printed.proofs.numerals.put_group.Goals as goal

pub returns : goal.returns
returns c =
    same_text c.args.out.now.items c.put_bytes.new.out.items c.split_at.result.1.now (hex c.args.group) c.put_bytes.result
    (hex_group c.args.group c.leading_zero_digits.result c.as_slice.result.now c.split_at.result.1.now (rw (← c.digit.ensures, ← c.digit-2.ensures, ← c.digit-3.ensures, ← c.digit-4.ensures) c.as_slice.ensures) c.leading_zero_digits.ensures.is c.split_at.ensures.back)
    c.put_bytes.ensures
