use Rattle.std.proofs.Common.{sym, ap, ◌∙◌, Some}
use Rattle.dns_presentation.proofs.Addresses.{address_read, no_address}
use Rattle.dns_presentation.proofs.values.wide_address_of.Goals as goal

pub returns-in-Ok : goal.returns-in-Ok
returns-in-Ok c = ap Some c.to_bits.ensures ∙ sym (address_read c.args.text.now c.in-Ok.address c.in-Ok.ensures)

pub returns-in-Err : goal.returns-in-Err
returns-in-Err c = sym (no_address c.args.text.now c.in-Err.ensures)
