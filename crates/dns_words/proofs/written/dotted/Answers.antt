use Rattle.std.proofs.Common.{sym, ap, ◌∙◌, Some}
use Rattle.dns_words.proofs.Addresses.{dotted_read, no_dotted}
use Rattle.dns_words.proofs.written.dotted.Goals as goal

pub returns-in-Ok : goal.returns-in-Ok
returns-in-Ok c = ap Some c.octets.ensures ∙ sym (dotted_read c.args.text.now c.in-Ok.address (rw c.as_bytes.ensures.value at c.in-Ok.ensures))

pub returns-in-Err : goal.returns-in-Err
returns-in-Err c = sym (no_dotted c.args.text.now (rw c.as_bytes.ensures.value at c.in-Err.ensures))
