use Rattle.std.proofs.Common.{rules}
use Rattle.dns_net.proofs.Numerals.{said-Some, said-None, said-hidden}
use Rattle.dns_net.proofs.checks.bytes_said.Goals as goal

pub returns-in_err-text : goal.returns-in_err-text
returns-in_err-text c = let said = said-hidden c.args.value.now.bytes c.in_err-text.ensures in search rules

pub returns-in-Ok : goal.returns-in-Ok
returns-in-Ok c = said-Some c.in_ok-text.text.now _ _ c.in_ok-text.ensures.0 c.in-Ok.ensures.value.0.0 c.in-Ok.ensures.value.0.1

pub returns-in-Err : goal.returns-in-Err
returns-in-Err c = said-None c.in_ok-text.text.now _ c.in_ok-text.ensures.0 c.in-Err.ensures.value.0
