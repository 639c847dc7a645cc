use Rattle.dns_laws.proofs.InTurn.{done-append, after-append}
use Rattle.dns_laws.proofs.lists.lists_in_turn.Goals as goal

pub returns : goal.returns
returns c = record { messages = done-append; left = after-append }
