use Rattle.dns_server_core.proofs.PieceCut.{cut_piece}
use Rattle.dns_server_core.proofs.laws.completed_messages.Goals as goal

pub returns : goal.returns
returns c = record { cut = cut_piece }
