use denote.Param.Send.{sendable}
use Rattle.dns_journal.proofs.SentJournal.{file_journal_send}
use Rattle.dns_program.proofs.server.command.Goals as goal

pub command_over-status-requires-in-InFile-send-K : goal.command_over-status-requires-in-InFile-send-K
command_over-status-requires-in-InFile-send-K g c κs = search (sendable, file_journal_send)
