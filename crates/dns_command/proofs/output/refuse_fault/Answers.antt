use Rattle.dns_command.proofs.RefusalLines.{refuses_fault}
use Rattle.dns_command.proofs.output.refuse_fault.Goals as goal

pub returns-clause-ends : goal.returns-clause-ends
returns-clause-ends g c =
    refuses_fault g.W.Sink.sink c.args.out.now c.put_whole.new.out c.args.meant c.after_writing.result c.args.line.now c.put_whole.result c.requires.line c.requires.fault
    c.put_whole.ensures.written c.put_whole.ensures.wanted c.after_writing.ensures
