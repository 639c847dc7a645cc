use Rattle.dns_words.specs.Writing.{WantedMemory}
use Rattle.dns_edges.specs.Edges.{around}
use Rattle.dns_command.proofs.RefusalLines.{refuses_by_line}
use Rattle.dns_command.proofs.output.refuse_by_line.Goals as goal

pub returns-clause-ends : goal.returns-clause-ends
returns-clause-ends g c =
    refuses_by_line (around g.W.Sink.sink.told c.args.out.now c.put_refusal.new.out) (λ text. WantedMemory g.W.Sink.sink c.args.out.now text c.put_refusal.new.out) c.args.meant
    c.after_writing.result c.put_refusal.result c.requires.calm c.requires.told c.put_refusal.ensures c.after_writing.ensures
