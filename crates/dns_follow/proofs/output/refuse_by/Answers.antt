use Rattle.dns_edges.specs.Edges.{around}
use Rattle.dns_follow.proofs.RefusalLines.{refuses_by, wanted_by}
use Rattle.dns_follow.proofs.output.refuse_by.Goals as goal

pub returns-clause-ends : goal.returns-clause-ends
returns-clause-ends g c =
    refuses_by (around g.W.Sink.sink.told c.args.out.now c.put_whole.new.out) c.args.meant c.after_writing.result c.args.line.now c.put_whole.result c.requires.line c.requires.some c.put_whole.ensures.written c.after_writing.ensures

pub returns-clause-wanted : goal.returns-clause-wanted
returns-clause-wanted g c =
    wanted_by g.W.Sink.sink c.args.out.now c.put_whole.new.out c.args.meant c.after_writing.result c.args.line.now c.put_whole.result c.requires.line c.requires.some c.after_writing.ensures c.put_whole.ensures.wanted
