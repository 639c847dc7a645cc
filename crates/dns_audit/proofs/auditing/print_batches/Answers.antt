use Rattle.dns_edges.specs.Edges.{around}
use Rattle.dns_audit.proofs.PartsEnd.{list_did, list_refused}
use Rattle.dns_audit.proofs.auditing.print_batches.Goals as goal

pub returns-in-Ok-clause-ends : goal.returns-in-Ok-clause-ends
returns-in-Ok-clause-ends g c =
    let journal = around g.K.Keeper.keeper.told c.args.keeper.now c.list.new.keeper in
    list_did g.W.Sink.sink c.args.out.now c.put_batches.new.out journal c.args.origin.now c.in-Ok.listed.items c.after_writing.result c.put_batches.result
    c.in-Ok.ensures.ok (rw c.as_slice.ensures.value at c.put_batches.ensures) c.after_writing.ensures

pub returns-in-Err-clause-ends : goal.returns-in-Err-clause-ends
returns-in-Err-clause-ends g c =
    let journal = around g.K.Keeper.keeper.told c.args.keeper.now c.list.new.keeper in
    list_refused g.W.Sink.sink c.args.out.now c.refuse.new.out journal c.args.origin.now c.in-Err.fault c.status_of.result c.refuse.result
    c.in-Err.ensures.err c.status_of.ensures c.refuse.ensures.ends c.refuse.ensures.wanted
