use Rattle.dns_edges.specs.Edges.{around}
use Rattle.dns_audit.proofs.PartsEnd.{rows_did, rows_refused}
use Rattle.dns_audit.proofs.auditing.print_compacted.Goals as goal

pub returns-in-Ok-clause-ends : goal.returns-in-Ok-clause-ends
returns-in-Ok-clause-ends g c =
    let journal = around g.K.Keeper.keeper.told c.args.keeper.now c.compact.new.keeper in
    let other = around g.L.Keeper.keeper.told c.args.into.now c.compact.new.into in
    rows_did g.W.Sink.sink c.args.out.now c.put_rows.new.out c.args.origin.now c.args.moment c.in-Ok.rows journal other c.after_writing.result c.put_rows.result
    c.in-Ok.ensures.ok c.put_rows.ensures c.after_writing.ensures

pub returns-in-Err-clause-ends : goal.returns-in-Err-clause-ends
returns-in-Err-clause-ends g c =
    let journal = around g.K.Keeper.keeper.told c.args.keeper.now c.compact.new.keeper in
    let other = around g.L.Keeper.keeper.told c.args.into.now c.compact.new.into in
    rows_refused g.W.Sink.sink c.args.out.now c.refuse.new.out c.args.origin.now c.args.moment journal other c.in-Err.fault c.status_of.result c.refuse.result
    c.in-Err.ensures.err c.status_of.ensures c.refuse.ensures.ends c.refuse.ensures.wanted
