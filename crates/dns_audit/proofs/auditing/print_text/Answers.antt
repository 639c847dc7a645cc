use Rattle.dns_audit.proofs.PartsEnd.{text_did, text_refused}
use Rattle.dns_audit.proofs.auditing.print_text.Goals as goal

pub returns-in-Ok-clause-ends : goal.returns-in-Ok-clause-ends
returns-in-Ok-clause-ends g c =
    text_did g.W.Sink.sink c.args.out.now c.put_zone.new.out c.args.zone.now c.args.length c.serial.result c.in-Ok.lines c.after_writing.result c.put_zone.result
    c.in-Ok.ensures.lines c.serial.ensures c.in-Ok.ensures.printable c.put_zone.ensures c.after_writing.ensures

pub returns-in-Err-clause-ends : goal.returns-in-Err-clause-ends
returns-in-Err-clause-ends g c =
    text_refused g.W.Sink.sink c.args.out.now c.refuse.new.out c.args.zone.now c.args.length c.in-Err.fault c.status_of.result c.refuse.result
    c.in-Err.ensures.err c.status_of.ensures c.refuse.ensures.ends c.refuse.ensures.wanted
