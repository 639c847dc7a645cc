-- The entry stands in the order beside those that are kept.
use Rattle.dns_crowd.proofs.Timed.{entries_more, put_entries, put_stands}
use Rattle.dns_crowd.proofs.connections.put_in_order.Goals as goal

pub returns-clause-ok : goal.returns-clause-ok
returns-clause-ok c = put_stands c.put.result (c.args.until, c.args.number) c.tidy.new.order c.put.new.self c.put.ensures.ok

pub returns-clause-kept : goal.returns-clause-kept
returns-clause-kept c =
    entries_more c.args.order.now c.tidy.new.order c.put.new.self c.args.sessions.now c.tidy.ensures
    (put_entries c.put.result (c.args.until, c.args.number) c.tidy.new.order c.put.new.self c.args.sessions.now c.put.ensures.ok c.put.ensures.err)
