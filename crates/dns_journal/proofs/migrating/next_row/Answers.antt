use Rattle.std.proofs.Common.{inl, w64}
use Rattle.std.proofs.lemmas.Int.{to_z-of_z}
use Rattle.dns_journal.proofs.Runs.{takes_as}
use Rattle.dns_journal.proofs.migrating.next_row.Goals as goal

pub returns-in-Some-clause-next : goal.returns-in-Some-clause-next
returns-in-Some-clause-next g c clean = inl (rw (to_z-of_z w64 c.args.id c.ranges.id) at c.in-Some.ensures.next)

pub returns-in-None-clause-next : goal.returns-in-None-clause-next
returns-in-None-clause-next g c =
    takes_as g.S.Store c.args.id c.args.conn.now c.read_next.new.conn c.args.page.now c.taken.new.page c.read_next.new.page c.read_next.result c.taken.ensures.held (rw (to_z-of_z w64 c.args.id c.ranges.id) at c.read_next.ensures.next)
