use Rattle.std.proofs.Common.{inr, w64}
use Rattle.std.proofs.lemmas.Int.{to_z-of_z}
use Rattle.sqlite.specs.Held.{state}
use Rattle.dns_journal.proofs.Pages.{first_in, opens_in}
use Rattle.dns_journal.proofs.migrating.read_next.Goals as goal

pub returns-clause-next : goal.returns-clause-next
returns-clause-next g c clean =
    let table = (state g.S.Store c.args.conn.now).now.trees 1 in
    let done = rw (to_z-of_z w64 c.args.id c.ranges.id) at c.in_ok-rows.ensures in
    inr (
      done.opened clean,
      λ has.
          let page = (done.found clean has).0 in
          let next = rw (to_z-of_z w64 c.args.id c.ranges.id) at c.new.ensures.next in
          (first_in c.new.result c.args.id table c.in_ok-rows.rows.items c.take.result c.new.ensures.rows page c.take.ensures.first, c.take.ensures.held table (opens_in c.new.result c.args.id table c.in_ok-rows.rows.items c.new.ensures.rows next page)),
    )
